use Rattle.pnm_tools.proofs.Words.{refl}
use Rattle.pnm_tools.proofs.laws.dealt_examples_hold.Goals as goal

pub returns : goal.returns
returns c = record {
  three_first = refl;
  three_second = refl;
  two_first = refl;
  two_second = refl;
  two_third = refl;
  none = refl;
  alone = refl;
  stream = refl;
  stopped = refl;
  cut = refl;
}
