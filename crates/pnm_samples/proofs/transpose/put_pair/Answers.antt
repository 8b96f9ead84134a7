use Rattle.pnm_samples.proofs.Words.{arith, common_steps}
use Rattle.pnm_samples.proofs.transpose.put_pair.Goals as goal

pub returns : goal.returns
returns c = grind (arith, common_steps)
