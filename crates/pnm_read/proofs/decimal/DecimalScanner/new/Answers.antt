use Rattle.pnm_read.proofs.Words.{refl}
use Rattle.pnm_read.proofs.DecimalSteps.{decimal_fresh}
use Rattle.pnm_read.proofs.decimal.DecimalScanner.new.Goals as goal

pub returns : goal.returns
returns c = decimal_fresh refl refl refl refl
