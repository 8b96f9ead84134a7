use Rattle.pnm_read.proofs.Words.{arith, common_steps}
use Rattle.pnm_read.proofs.header.HeaderScanner.push_digit.Goals as goal

pub returns : goal.returns
returns c = grind (arith, common_steps)
