use Rattle.pnm_read.proofs.Words.{arith, common_steps}
use Rattle.pnm_read.proofs.buffered_reader.BufferedReader.holds.Goals as goal

pub returns-else-self : goal.returns-else-self
returns-else-self g c = grind (arith, common_steps)
