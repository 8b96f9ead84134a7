use Rattle.pnm_row_tools.proofs.Words.{arith, common_steps}
use Rattle.pnm_row_tools.proofs.depth.kind_at.Goals as goal

pub returns-in-Bit : goal.returns-in-Bit
returns-in-Bit c = grind (arith, common_steps)

pub returns-in_default : goal.returns-in_default
returns-in_default c = grind (arith, common_steps)
