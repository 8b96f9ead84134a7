use Rattle.pnm_row_tools.proofs.Words.{arith, common_steps}
use Rattle.pnm_row_tools.proofs.cut.edge_of.Goals as goal

pub returns-then-edge-lt0 : goal.returns-then-edge-lt0
returns-then-edge-lt0 c = grind (arith, common_steps)
