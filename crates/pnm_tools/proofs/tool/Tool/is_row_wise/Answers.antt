use Rattle.pnm_tools.proofs.Words.{arith, common_steps}
use Rattle.pnm_tools.proofs.tool.Tool.is_row_wise.Goals as goal

pub returns-in-Enlarge : goal.returns-in-Enlarge
returns-in-Enlarge c = grind (arith, common_steps)
