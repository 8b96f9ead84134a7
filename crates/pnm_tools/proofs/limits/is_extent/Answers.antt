use Rattle.pnm_tools.proofs.Words.{arith, common_steps}
use Rattle.pnm_tools.proofs.limits.is_extent.Goals as goal

pub returns-then-count-ge1 : goal.returns-then-count-ge1
returns-then-count-ge1 c = grind (arith, common_steps)
