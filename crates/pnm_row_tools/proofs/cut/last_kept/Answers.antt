use Rattle.pnm_row_tools.proofs.Words.{arith, common_steps}
use Rattle.pnm_row_tools.proofs.cut.last_kept.Goals as goal

pub overflow_sub-result : goal.overflow_sub-result
overflow_sub-result c = grind (arith, common_steps)

pub overflow_add-result : goal.overflow_add-result
overflow_add-result c = grind (arith, common_steps)

pub returns-in_default-None-None : goal.returns-in_default-None-None
returns-in_default-None-None c = grind (arith, common_steps)

pub returns-in-None-None-Some : goal.returns-in-None-None-Some
returns-in-None-None-Some c = grind (arith, common_steps)
