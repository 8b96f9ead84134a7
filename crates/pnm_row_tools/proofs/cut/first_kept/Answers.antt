use Rattle.pnm_row_tools.proofs.Words.{arith, common_steps}
use Rattle.pnm_row_tools.proofs.cut.first_kept.Goals as goal

pub returns-in-Some-default-default : goal.returns-in-Some-default-default
returns-in-Some-default-default c = grind (arith, common_steps)

pub returns-in-None-Some-Some : goal.returns-in-None-Some-Some
returns-in-None-Some-Some c = grind (arith, common_steps)

pub overflow_sub-result : goal.overflow_sub-result
overflow_sub-result c = grind (arith, common_steps)

pub overflow_add-result : goal.overflow_add-result
overflow_add-result c = grind (arith, common_steps)
