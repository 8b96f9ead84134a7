use Rattle.pnm_tools.proofs.Words.{arith, rules, common_steps}
use Rattle.pnm_tools.proofs.head.head_within_limits.Goals as goal

pub returns-in-Err : goal.returns-in-Err
returns-in-Err c = grind (arith, common_steps)

pub returns-in-Ok-clause-made : goal.returns-in-Ok-clause-made
returns-in-Ok-clause-made c = search rules
