use Rattle.pnm_lanes.proofs.Words.{arith, common_steps}
use Rattle.pnm_lanes.proofs.agreement.sum_of.Goals as goal

pub returns-then-sum-from-clause-none : goal.returns-then-sum-from-clause-none
returns-then-sum-from-clause-none c = grind (arith, common_steps)
