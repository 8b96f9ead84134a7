use Rattle.pnm_lanes.proofs.Words.{arith, common_steps}
use Rattle.pnm_lanes.proofs.drain.outcome.Goals as goal

pub loop-state-preserved : goal.loop-state-preserved
loop-state-preserved c = grind (arith, common_steps)
