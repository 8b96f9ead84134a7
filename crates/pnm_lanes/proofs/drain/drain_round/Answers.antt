use Rattle.pnm_lanes.proofs.LaneLists.{are_themselves}
use Rattle.pnm_lanes.proofs.DrainSteps.{carries_nothing, tried_both}
use Rattle.pnm_lanes.proofs.drain.drain_round.Goals as goal

pub loop-lane-init : goal.loop-lane-init
loop-lane-init c = (
  are_themselves c.args.inputs.now,
  carries_nothing,
)

pub loop-lane-preserved : goal.loop-lane-preserved
loop-lane-preserved c = tried_both c.args.inputs.now c.loop-lane.inputs c.drain_lane.new.inputs
    c.loop-lane.invariant c.drain_lane.ensures.inputs c.drain_lane.ensures.carried
