use Rattle.pnm_lanes.proofs.LaneRuns.{lanes_are_a_stage as by_ends}
use Rattle.pnm_lanes.proofs.laws.lanes_are_a_stage.Goals as goal

pub returns : goal.returns
returns c = by_ends
