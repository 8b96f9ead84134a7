use Rattle.pnm_lanes.proofs.Words.{length}
use Rattle.pnm_lanes.proofs.MergeSteps.{IsMerging}
use Rattle.pnm_lanes.proofs.merging.merged.Given as goal

-- the last lanes were looked at
abbrev pub invariant-loop-lane : goal.invariant-loop-lane
invariant-loop-lane l = IsMerging l.initial.outputs.items l.initial.lanes.items l.initial.inputs.items l.initial.end l.outputs.items l.lanes.items
    l.inputs.items l.end

abbrev pub decreases-loop-lane : goal.decreases-loop-lane
decreases-loop-lane l = length l.lanes.items
