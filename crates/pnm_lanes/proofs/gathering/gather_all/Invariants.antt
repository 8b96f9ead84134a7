use Rattle.pnm_lanes.proofs.Words.{◌≡◌, length, sent, received, SameSender, at_lane, AreSameInputs}
use Rattle.pnm_lanes.proofs.GatherSteps.{IsGathering}
use Rattle.pnm_lanes.proofs.gathering.gather_all.Given as goal

-- each lane has given its part of what was sent so far, and then what is held of it
abbrev pub invariant-loop : goal.invariant-loop
invariant-loop g l =
    AreSameInputs l.fn.inputs l.inputs
    × SameSender l.fn.output l.output
    × IsGathering (length l.fn.inputs) l.place l.states (at_lane received l.fn.inputs) (at_lane received l.inputs) l.held (sent l.fn.output) (sent l.output)
    × (length l.states ≡ length l.fn.inputs)
    × (length l.held ≡ length l.fn.inputs)
