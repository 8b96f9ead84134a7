use Rattle.pnm_lanes.proofs.Words.{length, unfed_in, IsLaneCount}
use Rattle.pnm_lanes.proofs.MessageSteps.{HasDealtBefore}
use Rattle.pnm_lanes.proofs.dealing.deal_unfed.Given as goal

-- what was taken of the packet was dealt
abbrev pub invariant-loop-next : goal.invariant-loop-next
invariant-loop-next g l =
    IsLaneCount (length l.outputs) × HasDealtBefore l.fn.place l.place (unfed_in l.fn.unfed) (unfed_in l.unfed) l.fn.outputs l.outputs

abbrev pub decreases-loop-next : goal.decreases-loop-next
decreases-loop-next g l = length (unfed_in l.unfed)
