use Rattle.pnm_lanes.proofs.Words.{◌≡◌, ◌≤◌, length, vec_capacity, AreUnused}
use Rattle.pnm_lanes.proofs.lane_rings.LaneRings.new.Given as goal

-- rings to and from each lane so far
abbrev pub invariant-loop : goal.invariant-loop
invariant-loop l =
    AreUnused l.outputs.items l.ends.items l.inputs.items × (l.counter ≤ l.lanes)
    × ((length l.outputs.items ≡ l.counter) × (length l.ends.items ≡ l.counter) × (length l.inputs.items ≡ l.counter))
    × ((l.lanes ≤ vec_capacity l.outputs) × (l.lanes ≤ vec_capacity l.ends) × (l.lanes ≤ vec_capacity l.inputs))
