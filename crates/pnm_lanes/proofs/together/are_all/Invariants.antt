use Rattle.pnm_lanes.proofs.Words.{◌≡◌, ◌<◌, ℕ, at_lane, in_held, next_of}
use Rattle.pnm_lanes.proofs.together.are_all.Given as goal

-- it is so of the lanes before this one
abbrev pub invariant-loop-lane : goal.invariant-loop-lane
invariant-loop-lane l = (lane : ℕ) → lane < l.lane → next_of (at_lane in_held l.held lane) ≡ l.next
