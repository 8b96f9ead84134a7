use Rattle.pnm_lanes.proofs.Words.{◌≡◌, ◌<◌, ℕ, length, get_or, dealt_height}
use Rattle.pnm_lanes.proofs.agreement.whole_height.Given as goal

-- the heights before this one are dealt
abbrev pub invariant-loop-lane : goal.invariant-loop-lane
invariant-loop-lane l = (lane : ℕ) → lane < l.lane → get_or l.heights lane 0 ≡ dealt_height lane (length l.heights) l.height
