use Rattle.pnm_lanes.proofs.Words.{◌≡◌, ◌<◌, ◌≤◌, ℕ, length, drop, at_lane, in_held}
use Rattle.pnm_lanes.proofs.together.pass_each.Given as goal

-- the lanes before this one have passed on what came next
abbrev pub invariant-loop-lane : goal.invariant-loop-lane
invariant-loop-lane l =
    ((other : ℕ) → other < l.lane → at_lane in_held l.held other ≡ drop 1 (at_lane in_held l.fn.held other))
    × ((other : ℕ) → l.lane ≤ other → at_lane in_held l.held other ≡ at_lane in_held l.fn.held other)
    × (length l.held ≡ length l.fn.held)
