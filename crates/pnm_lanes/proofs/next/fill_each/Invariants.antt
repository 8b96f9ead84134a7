use Rattle.pnm_lanes.proofs.Words.{◌≡◌, ◌<◌, ◌≤◌, ℕ, List, length, received, at_lane, Message, AreSameInputs, AreHolding, in_held}
use Rattle.pnm_lanes.proofs.next.fill_each.Given as goal

-- something is held of the lanes before this one
abbrev pub invariant-loop-lane : goal.invariant-loop-lane
invariant-loop-lane g l =
    AreSameInputs l.fn.inputs l.inputs
    × ((passed : ℕ → List Message) → AreHolding (length l.fn.inputs) l.fn.states passed (at_lane received l.fn.inputs) l.fn.held
    → AreHolding (length l.fn.inputs) l.states passed (at_lane received l.inputs) l.held)
    × ((other : ℕ) → other < l.lane → 1 ≤ length (at_lane in_held l.held other))
    × (length l.states ≡ length l.fn.states)
    × (length l.held ≡ length l.fn.held)
