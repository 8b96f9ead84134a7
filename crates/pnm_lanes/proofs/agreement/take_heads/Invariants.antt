use Rattle.pnm_lanes.proofs.Words.{◌≡◌, ◌≤◌, length}
use Rattle.pnm_lanes.proofs.HeadSteps.{AreAlikeUntil}
use Rattle.pnm_lanes.proofs.agreement.take_heads.Given as goal

-- the heads of the lanes before this one were taken, and are alike
abbrev pub invariant-loop-lane : goal.invariant-loop-lane
invariant-loop-lane l =
    AreAlikeUntil l.lane l.first l.heights l.fn.held l.held × (length l.heights ≡ 8) × (length l.held ≡ length l.fn.held) × (1 ≤ l.lane)
