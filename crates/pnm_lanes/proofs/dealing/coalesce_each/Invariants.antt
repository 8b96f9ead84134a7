use Rattle.pnm_lanes.proofs.Words.{AtEach, IsSameEnd}
use Rattle.pnm_lanes.proofs.dealing.coalesce_each.Given as goal

-- nothing was sent
abbrev pub invariant-loop-lane : goal.invariant-loop-lane
invariant-loop-lane l = AtEach IsSameEnd l.fn.outputs l.outputs
