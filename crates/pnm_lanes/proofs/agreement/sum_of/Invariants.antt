use Rattle.pnm_lanes.proofs.Words.{◌≡◌, ◌*◌, ◌≤◌, take, sum}
use Rattle.pnm_lanes.proofs.agreement.sum_of.Given as goal

-- the sum so far
abbrev pub invariant-loop-height : goal.invariant-loop-height
invariant-loop-height l = (l.sum ≡ sum (take l.height-index l.heights)) × (l.sum ≤ 4294967295 * l.height-index)
