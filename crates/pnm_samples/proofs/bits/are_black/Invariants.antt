use Rattle.pnm_samples.proofs.Words.{ℕ, ◌≤◌, ◌<◌, get_or, all_pixels}
use Rattle.pnm_samples.proofs.bits.are_black.Given as goal

-- the pixels that have passed are black
abbrev pub invariant-loop-at : goal.invariant-loop-at
invariant-loop-at l = (k : ℕ) → k < l.at → get_or (all_pixels l.bytes) k 0 ≤ 0
