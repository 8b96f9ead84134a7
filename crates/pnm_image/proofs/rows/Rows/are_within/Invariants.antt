use Rattle.std.proofs.Common.{ℕ, ◌<◌, ◌≤◌, All, List, get_or}
use Rattle.pnm_image.proofs.rows.Rows.are_within.Given as goal

-- no sample of the rows that have passed is above the number
abbrev pub invariant-loop-at : goal.invariant-loop-at
invariant-loop-at l = (k : ℕ) (d : List ℕ) → k < l.at → All (λ sample. sample ≤ l.most) (get_or l.self k d)
