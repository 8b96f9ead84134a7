use Rattle.pnm_samples.proofs.Words.{◌≤◌, ◌↔◌, ℕ, All, take}
use Rattle.pnm_samples.proofs.bounds.greatest.Given as goal

-- the greatest of the samples that have passed
abbrev pub invariant-loop-sample : goal.invariant-loop-sample
invariant-loop-sample l = (most : ℕ) → (l.greatest ≤ most) ↔ All (λ sample. sample ≤ most) (take l.sample-index l.row)
