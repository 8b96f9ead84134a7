use Rattle.pnm_samples.proofs.Words.{◌≤◌, ◌↔◌, ℕ, All, take}
use Rattle.pnm_samples.proofs.bounds.greatest_byte.Given as goal

-- the greatest of the bytes that have passed
abbrev pub invariant-loop-byte : goal.invariant-loop-byte
invariant-loop-byte l = (most : ℕ) → (l.greatest ≤ most) ↔ All (λ sample. sample ≤ most) (take l.byte-index l.bytes)
