use Rattle.pnm_samples.proofs.Words.{ℕ, ◌*◌, drop, take, bytes_for}
use Rattle.pnm_samples.proofs.BitRowsMade.{AreCopied}
use Rattle.pnm_samples.proofs.bit_rows.BitRows.widen.Given as goal

-- the first bytes of the rows that have passed were copied
abbrev pub invariant-loop-row : goal.invariant-loop-row
invariant-loop-row l = AreCopied (λ (k : ℕ). take (bytes_for l.each) (drop (k * l.apart) l.wide.items)) l.row (bytes_for l.each) l.bytes.items
