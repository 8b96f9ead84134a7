use Rattle.pnm_samples.proofs.Words.{ℕ, ◌+◌, [], drop, get_or, take, bytes_for}
use Rattle.pnm_samples.proofs.BitRowsMade.{AreFilled, HasPixels}
use Rattle.pnm_samples.proofs.bit_rows.BitRows.part.Given as goal

-- the rows that have passed have these pixels of those
abbrev pub invariant-loop-row : goal.invariant-loop-row
invariant-loop-row l =
    AreFilled (HasPixels l.each (λ (k : ℕ). take l.each (drop l.left (get_or l.self (l.top + k) [])))) l.row l.count (bytes_for l.each) l.bytes.items
