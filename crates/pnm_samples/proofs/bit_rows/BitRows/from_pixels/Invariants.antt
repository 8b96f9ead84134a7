use Rattle.pnm_samples.proofs.Words.{bytes_for}
use Rattle.pnm_samples.proofs.BitRowsMade.{AreFilled, IsPacked}
use Rattle.pnm_samples.proofs.bit_rows.BitRows.from_pixels.Given as goal

-- the rows that have passed are those of the samples
abbrev pub invariant-loop-row : goal.invariant-loop-row
invariant-loop-row l = AreFilled (IsPacked l.each l.pixels) l.row l.count (bytes_for l.each) l.bytes.items
