use Rattle.std.proofs.Common.{◌≡◌, ◌*◌, length}
use Rattle.pnm_samples.specs.PixelRows.{bytes_for}
use Rattle.pnm_test_support.proofs.together.rows_of_bits.Given as goal

-- so many rows have their bytes
abbrev pub invariant-loop-row : goal.invariant-loop-row
invariant-loop-row l = length l.bytes.items ≡ l.row * bytes_for l.row_length
