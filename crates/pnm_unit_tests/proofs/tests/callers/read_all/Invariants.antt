-- The text has grown by the bytes that the reader has lost, and the reader has failed no further.
-- The loop ends since a vector holds less than 2 ^ 63 bytes.
use Rattle.std.proofs.Common.{◌≡◌, ℕ, ◌^◌, ◌-◌, List, ◌++◌, length}
use Rattle.std.specs.Io.KnownBytes.{Consumes}
use Rattle.pnm_unit_tests.proofs.tests.callers.read_all.Given as goal

abbrev pub invariant-loop-count : goal.invariant-loop-count
invariant-loop-count g l = (bytes : List ℕ)
    × (l.text.items ≡ l.initial.text.items ++ bytes)
    × Consumes (g.R.BytesIn.left l.initial.reader) (g.R.BytesIn.left l.reader) bytes
    × (g.R.BytesIn.failures l.reader ≡ g.R.BytesIn.failures l.initial.reader)
    × g.R.BytesIn.same l.initial.reader l.reader

abbrev pub decreases-loop-count : goal.decreases-loop-count
decreases-loop-count g l = 2 ^ 63 - length l.text.items
