use Rattle.pnm_read.proofs.Words.{◌≤◌, ◌*◌, length}
use Rattle.pnm_read.proofs.held_rows.count_within.Given as goal

abbrev pub invariant-loop-count : goal.invariant-loop-count
invariant-loop-count l = (l.count ≤ l.fn.count) × (l.count * l.raster.units ≤ length l.bytes)

abbrev pub decreases-loop-count : goal.decreases-loop-count
decreases-loop-count l = l.count
