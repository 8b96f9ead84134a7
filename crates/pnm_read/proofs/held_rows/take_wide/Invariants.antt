use Rattle.pnm_read.proofs.Words.{◌≡◌, ◌≤◌, held_of, AreHeldWide}
use Rattle.pnm_read.proofs.held_rows.take_wide.Given as goal

abbrev pub invariant-loop-count : goal.invariant-loop-count
invariant-loop-count g l = (l.count ≤ l.fn.count) × (l.input ≡ l.initial.input) × AreHeldWide l.raster l.count (held_of l.input)

abbrev pub decreases-loop-count : goal.decreases-loop-count
decreases-loop-count g l = l.count
