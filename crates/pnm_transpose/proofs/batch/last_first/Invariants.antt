use Rattle.pnm_transpose.proofs.Words.{◌≡◌, ◌++◌, length, map, reverse}
use Rattle.pnm_transpose.proofs.batch.last_first.Given as goal

-- the last columns have gone over
abbrev pub invariant-loop-column : goal.invariant-loop-column
invariant-loop-column g l = l.batch.items ++ reverse (map g.C.Column.samples l.columns.items) ≡ reverse (map g.C.Column.samples l.initial.columns.items)

abbrev pub decreases-loop-column : goal.decreases-loop-column
decreases-loop-column g l = length l.columns.items
