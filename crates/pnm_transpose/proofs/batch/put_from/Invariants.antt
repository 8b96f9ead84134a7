use Rattle.pnm_transpose.proofs.Words.{◌+◌, ◌*◌, drop, length, take, HavePixels, column_of}
use Rattle.pnm_transpose.proofs.batch.put_from.Given as goal

-- the pixels of the rows that have passed
abbrev pub invariant-loop-group : goal.invariant-loop-group
invariant-loop-group g l = HavePixels (length l.initial.columns) l.at (λ k. column_of l.depth (take (4 * l.group) (drop l.begun l.rows)) (l.first + k))
    l.initial.columns
    l.columns
