use Rattle.pnm_transpose.proofs.Words.{◌+◌, drop, length, take, HavePixels, column_of}
use Rattle.pnm_transpose.proofs.batch.put_some.Given as goal

-- the pixels of the rows that have passed
abbrev pub invariant-loop-n : goal.invariant-loop-n
invariant-loop-n g l =
    HavePixels (length l.initial.columns) l.at (λ k. column_of l.depth (take l.n (drop l.y l.rows)) (l.first + k)) l.initial.columns l.columns
