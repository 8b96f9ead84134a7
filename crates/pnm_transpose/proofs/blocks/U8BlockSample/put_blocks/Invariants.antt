use Rattle.pnm_transpose.proofs.Words.{◌+◌, ◌*◌, length, take, HavePixels, column_of}
use Rattle.pnm_transpose.proofs.blocks.U8BlockSample.put_blocks.Given as goal

-- the pixels of the rows that have passed
abbrev pub invariant-loop-group : goal.invariant-loop-group
invariant-loop-group l =
    HavePixels (length l.fn.columns) l.at (λ k. column_of 1 (take (16 * l.group) l.rows) (l.first + k)) l.fn.columns l.columns
