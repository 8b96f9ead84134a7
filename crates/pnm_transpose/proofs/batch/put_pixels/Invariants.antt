use Rattle.pnm_transpose.proofs.Words.{◌+◌, HavePixels, pixel_of}
use Rattle.pnm_transpose.proofs.batch.put_pixels.Given as goal

-- the columns that have passed got their pixels
abbrev pub invariant-loop-k : goal.invariant-loop-k
invariant-loop-k g l = HavePixels l.k l.at (λ k. pixel_of l.depth l.row (l.first + k)) l.initial.columns l.columns
