use Rattle.pnm_transpose.proofs.Words.{◌+◌, drop, take, HavePixels, column_of}
use Rattle.pnm_transpose.proofs.batch.put_four_samples.Given as goal

-- the columns that have passed got their pixels
abbrev pub invariant-loop-k : goal.invariant-loop-k
invariant-loop-k g l = HavePixels l.k l.at (λ k. column_of 1 (take 4 (drop l.y l.rows)) (l.first + k)) l.initial.columns l.columns
