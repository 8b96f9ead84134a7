use Rattle.pnm_samples.proofs.Words.{◌≡◌, length, map, take, all_pixels}
use Rattle.pnm_samples.proofs.transpose.columns.Given as goal

-- the columns that have passed
abbrev pub invariant-loop-column : goal.invariant-loop-column
invariant-loop-column l = l.made.items ≡ map (λ column. take (length l.rows) (all_pixels column.items)) l.yielded
