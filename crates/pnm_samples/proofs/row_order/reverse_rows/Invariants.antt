use Rattle.pnm_samples.proofs.Words.{◌≡◌}
use Rattle.pnm_samples.proofs.RowOrderLaws.{swapped}
use Rattle.pnm_samples.proofs.row_order.reverse_rows.Given as goal

-- the rows that have passed, and those as far from the end, have changed places
abbrev pub invariant-loop-row : goal.invariant-loop-row
invariant-loop-row g l = l.samples ≡ swapped l.count l.each l.row l.initial.samples
