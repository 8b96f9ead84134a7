use Rattle.pnm_samples.proofs.Words.{List, ℕ, take, all_pixels}
use Rattle.pnm_samples.proofs.BitRowLaws.{AreChanged}
use Rattle.pnm_samples.proofs.bit_rows.clear_spare_of_each.Given as goal

-- the rows that have passed are packed, and all are as they were
abbrev pub invariant-loop-row : goal.invariant-loop-row
invariant-loop-row l = AreChanged (λ (row : List ℕ). take l.each (all_pixels row)) l.row l.count l.each l.initial.bytes l.bytes
