use Rattle.pnm_samples.proofs.Words.{List, ℕ, reverse, take, all_pixels}
use Rattle.pnm_samples.proofs.BitRowLaws.{AreChanged}
use Rattle.pnm_samples.proofs.bit_rows.mirror_each.Given as goal

-- the rows that have passed are turned round
abbrev pub invariant-loop-row : goal.invariant-loop-row
invariant-loop-row l = AreChanged (λ (row : List ℕ). reverse (take l.each (all_pixels row))) l.row l.count l.each l.initial.bytes l.bytes
