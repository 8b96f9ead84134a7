use Rattle.pnm_samples.proofs.Words.{List, ℕ, ◌-◌, ◌%◌, drop, all_pixels}
use Rattle.pnm_samples.proofs.BitRowLaws.{AreChanged}
use Rattle.pnm_samples.proofs.bit_rows.move_each_to_end.Given as goal

-- the white pixels of the rows that have passed are at their ends
abbrev pub invariant-loop-row : goal.invariant-loop-row
invariant-loop-row l = AreChanged (λ (row : List ℕ). drop ((8 - l.each % 8) % 8) (all_pixels row)) l.row l.count l.each l.initial.bytes l.bytes
