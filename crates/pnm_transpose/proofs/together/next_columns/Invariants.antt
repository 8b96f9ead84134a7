use Rattle.pnm_transpose.proofs.Words.{◌≡◌, ◌≤◌, ◌++◌, ◌-◌, reverse, HoldsWithin}
use Rattle.pnm_image.specs.HeldRows.{row_lists}
use Rattle.pnm_transpose.proofs.together.next_columns.Given as goal

-- so many columns are held, and the others wait
abbrev pub invariant-loop-count : goal.invariant-loop-count
invariant-loop-count l = record {
  some : 1 ≤ l.count;
  held : HoldsWithin l.count l.each l.bound l.held;
  all : reverse l.fn.batch.items ≡ row_lists l.count l.each l.held ++ reverse l.batch.items;
}

abbrev pub decreases-loop-count : goal.decreases-loop-count
decreases-loop-count l = l.most - l.count
