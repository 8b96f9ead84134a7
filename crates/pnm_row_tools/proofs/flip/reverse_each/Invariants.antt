use Rattle.pnm_row_tools.proofs.Words.{row_length}
use Rattle.pnm_row_tools.proofs.FlipRowsLaws.{AreMirrored}
use Rattle.pnm_row_tools.proofs.flip.reverse_each.Given as goal

-- the rows that have passed are mirrored
abbrev pub invariant-loop-i : goal.invariant-loop-i
invariant-loop-i g l = AreMirrored l.fn.shape (row_length l.fn.shape) l.i l.fn.samples l.samples
