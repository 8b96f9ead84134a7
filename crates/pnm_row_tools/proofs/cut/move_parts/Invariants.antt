use Rattle.pnm_row_tools.proofs.Words.{◌*◌}
use Rattle.pnm_row_tools.proofs.EachRowLaws.{AreMoved}
use Rattle.pnm_row_tools.proofs.cut.move_parts.Given as goal

-- the parts of the rows that have passed stand at the front
abbrev pub invariant-loop-i : goal.invariant-loop-i
invariant-loop-i g l = AreMoved (l.parts.top * l.parts.row_length) l.parts.first l.parts.kept l.parts.row_length l.i l.fn.samples l.samples
