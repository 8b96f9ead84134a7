use Rattle.pnm_samples.proofs.Words.{min, ◌*◌}
use Rattle.pnm_samples.proofs.ColumnLaws.{HoldsGroups}
use Rattle.pnm_samples.proofs.transpose.column_bytes.Given as goal

-- the groups that have passed
abbrev pub invariant-loop-group : goal.invariant-loop-group
invariant-loop-group l = HoldsGroups l.fn.byte l.width l.groups l.rows l.group 0 l.columns.items

-- and sixteen bytes at a time of the rows of the next one
abbrev pub invariant-loop-part : goal.invariant-loop-part
invariant-loop-part l = HoldsGroups l.fn.byte l.width l.groups l.rows l.group (min l.width (16 * l.part)) l.columns.items

-- and some bytes of these
abbrev pub invariant-loop-beside : goal.invariant-loop-beside
invariant-loop-beside l = HoldsGroups l.fn.byte l.width l.groups l.rows l.group l.beside l.columns.items
