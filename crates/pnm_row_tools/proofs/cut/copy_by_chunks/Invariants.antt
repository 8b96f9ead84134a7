use Rattle.pnm_row_tools.proofs.Words.{◌≡◌, ◌+◌, ◌*◌, copy_within}
use Rattle.pnm_row_tools.proofs.cut.copy_by_chunks.Given as goal

-- so many are copied as the chunks that have passed have room for
abbrev pub invariant-loop-i : goal.invariant-loop-i
invariant-loop-i g l = l.samples ≡ copy_within l.fn.samples l.from (l.from + l.i * l.size) l.to
