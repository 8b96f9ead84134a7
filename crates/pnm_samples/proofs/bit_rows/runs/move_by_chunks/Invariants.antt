use Rattle.pnm_samples.proofs.Words.{◌*◌, IsMovedRun}
use Rattle.pnm_samples.proofs.bit_rows.runs.move_by_chunks.Given as goal

-- the pixels of the chunks that have passed are moved
abbrev pub invariant-loop-i : goal.invariant-loop-i
invariant-loop-i l = IsMovedRun l.from l.to l.skipped (8 * (l.i * l.size)) l.fn.bytes l.bytes
