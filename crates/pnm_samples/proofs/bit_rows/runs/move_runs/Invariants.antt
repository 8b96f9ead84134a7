use Rattle.pnm_samples.proofs.RunLaws.{AreMovedRuns}
use Rattle.pnm_samples.proofs.bit_rows.runs.move_runs.Given as goal

-- the runs of the rows that have passed are moved
abbrev pub invariant-loop-row : goal.invariant-loop-row
invariant-loop-row l = AreMovedRuns l.start l.apart l.left l.each l.row l.fn.bytes l.bytes
