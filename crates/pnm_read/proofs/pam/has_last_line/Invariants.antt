use Rattle.pnm_read.proofs.Words.{◌≤◌}
use Rattle.pnm_read.proofs.pam.has_last_line.Given as goal

abbrev pub invariant-loop-end : goal.invariant-loop-end
invariant-loop-end l = l.start ≤ l.end
