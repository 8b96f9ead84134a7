use Rattle.pnm_read.proofs.Words.{◌≡◌, length, trimmed_end}
use Rattle.pnm_read.proofs.line.trimmed_end.Given as goal

abbrev pub invariant-loop-rest : goal.invariant-loop-rest
invariant-loop-rest l = trimmed_end l.rest ≡ trimmed_end l.fn.text

abbrev pub decreases-loop-rest : goal.decreases-loop-rest
decreases-loop-rest l = length l.rest
