use Rattle.pnm_read.proofs.Words.{◌≡◌, length, trimmed_start}
use Rattle.pnm_read.proofs.line.trimmed_start.Given as goal

abbrev pub invariant-loop-rest : goal.invariant-loop-rest
invariant-loop-rest l = trimmed_start l.rest ≡ trimmed_start l.fn.text

abbrev pub decreases-loop-rest : goal.decreases-loop-rest
decreases-loop-rest l = length l.rest
