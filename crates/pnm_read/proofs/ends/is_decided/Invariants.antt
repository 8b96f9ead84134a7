use Rattle.pnm_read.proofs.DecidedSteps.{Reading}
use Rattle.pnm_read.proofs.ends.is_decided.Given as goal

abbrev pub invariant-loop : goal.invariant-loop
invariant-loop l = Reading l.fn.text l.source
