use Rattle.pnm_io_loop.proofs.Words.{ap, not}
use Rattle.pnm_io_loop.proofs.ingress.Ingress.would_read.Goals as goal

pub returns-clause-ended : goal.returns-clause-ended
returns-clause-ended g c = λ ended. ap not (c.holds_next.ensures.ended ended)
