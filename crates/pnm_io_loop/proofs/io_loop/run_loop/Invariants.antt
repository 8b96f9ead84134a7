use Rattle.pnm_io_loop.proofs.Words.{HaveStepped}
use Rattle.pnm_io_loop.proofs.io_loop.run_loop.Given as goal

-- the steps so far
abbrev pub invariant-loop : goal.invariant-loop
invariant-loop g l =
    HaveStepped g.R.BytesIn.left g.R.BytesIn.failures g.R.BytesIn.same g.W.BytesOut.held g.W.BytesOut.failures g.W.BytesOut.same l.fn.ingress l.fn.egress
    l.ingress l.egress
