use Rattle.pnm_io_loop.proofs.Words.{arith, common_steps}
use Rattle.pnm_io_loop.proofs.io_loop.send.Goals as goal

pub returns-then-not-may_send-clause-stepped : goal.returns-then-not-may_send-clause-stepped
returns-then-not-may_send-clause-stepped g c = grind (arith, common_steps)

pub returns-clause-stepped : goal.returns-clause-stepped
returns-clause-stepped g c = grind (arith, common_steps)
