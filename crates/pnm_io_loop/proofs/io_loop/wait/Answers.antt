use Rattle.pnm_io_loop.proofs.Words.{arith, common_steps}
use Rattle.pnm_io_loop.proofs.io_loop.wait.Goals as goal

pub returns-else-may_send : goal.returns-else-may_send
returns-else-may_send g c = grind (arith, common_steps)

pub returns-then-may_send : goal.returns-then-may_send
returns-then-may_send g c = grind (arith, common_steps)
