use Rattle.pnm_io_loop.proofs.Words.{arith, common_steps}
use Rattle.pnm_io_loop.proofs.io_loop.wake_before_taking.Goals as goal

pub returns-else-takes_first : goal.returns-else-takes_first
returns-else-takes_first g c = grind (arith, common_steps)

pub returns-then-takes_first : goal.returns-then-takes_first
returns-then-takes_first g c = grind (arith, common_steps)
