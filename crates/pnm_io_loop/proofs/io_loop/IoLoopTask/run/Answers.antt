use Rattle.pnm_io_loop.proofs.Words.{arith, common_steps}
use Rattle.pnm_io_loop.proofs.io_loop.IoLoopTask.run.Goals as goal

pub returns : goal.returns
returns g c = grind (arith, common_steps)
