use Rattle.pnm_tools.proofs.Words.{arith, common_steps}
use Rattle.pnm_tools.proofs.channel.Planes.tuple_type.Goals as goal

pub returns : goal.returns
returns c = grind (arith, common_steps)
