use Rattle.pnm_tools.proofs.Words.{arith, common_steps}
use Rattle.pnm_tools.proofs.flip.FlipWay.transform.Goals as goal

pub returns-in-Rotate180 : goal.returns-in-Rotate180
returns-in-Rotate180 c = grind (arith, common_steps)

pub returns-in-Rotate270 : goal.returns-in-Rotate270
returns-in-Rotate270 c = grind (arith, common_steps)

pub returns-in-Rotate90 : goal.returns-in-Rotate90
returns-in-Rotate90 c = grind (arith, common_steps)
