use Rattle.pnm_read.proofs.Words.{arith, common_steps}
use Rattle.pnm_read.proofs.fields.Fields.set_number.Goals as goal

pub returns-in-Maxval : goal.returns-in-Maxval
returns-in-Maxval c = grind (arith, common_steps)

pub returns-in-Depth : goal.returns-in-Depth
returns-in-Depth c = grind (arith, common_steps)

pub returns-in-Height : goal.returns-in-Height
returns-in-Height c = grind (arith, common_steps)

pub returns-in-Width : goal.returns-in-Width
returns-in-Width c = grind (arith, common_steps)
