use Rattle.pnm_row_tools.proofs.Words.{arith, common_steps}
use Rattle.pnm_row_tools.proofs.flip.RowFlipper.new.Goals as goal

pub returns : goal.returns
returns c = grind (arith, common_steps)
