use Rattle.pnm_row_tools.proofs.Words.{arith, common_steps}
use Rattle.pnm_row_tools.proofs.flip.RowReverser.new.Goals as goal

pub returns-clause-way : goal.returns-clause-way
returns-clause-way c = grind (arith, common_steps)
