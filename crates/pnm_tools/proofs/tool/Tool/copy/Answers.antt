use Rattle.pnm_tools.proofs.Words.{arith, common_steps}
use Rattle.pnm_tools.proofs.tool.Tool.copy.Goals as goal

pub returns-clause-equal : goal.returns-clause-equal
returns-clause-equal c = grind (arith, common_steps)
