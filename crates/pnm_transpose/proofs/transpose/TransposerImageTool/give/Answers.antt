use Rattle.pnm_transpose.proofs.Words.{arith, common_steps}
use Rattle.pnm_transpose.proofs.transpose.TransposerImageTool.give.Goals as goal

pub returns-clause-due : goal.returns-clause-due
returns-clause-due c = grind (arith, common_steps)

pub make_last-requires-clause-left : goal.make_last-requires-clause-left
make_last-requires-clause-left c = grind (arith, common_steps)

pub make_first-requires-clause-left : goal.make_first-requires-clause-left
make_first-requires-clause-left c = grind (arith, common_steps)
