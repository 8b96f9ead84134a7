use Rattle.pnm_repeat_tools.proofs.Words.{arith, common_steps}
use Rattle.pnm_repeat_tools.proofs.enlarge.Enlarger.new.Goals as goal

pub returns-clause-down : goal.returns-clause-down
returns-clause-down c = grind (arith, common_steps)
