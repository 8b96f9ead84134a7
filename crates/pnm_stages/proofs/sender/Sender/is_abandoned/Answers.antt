use Rattle.pnm_stages.proofs.Words.{arith, common_steps}
use Rattle.pnm_stages.proofs.sender.Sender.is_abandoned.Goals as goal

pub returns-clause-sent : goal.returns-clause-sent
returns-clause-sent c = grind (arith, common_steps)
