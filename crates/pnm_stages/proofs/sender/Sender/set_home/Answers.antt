use Rattle.pnm_stages.proofs.Words.{refl}
use Rattle.pnm_stages.proofs.sender.Sender.set_home.Goals as goal

pub returns-clause-sent : goal.returns-clause-sent
returns-clause-sent c = refl
