use Rattle.pnm_stages.proofs.Words.{rules}
use Rattle.pnm_stages.proofs.receiver.Receiver.is_abandoned.Goals as goal

pub returns-clause-received : goal.returns-clause-received
returns-clause-received c = search rules
