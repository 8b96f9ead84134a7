use Rattle.pnm_stages.proofs.Words.{rules}
use Rattle.pnm_stages.proofs.receiver.Receiver.receive.Goals as goal

pub returns-then-has_message-clause-none_seen : goal.returns-then-has_message-clause-none_seen
returns-then-has_message-clause-none_seen g c = search rules
