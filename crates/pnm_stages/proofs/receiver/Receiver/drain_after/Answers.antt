use Rattle.pnm_stages.proofs.Words.{rules}
use Rattle.pnm_stages.proofs.receiver.Receiver.drain_after.Goals as goal

pub returns-in-Whole : goal.returns-in-Whole
returns-in-Whole g c = search rules
