use Rattle.pnm_read.proofs.SaidLaws.{said_is_lawful}
use Rattle.pnm_read.proofs.StreamLaws.{said_are_messages}
use Rattle.pnm_read.proofs.laws.said_is_lawful.Goals as goal

pub returns-clause-lawful : goal.returns-clause-lawful
returns-clause-lawful c = said_is_lawful

pub returns-clause-messages : goal.returns-clause-messages
returns-clause-messages c = said_are_messages
