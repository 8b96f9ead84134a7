use Rattle.pnm_read.proofs.TextLaws.{said_text_is_spelled}
use Rattle.pnm_read.proofs.laws.said_is_spelled.Goals as goal

pub returns : goal.returns
returns c = said_text_is_spelled
