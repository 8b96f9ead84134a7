use Rattle.pnm_read.proofs.TextLaws.{spelled_text_is_said}
use Rattle.pnm_read.proofs.laws.spelled_is_said.Goals as goal

pub returns : goal.returns
returns c = spelled_text_is_said
