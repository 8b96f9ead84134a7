use Rattle.pnm_read.proofs.TextLaws.{spelled_images_are_said}
use Rattle.pnm_read.proofs.laws.spelled_are_said.Goals as goal

pub returns : goal.returns
returns c = spelled_images_are_said
