use Rattle.pnm_read.proofs.TextLaws.{spelled_are_images}
use Rattle.pnm_read.proofs.laws.spelled_are_images.Goals as goal

pub returns : goal.returns
returns c = spelled_are_images
