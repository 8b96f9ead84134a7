use Rattle.pnm_read.proofs.AloneLaws.{first_image_stands_alone}
use Rattle.pnm_read.proofs.laws.first_image_stands_alone.Goals as goal

pub returns : goal.returns
returns c = first_image_stands_alone
