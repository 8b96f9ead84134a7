use Rattle.std.proofs.Common.{refl}
use Rattle.pnm_image.proofs.format.Format.of.Goals as goal

pub returns-in-50 : goal.returns-in-50
returns-in-50 c = rw c.in-50.is refl
