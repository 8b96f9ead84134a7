use Rattle.std.proofs.Common.{refl}
use Rattle.pnm_image.proofs.place.Place.new.Goals as goal

pub returns : goal.returns
returns c = refl
