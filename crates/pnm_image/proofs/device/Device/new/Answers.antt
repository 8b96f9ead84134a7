use Rattle.std.proofs.Common.{refl}
use Rattle.pnm_image.proofs.device.Device.new.Goals as goal

pub returns-clause-count : goal.returns-clause-count
returns-clause-count g c = refl
