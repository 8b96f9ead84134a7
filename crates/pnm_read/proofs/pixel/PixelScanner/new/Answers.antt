use Rattle.pnm_read.proofs.Words.{refl}
use Rattle.pnm_read.proofs.PixelSteps.{pixel_fresh}
use Rattle.pnm_read.proofs.pixel.PixelScanner.new.Goals as goal

pub returns : goal.returns
returns c = pixel_fresh refl refl
