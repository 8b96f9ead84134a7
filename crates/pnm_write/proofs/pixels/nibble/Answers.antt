use Rattle.pnm_write.proofs.Words.{refl}
use Rattle.pnm_write.proofs.PixelLaws.{nibble_is}
use Rattle.pnm_write.proofs.pixels.nibble.Goals as goal

pub returns : goal.returns
returns c = nibble_is c.args.bits _ refl c.requires
