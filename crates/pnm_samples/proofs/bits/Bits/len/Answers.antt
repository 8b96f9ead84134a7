use Rattle.pnm_samples.proofs.Words.{length, ap, arith}
use Rattle.pnm_samples.proofs.PixelRowLaws.{length_of_packed}
use Rattle.pnm_samples.proofs.bits.Bits.len.Goals as goal

pub returns : goal.returns
returns c = omega (arith, length_of_packed c.self.inside.count c.self.inside.bytes.items c.self.invariant, ap length c.self.view_is)
