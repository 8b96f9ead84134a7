use Rattle.pnm_samples.proofs.Words.{arith}
use Rattle.pnm_samples.proofs.PixelRowLaws.{pixels_within}
use Rattle.pnm_samples.proofs.bits.Bits.bound.Goals as goal

pub returns-clause-within : goal.returns-clause-within
returns-clause-within c = pixels_within 1 (omega arith) c.self.invariant c.self.view_is
