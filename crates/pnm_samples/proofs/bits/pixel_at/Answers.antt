use Rattle.pnm_samples.proofs.Words.{arith, common_steps}
use Rattle.pnm_samples.proofs.bits.pixel_at.Goals as goal

pub returns : goal.returns
returns c = grind (arith, common_steps)
