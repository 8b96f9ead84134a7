use Rattle.pnm_samples.proofs.Words.{arith, common_steps}
use Rattle.pnm_samples.proofs.samples.Samples.len.Goals as goal

pub returns-in-Bits : goal.returns-in-Bits
returns-in-Bits c = grind (arith, common_steps)
