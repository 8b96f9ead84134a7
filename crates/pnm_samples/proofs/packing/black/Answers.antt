use Rattle.pnm_samples.proofs.Words.{arith, common_steps}
use Rattle.pnm_samples.proofs.packing.black.Goals as goal

pub returns-clause-bit : goal.returns-clause-bit
returns-clause-bit c = grind (arith, common_steps)
