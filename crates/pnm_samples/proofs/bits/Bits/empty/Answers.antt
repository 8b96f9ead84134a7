use Rattle.pnm_samples.proofs.Words.{arith, common_steps}
use Rattle.pnm_samples.proofs.bits.Bits.empty.Goals as goal

pub invariant_of-result : goal.invariant_of-result
invariant_of-result c = grind (arith, common_steps)
