use Rattle.pnm_samples.proofs.Words.{rules}
use Rattle.pnm_samples.proofs.bits.Bits.to_bytes.Goals as goal

pub returns : goal.returns
returns c = search rules
