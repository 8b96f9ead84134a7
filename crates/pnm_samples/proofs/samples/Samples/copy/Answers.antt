use Rattle.pnm_samples.proofs.Words.{rules}
use Rattle.pnm_samples.proofs.samples.Samples.copy.Goals as goal

pub returns : goal.returns
returns c = search rules
