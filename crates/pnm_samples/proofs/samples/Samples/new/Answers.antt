use Rattle.pnm_samples.proofs.Words.{rules}
use Rattle.pnm_samples.proofs.samples.Samples.new.Goals as goal

pub returns : goal.returns
returns c = search rules
