use Rattle.pnm_samples.proofs.Words.{rules}
use Rattle.pnm_samples.proofs.samples.Samples.into_words.Goals as goal

pub returns-in-Words : goal.returns-in-Words
returns-in-Words c = search rules
