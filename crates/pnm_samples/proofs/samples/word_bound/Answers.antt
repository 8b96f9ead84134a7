use Rattle.pnm_samples.proofs.Words.{arith}
use Rattle.pnm_samples.proofs.BoundLaws.{all_of_width}
use Rattle.pnm_samples.proofs.samples.word_bound.Goals as goal

pub returns : goal.returns
returns c = all_of_width c.args.words.now 65536 65535 (λ k. omega (arith, c.type_inv.words k)) (omega arith)
