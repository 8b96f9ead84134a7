use Rattle.pnm_samples.proofs.Words.{arith}
use Rattle.pnm_samples.proofs.BoundLaws.{all_of_width}
use Rattle.pnm_samples.proofs.samples.byte_bound.Goals as goal

pub returns : goal.returns
returns c = all_of_width c.args.bytes.now 256 255 (λ k. omega (arith, c.type_inv.bytes k)) (omega arith)
