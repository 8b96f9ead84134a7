use Rattle.pnm_samples.proofs.Words.{ℕ, ap, ◌∙◌, arith, w16, to_be_bytes, all_pixels}
use Rattle.pnm_samples.proofs.RepeatLaws.{spread, doubled_pixels}
use Rattle.pnm_samples.proofs.bits.repeat.double_bits.Goals as goal

pub returns : goal.returns
returns c = ap (λ (b : ℕ). all_pixels (to_be_bytes w16 (spread b))) c.from-bits.ensures ∙ doubled_pixels c.args.byte (omega arith)
