use Rattle.pnm_samples.proofs.Words.{sym, ◌∙◌}
use Rattle.pnm_samples.proofs.PixelRowLaws.{pixel_of_bytes}
use Rattle.pnm_samples.proofs.bits.pixel_of.Goals as goal

pub returns : goal.returns
returns c = c.from.ensures ∙ c.pixel_at.ensures ∙ sym (pixel_of_bytes c.args.at c.args.bytes.now c.requires)
