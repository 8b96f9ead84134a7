use Rattle.pnm_samples.proofs.Words.{length, sym, ap, ◌∙◌}
use Rattle.pnm_samples.proofs.PixelRowsLaws.{length_of_ordered}
use Rattle.pnm_samples.proofs.pixel_rows.PixelRows.len.Goals as goal

pub returns : goal.returns
returns c =
    sym (length_of_ordered c.self.inside.is_reversed c.self.inside.count c.self.inside.each c.self.inside.bytes.items) ∙ ap length c.self.view_is
