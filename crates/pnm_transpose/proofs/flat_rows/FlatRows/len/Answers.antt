use Rattle.pnm_transpose.proofs.Words.{length, sym, ap, ◌∙◌}
use Rattle.pnm_transpose.proofs.FlatRowsLaws.{length_of_ordered}
use Rattle.pnm_transpose.proofs.flat_rows.FlatRows.len.Goals as goal

pub returns : goal.returns
returns g c =
    sym (length_of_ordered c.self.inside.is_reversed c.self.inside.count c.self.inside.each c.self.inside.samples.items) ∙ ap length c.self.view_is
