use Rattle.std.proofs.Common.{◌∙◌, List, ℕ, length, ap, sym}
use Rattle.pnm_image.proofs.HeldRowLaws.{length_of_lists}
use Rattle.pnm_image.proofs.rows.Rows.count.Goals as goal

pub returns-clause-rows : goal.returns-clause-rows
returns-clause-rows c =
    let r = c.self.inside in
    sym (ap (λ (rows : List (List ℕ)). length rows) (sym c.self.view_is) ∙ length_of_lists r.count r.row_length r.held c.self.invariant.1)
