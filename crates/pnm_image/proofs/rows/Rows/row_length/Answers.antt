use Rattle.std.proofs.Common.{◌≡◌, ◌≤◌, All, length, ℕ, List, sym, subst}
use Rattle.pnm_image.proofs.HeldRowLaws.{length_of_lists, lengths_of_lists}
use Rattle.pnm_image.proofs.rows.Rows.row_length.Goals as goal

pub returns-clause-each : goal.returns-clause-each
returns-clause-each c =
    let r = c.self.inside in
    subst (λ (rows : List (List ℕ)). All (λ (row : List ℕ). length row ≡ r.row_length) rows) c.self.view_is
    (lengths_of_lists r.count r.row_length r.held c.self.invariant.1)

pub returns-clause-some : goal.returns-clause-some
returns-clause-some c =
    let r = c.self.inside in
    subst (λ (rows : List (List ℕ)). 1 ≤ length rows) c.self.view_is
    (subst (λ (n : ℕ). 1 ≤ n) (sym (length_of_lists r.count r.row_length r.held c.self.invariant.1)) c.self.invariant.0)
