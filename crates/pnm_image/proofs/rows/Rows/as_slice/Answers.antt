use Rattle.std.proofs.Common.{◌≡◌, ◌≤◌, ◌∙◌, ℕ, List, All, length, ap, ap₂, sym, subst}
use Rattle.pnm_image.specs.HeldRows.{AreSliceRows, row_lists}
use Rattle.pnm_image.proofs.HeldRowLaws.{length_of_lists, lengths_of_lists, one_length}
use Rattle.pnm_image.proofs.rows.Rows.as_slice.Goals as goal

pub returns-clause-rows : goal.returns-clause-rows
returns-clause-rows c = λ each long.
    let r = c.self.inside in
    let rows = c.args.self.now in
    let many : length rows ≡ r.count = ap (λ (l : List (List ℕ)). length l) (sym c.self.view_is)
    ∙ length_of_lists r.count r.row_length r.held c.self.invariant.1 in
    let some : 1 ≤ length rows = subst (λ (n : ℕ). 1 ≤ n) (sym many) c.self.invariant.0 in
    let known : All (λ (row : List ℕ). length row ≡ r.row_length) rows =
    subst (λ (l : List (List ℕ)). All (λ (row : List ℕ). length row ≡ r.row_length) l) c.self.view_is
    (lengths_of_lists r.count r.row_length r.held c.self.invariant.1) in
    c.as_slice.ensures.lists (length rows) each
    ∙ ap₂ (λ (n k : ℕ). row_lists n k r.held) many (one_length r.row_length each rows some known long) ∙ c.self.view_is

pub returns-clause-whole : goal.returns-clause-whole
returns-clause-whole c = λ each long.
    let r = c.self.inside in
    let rows = c.args.self.now in
    let many : length rows ≡ r.count = ap (λ (l : List (List ℕ)). length l) (sym c.self.view_is)
    ∙ length_of_lists r.count r.row_length r.held c.self.invariant.1 in
    let some : 1 ≤ length rows = subst (λ (n : ℕ). 1 ≤ n) (sym many) c.self.invariant.0 in
    let known : All (λ (row : List ℕ). length row ≡ r.row_length) rows =
    subst (λ (l : List (List ℕ)). All (λ (row : List ℕ). length row ≡ r.row_length) l) c.self.view_is
    (lengths_of_lists r.count r.row_length r.held c.self.invariant.1) in
    subst (λ (n : ℕ). AreSliceRows n each c.as_slice.result) (sym many)
    (subst (λ (n : ℕ). AreSliceRows r.count n c.as_slice.result) (sym (one_length r.row_length each rows some known long))
    (c.as_slice.ensures.whole r.count r.row_length c.self.invariant.1))
