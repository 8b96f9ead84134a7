use Rattle.std.proofs.Common.{◌≤◌, ◌∙◌, ℕ, List, All, ap, sym, subst}
use Rattle.pnm_image.specs.HeldRows.{AreRowsWithin, slice_lists}
use Rattle.pnm_image.specs.Repeats.{repeated}
use Rattle.pnm_image.proofs.RepeatLaws.{all_of_repeated}
use Rattle.pnm_image.proofs.copies.repeat_rows.Goals as goal

pub new-requires-clause-within : goal.new-requires-clause-within
new-requires-clause-within c =
    let rows = c.args.rows.now in
    let each = c.row_length-each.result in
    let lent = ap (λ (n : ℕ). slice_lists n each c.as_slice.result) c.count-count.ensures.rows
    ∙ c.as_slice.ensures.rows each c.row_length-each.ensures.each in
    let is = c.in_ok-held.ensures.rows ∙ ap (repeated c.args.times) lent in
    subst (AreRowsWithin c.bound.result) (sym is)
    (all_of_repeated (λ (row : List ℕ). All (λ (sample : ℕ). sample ≤ c.bound.result) row) c.args.times rows c.bound.ensures)
