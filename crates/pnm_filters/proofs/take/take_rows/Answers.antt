use Rattle.pnm_filters.proofs.Words.{ℕ, ◌+◌, ◌≤◌, List, length, sym, subst, AllByRecursion, IsRowOf, rows_are_lawful}
use Rattle.pnm_filters.proofs.take.take_rows.Goals as goal

pub take-requires-clause-rows : goal.take-requires-clause-rows
take-requires-clause-rows g c =
    let lawful = rw c.in-Some.is at c.requires.accepted in
    subst (λ (rows : List (List ℕ)). (c.args.y + length rows ≤ c.args.shape.height) × AllByRecursion (IsRowOf c.args.shape) rows)
    (sym c.in_ok-rows.ensures) (rows_are_lawful c.args.shape c.args.y c.in-Some.rows c.are_several.ensures.some lawful)
