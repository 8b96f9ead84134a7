use Rattle.std.proofs.Common.{◌++◌, ◌∙◌, ℕ, List, ap, sym, arith}
use Rattle.pnm_image.proofs.RepeatLaws.{copies_first, some_copies}
use Rattle.pnm_image.proofs.repeated_rows.RepeatedRows.next_copies.Goals as goal

pub returns-then-next-times-clause-some : goal.returns-then-next-times-clause-some
returns-then-next-times-clause-some c =
    some_copies c.min-next.result c.into_parts-rows.result.0 c.in_ok-copies.copies c.in_ok-copies.ensures (grind (arith, c.count_together.ensures.some))
    c.count_together.ensures.rows

pub returns-clause-copies : goal.returns-clause-copies
returns-clause-copies c =
    copies_first c.min-next.result c.into_parts-rows.result.1 c.into_parts-rows.result.0 c.args.self c.in_ok-copies.copies c.into_parts-rows.ensures.rows
    c.in_ok-copies.ensures (grind arith) ∙ ap (λ (l : List (List ℕ)). c.in_ok-copies.copies ++ l) (sym c.new.ensures)

pub returns-clause-some : goal.returns-clause-some
returns-clause-some c =
    some_copies c.min-next.result c.into_parts-rows.result.0 c.in_ok-copies.copies c.in_ok-copies.ensures (grind (arith, c.count_together.ensures.some))
    c.count_together.ensures.rows
