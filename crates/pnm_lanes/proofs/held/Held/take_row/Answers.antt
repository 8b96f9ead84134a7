use Rattle.pnm_lanes.proofs.Words.{[], get_or, sym, ◌∙◌}
use Rattle.pnm_lanes.proofs.HeldLaws.{row_passed, first_taken, only_row_taken}
use Rattle.pnm_lanes.proofs.held.Held.take_row.Goals as goal

pub returns-then-count-eq1-clause-row : goal.returns-then-count-eq1-clause-row
returns-then-count-eq1-clause-row c =
    let h = c.args.self.now in
    only_row_taken h.head h.passed c.in-Some.rows h.ends_image h.ending (sym c.is_some.ensures ∙ c.if-is_some.false) c.in-Some.is
    (sym c.count.ensures.rows ∙ c.if-count-eq1.true) (h.left c.in-Some.rows c.in-Some.is) c.take.ensures.value c.take.ensures.after

pub returns-clause-row : goal.returns-clause-row
returns-clause-row c =
    let h = c.args.self.now in
    let below = h.left c.in-Some.rows c.in-Some.is in (
      get_or c.in-Some.rows h.passed [],
      c.in_ok-row.ensures ∙ first_taken h.passed c.in-Some.rows below,
      row_passed h.head h.passed c.in-Some.rows h.ends_image h.ending (sym c.is_some.ensures ∙ c.if-is_some.false) c.in-Some.is below c.pass_first_row.ensures,
    )
