use Rattle.pnm_lanes.proofs.Words.{[], get_or, sym, ◌∙◌}
use Rattle.pnm_lanes.proofs.HeldLaws.{row_passed}
use Rattle.pnm_lanes.proofs.held.Held.pass_row.Goals as goal

pub returns-clause-passed : goal.returns-clause-passed
returns-clause-passed c is =
    let h = c.args.self.now in (
      get_or c.in-Some.held h.passed [],
      c.in_ok-append_row.ensures.added c.if-not-branch.false,
      row_passed h.head h.passed c.in-Some.held h.ends_image h.ending (sym c.is_some.ensures ∙ c.if-is_some.false) c.in-Some.is
          (h.left c.in-Some.held c.in-Some.is) c.pass_first_row.ensures,
    )
