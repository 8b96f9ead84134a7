use Rattle.pnm_lanes.proofs.Words.{sym, ◌∙◌}
use Rattle.pnm_lanes.proofs.HeldLaws.{is_row_next}
use Rattle.pnm_lanes.proofs.held.Held.next.Goals as goal

pub returns-then-is_some-2 : goal.returns-then-is_some-2
returns-then-is_some-2 c =
    let h = c.args.self.now in
    is_row_next h.head h.passed h.rows h.ends_image h.ending (sym c.is_some.ensures ∙ c.if-is_some.false) (sym c.is_some-2.ensures ∙ c.if-is_some-2.true) h.left
