use Rattle.pnm_lanes.proofs.Words.{arith}
use Rattle.pnm_lanes.proofs.HeldLaws.{next_row_stays, last_row_goes}
use Rattle.pnm_lanes.proofs.held.Held.pass_first_row.Goals as goal

pub returns-then-left-gt1 : goal.returns-then-left-gt1
returns-then-left-gt1 c =
    let h = c.args.self.now in
    next_row_stays h.head h.passed c.in-Some.rows h.ends_image h.ending c.requires.head c.in-Some.is (h.left c.in-Some.rows c.in-Some.is)

pub returns-else-left-gt1 : goal.returns-else-left-gt1
returns-else-left-gt1 c =
    let h = c.args.self.now in
    last_row_goes h.head h.passed c.in-Some.rows h.ends_image h.ending c.requires.head c.in-Some.is (h.left c.in-Some.rows c.in-Some.is)
    (omega (arith, c.count.ensures.rows, c.if-left-gt1.false))
