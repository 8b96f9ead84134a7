use Rattle.pnm_lanes.proofs.HeldLaws.{no_head_taken}
use Rattle.pnm_lanes.proofs.held.Held.take_head.Goals as goal

pub returns-clause-none : goal.returns-clause-none
returns-clause-none c =
    let h = c.args.self.now in
    no_head_taken h.head h.passed h.rows h.ends_image h.ending c.take.ensures.value
