use Rattle.pnm_repeat_tools.proofs.Words.{◌≡◌, ◌∙◌, ap, drop, take, ToEnlarge}
use Rattle.pnm_repeat_tools.proofs.WaitingLaws.{rest_waits}
use Rattle.pnm_repeat_tools.proofs.waiting_rows.WaitingRows.split.Goals as goal

pub invariant_of-result : goal.invariant_of-result
invariant_of-result c =
    let x = c.self.inside in
    rest_waits x.across x.down x.next c.args.count x.shape x.rows c.self.view_is c.self.invariant c.requires.1 c.count-all.ensures.rows c.if-end-all.false

pub returns-clause-next : goal.returns-clause-next
returns-clause-next c =
    let x = c.self.inside in
    let part : c.in_ok-next.next ≡ take c.args.count (drop x.next x.rows) = c.in_ok-next.ensures in
    part ∙ ap (λ (w : ToEnlarge). take c.args.count w.rows) c.self.view_is
