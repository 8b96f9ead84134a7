use Rattle.pnm_repeat_tools.proofs.Words.{◌∙◌, ap, subst, sym, ToEnlarge, CanBeEnlarged}
use Rattle.pnm_repeat_tools.proofs.WaitingLaws.{same_rows}
use Rattle.pnm_repeat_tools.proofs.waiting_rows.WaitingRows.enlarge_next.Goals as goal

pub returns-then-down-eq1-clause-made : goal.returns-then-down-eq1-clause-made
returns-then-down-eq1-clause-made c =
    same_rows c.args.count (subst CanBeEnlarged c.self.view_is c.self.invariant)
    (sym (ap (λ (w : ToEnlarge). w.across) c.self.view_is) ∙ c.if-across-eq1.true) c.if-down-eq1.true c.in_ok-next.ensures.next
