use Rattle.pnm_flow.proofs.Words.{◌≡◌, ℕ, suc, ◌+◌, drop, get_or, refl, sym, ap, ◌∙◌, arith, drop_all, Well, first_fault_from}
use Rattle.pnm_flow.proofs.ThreadedAnswerSteps.{from_this, passed_over, found_here}
use Rattle.pnm_flow.proofs.threaded.first_fault.Goals as goal

pub returns-in-Some : goal.returns-in-Some
returns-in-Some c =
    let end = get_or c.args.ends.now c.loop-index.index Well in
    let rest = drop (suc c.loop-index.index) c.args.ends.now in
    sym (c.loop-index.invariant ∙ from_this c.args.ends.now c.loop-index.index Well end c.loop-index-test.true refl
    ∙ found_here (c.loop-index.index + 1) end rest c.in-Some.fault (sym c.fault_of.ensures ∙ c.in-Some.is))

pub loop-index-preserved : goal.loop-index-preserved
loop-index-preserved c =
    let end = get_or c.args.ends.now c.loop-index.index Well in
    let rest = drop (suc c.loop-index.index) c.args.ends.now in
    let next : suc c.loop-index.index ≡ c.loop-index.index + 1 = omega arith in
    c.loop-index.invariant ∙ from_this c.args.ends.now c.loop-index.index Well end c.loop-index-test.true refl
    ∙ passed_over (c.loop-index.index + 1) end rest (sym c.fault_of.ensures ∙ c.in_default.is)
    ∙ ap (λ (n : ℕ). first_fault_from (c.loop-index.index + 1 + 1) (drop n c.args.ends.now)) next

pub returns : goal.returns
returns c = sym (c.loop-index.invariant ∙ ap (first_fault_from (c.loop-index.index + 1)) (drop_all c.loop-index.index c.args.ends.now (omega arith)))
