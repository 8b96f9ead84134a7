use Rattle.pnm_serial.proofs.Words.{◌≡◌, ℕ, suc, ◌+◌, take, subst, ◌<◌, length, arith, ◌∙◌, sym, ap, get_or-map, length-map, AreWell, IsFirstFault, refusal_in}
use Rattle.pnm_serial.proofs.Words.{refusals_in}
use Rattle.pnm_serial.proofs.FaultSteps.{well_more, first_here}
use Rattle.pnm_serial.proofs.serial.first_fault.Goals as goal

pub returns-in-Some : goal.returns-in-Some
returns-in-Some g c =
    let within : c.loop-index.index < length c.args.stages.now = omega arith in
    let some = get_or-map refusal_in c.args.stages.now c.loop-index.index c.index-stages-index.result (refusal_in c.index-stages-index.result) within
    ∙ ap refusal_in (sym c.index-stages-index.is) ∙ sym c.fault.ensures ∙ c.in-Some.is in
    subst (λ (n : ℕ). IsFirstFault 1 (refusals_in c.args.stages.now) n c.in-Some.fault) (omega arith)
    (first_here 1 (refusals_in c.args.stages.now) c.loop-index.index (refusal_in c.index-stages-index.result) c.loop-index.invariant
    (omega (arith, length-map c.args.stages.now refusal_in)) some)

pub loop-index-preserved : goal.loop-index-preserved
loop-index-preserved g c =
    let within : c.loop-index.index < length c.args.stages.now = omega arith in
    let none = get_or-map refusal_in c.args.stages.now c.loop-index.index c.index-stages-index.result (refusal_in c.index-stages-index.result) within
    ∙ ap refusal_in (sym c.index-stages-index.is) ∙ sym c.fault.ensures ∙ c.in_default.is in
    let next : suc c.loop-index.index ≡ c.loop-index.index + 1 = omega arith in
    subst (λ (n : ℕ). AreWell (take n (refusals_in c.args.stages.now))) next
    (well_more (refusals_in c.args.stages.now) c.loop-index.index (refusal_in c.index-stages-index.result) c.loop-index.invariant none)
