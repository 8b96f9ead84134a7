use Rattle.pnm_lanes.proofs.Words.{◌≡◌, ℕ, length, refl, sym, subst, ◌∙◌, arith, length-take-le, sent, received, known_items, at_lane, itself_output}
use Rattle.pnm_lanes.proofs.Words.{[], Open, in_held, same_output, HasBrokenOffAll, HasDrainedAll, AreHolding}
use Rattle.pnm_lanes.proofs.LaneLists.{are_themselves, same_inputs, as_many}
use Rattle.pnm_lanes.proofs.GatherSteps.{nothing_gathered, still_gathering, says_more, first_of_all}
use Rattle.pnm_lanes.proofs.GatherEnds.{broken_off, not_sent, ends_well}
use Rattle.pnm_lanes.proofs.gathering.gather_all.Goals as goal

pub loop-init : goal.loop-init
loop-init g c =
    let count : ℕ = length c.args.inputs.now in (
      are_themselves c.args.inputs.now,
      itself_output c.args.output.now,
      nothing_gathered count c.new-place.result _ (at_lane received c.args.inputs.now) _ (sent c.args.output.now) c.new-place.ensures
          (first_of_all (λ s. s ≡ Open) count _ (refl, (refl, (refl, (refl, (refl, (refl, (refl, (refl, tt)))))))))
          (first_of_all (λ h. in_held h ≡ []) count _ c.nothing_held-of_lanes.ensures),
      length-take-le count _ (omega (arith, c.requires.few)),
      length-take-le count c.nothing_held-of_lanes.result (omega (arith, c.requires.few)),
    )

pub returns-in-Err-clause-inputs : goal.returns-in-Err-clause-inputs
returns-in-Err-clause-inputs g c =
    same_inputs c.args.inputs.now c.receive_next.new.inputs c.break_off.new.inputs
    (same_inputs c.args.inputs.now c.loop.inputs c.receive_next.new.inputs c.loop.invariant.0 c.receive_next.ensures.inputs) c.break_off.ensures.inputs

pub returns-in-Err-clause-gathered : goal.returns-in-Err-clause-gathered
returns-in-Err-clause-gathered g c =
    let so_far = c.loop.invariant.2 in
    let count = as_many c.args.inputs.now c.loop.inputs c.loop.invariant.0 in
    let holding = subst (λ (n : ℕ). AreHolding n c.loop.states so_far.passed (at_lane received c.loop.inputs) c.loop.held) (sym count) so_far.holding in
    broken_off so_far.going c.requires.some count (c.in-Err.ensures.taken so_far.passed holding)
    (subst (λ (n : ℕ). HasBrokenOffAll c.in-Err.end c.break_off.result n c.receive_next.new.states c.break_off.new.states
    (at_lane received c.receive_next.new.inputs) (at_lane received c.break_off.new.inputs)
    (at_lane known_items c.receive_next.new.inputs) (at_lane known_items c.break_off.new.inputs) (sent c.loop.output) (sent c.break_off.new.output))
    (as_many c.loop.inputs c.receive_next.new.inputs c.receive_next.ensures.inputs) c.break_off.ensures.broken)

pub returns-then-not-send-clause-inputs : goal.returns-then-not-send-clause-inputs
returns-then-not-send-clause-inputs g c =
    same_inputs c.args.inputs.now c.receive_next.new.inputs c.drain_all.new.inputs
    (same_inputs c.args.inputs.now c.loop.inputs c.receive_next.new.inputs c.loop.invariant.0 c.receive_next.ensures.inputs) c.drain_all.ensures.inputs

pub returns-then-not-send-clause-gathered : goal.returns-then-not-send-clause-gathered
returns-then-not-send-clause-gathered g c =
    let so_far = c.loop.invariant.2 in
    let count = as_many c.args.inputs.now c.loop.inputs c.loop.invariant.0 in
    let holding = subst (λ (n : ℕ). AreHolding n c.loop.states so_far.passed (at_lane received c.loop.inputs) c.loop.held) (sym count) so_far.holding in
    not_sent so_far.going c.requires.some count (c.in-Ok.ensures.taken so_far.passed holding) (c.if-not-send.ensures.gone refl)
    (subst (λ (n : ℕ). HasDrainedAll n c.drain_all.result c.receive_next.new.states c.drain_all.new.states (at_lane received c.receive_next.new.inputs)
    (at_lane received c.drain_all.new.inputs) (at_lane known_items c.receive_next.new.inputs) (at_lane known_items c.drain_all.new.inputs))
    (as_many c.loop.inputs c.receive_next.new.inputs c.receive_next.ensures.inputs) c.drain_all.ensures.drained)

pub returns-in-Whole-clause-inputs : goal.returns-in-Whole-clause-inputs
returns-in-Whole-clause-inputs g c = same_inputs c.args.inputs.now c.loop.inputs c.receive_next.new.inputs c.loop.invariant.0 c.receive_next.ensures.inputs

pub returns-in-Whole-clause-gathered : goal.returns-in-Whole-clause-gathered
returns-in-Whole-clause-gathered g c =
    let so_far = c.loop.invariant.2 in
    let count = as_many c.args.inputs.now c.loop.inputs c.loop.invariant.0 in
    let holding = subst (λ (n : ℕ). AreHolding n c.loop.states so_far.passed (at_lane received c.loop.inputs) c.loop.held) (sym count) so_far.holding in
    ends_well (at_lane known_items c.receive_next.new.inputs) so_far.going c.requires.some count (c.in-Ok.ensures.taken so_far.passed holding)
    (c.if-not-send.ensures.given refl) (sym c.ending-ending.ensures ∙ c.in-Whole.is)

pub loop-preserved : goal.loop-preserved
loop-preserved g c =
    let so_far = c.loop.invariant.2 in
    let count = as_many c.args.inputs.now c.loop.inputs c.loop.invariant.0 in
    let holding = subst (λ (n : ℕ). AreHolding n c.loop.states so_far.passed (at_lane received c.loop.inputs) c.loop.held) (sym count) so_far.holding in
    let taken = c.in-Ok.ensures.taken so_far.passed holding in (
      same_inputs c.args.inputs.now c.loop.inputs c.receive_next.new.inputs c.loop.invariant.0 c.receive_next.ensures.inputs,
      same_output c.args.output.now c.loop.output c.send.new.self c.loop.invariant.1 c.send.ensures.ring,
      still_gathering so_far.going count taken (c.if-not-send.ensures.given refl)
          (says_more c.in-Ok.packet c.ending-ending.ensures c.in-More.is taken.stream),
      c.receive_next.ensures.as_many.0 ∙ c.loop.invariant.3,
      c.receive_next.ensures.as_many.1 ∙ c.loop.invariant.4,
    )
