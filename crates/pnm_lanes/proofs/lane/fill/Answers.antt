use Rattle.pnm_lanes.proofs.Words.{◌≡◌, ◌≢◌, ◌<◌, length, set, sym, subst, ◌∙◌, arith, rules, List, Message, Broken, Fault, Memory, LaneState, HasTakenNone}
use Rattle.pnm_lanes.proofs.Words.{AreHolding}
use Rattle.pnm_lanes.proofs.Words.{received, at_lane, in_held, next_of, ap, ◌≤◌}
use Rattle.pnm_lanes.specs.declared.held.Next.TheVariants.{Nothing, Stop as NextStop}
use Rattle.pnm_lanes.proofs.LaneLists.{are_themselves, one_changed, at_lane-get}
use Rattle.pnm_lanes.proofs.TakenParts.{something_next}
use Rattle.pnm_lanes.proofs.FillSteps.{lane_gone, no_memory, lane_stopped, lane_filled, holds_some, still_holds}
use Rattle.pnm_lanes.proofs.lane.fill.Goals as goal

pub returns-then-ne-clause-inputs : goal.returns-then-ne-clause-inputs
returns-then-ne-clause-inputs g c = are_themselves c.args.inputs.now

pub returns-then-ne-clause-holds : goal.returns-then-ne-clause-holds
returns-then-ne-clause-holds g c =
    let here = at_lane-get in_held c.args.held.now c.args.lane c.index-held-lane.result (omega (arith, c.requires.lane, c.requires.held)) in
    let differs : c.next.result ≢ Nothing = search rules in
    something_next (at_lane in_held c.args.held.now c.args.lane) (λ e. differs (c.next.ensures ∙ sym (ap next_of here) ∙ e))

pub returns-in_default-clause-inputs : goal.returns-in_default-clause-inputs
returns-in_default-clause-inputs g c =
    one_changed c.args.inputs.now c.args.lane c.receive.new.self c.index-inputs-lane.result c.requires.lane c.receive.ensures.ring

pub returns-in_default-clause-filled : goal.returns-in_default-clause-filled
returns-in_default-clause-filled g c place passed holding =
    lane_gone (length c.args.inputs.now) c.args.lane c.args.inputs.now c.receive.new.self c.index-inputs-lane.result c.args.states.now passed c.args.held.now
    place c.requires.lane c.in_default.ensures.none_seen.0 holding

pub returns-in_default-of-clause-inputs : goal.returns-in_default-of-clause-inputs
returns-in_default-of-clause-inputs g c =
    one_changed c.args.inputs.now c.args.lane c.receive.new.self c.index-inputs-lane.result c.requires.lane c.receive.ensures.ring

pub returns-in_default-of-clause-filled : goal.returns-in_default-of-clause-filled
returns-in_default-of-clause-filled g c place passed holding =
    let within : c.args.lane < length c.args.held.now = omega (arith, c.requires.lane, c.requires.held) in
    let here = at_lane-get in_held c.args.held.now c.args.lane c.index-held-lane.result within in
    let nothing : c.next.result ≡ Nothing = search rules in
    subst (λ (s : LaneState). HasTakenNone (length c.args.inputs.now) place (Fault Memory) (set c.args.states.now c.args.lane s) passed
    (at_lane received (set c.args.inputs.now c.args.lane c.receive.new.self))) (sym c.state_after.ensures)
    (no_memory (length c.args.inputs.now) c.args.lane c.args.inputs.now c.receive.new.self c.index-inputs-lane.result c.args.states.now passed c.args.held.now
    place c.in-Some.packet c.requires.lane c.requires.lane (omega (arith, c.requires.lane, c.requires.states))
    (ap next_of here ∙ sym c.next.ensures ∙ nothing) c.in-Some.ensures.messages c.in-Some.ensures.ends c.in-Some.ensures.taken holding)

pub returns-then-eq-clause-inputs : goal.returns-then-eq-clause-inputs
returns-then-eq-clause-inputs g c =
    one_changed c.args.inputs.now c.args.lane c.receive.new.self c.index-inputs-lane.result c.requires.lane c.receive.ensures.ring

pub returns-then-eq-clause-filled : goal.returns-then-eq-clause-filled
returns-then-eq-clause-filled g c place passed holding =
    let within : c.args.lane < length c.args.held.now = omega (arith, c.requires.lane, c.requires.held) in
    let here = at_lane-get in_held c.args.held.now c.args.lane c.index-held-lane.result within in
    let nothing : c.next.result ≡ Nothing = search rules in
    let stop : c.next-next.result ≡ NextStop = search rules in
    subst (λ (s : LaneState). HasTakenNone (length c.args.inputs.now) place Broken (set c.args.states.now c.args.lane s) passed
    (at_lane received (set c.args.inputs.now c.args.lane c.receive.new.self))) (sym c.state_after.ensures)
    (lane_stopped (length c.args.inputs.now) c.args.lane c.args.inputs.now c.receive.new.self c.index-inputs-lane.result c.args.states.now passed
    c.args.held.now place c.in-Some.packet c.requires.lane c.requires.lane (omega (arith, c.requires.lane, c.requires.states))
    (ap next_of here ∙ sym c.next.ensures ∙ nothing) c.in-Some.ensures.messages c.in-Some.ensures.ends c.in-Some.ensures.taken holding
    (ap next_of (sym c.in-Ok.ensures) ∙ sym c.next-next.ensures ∙ stop))

pub returns-clause-inputs : goal.returns-clause-inputs
returns-clause-inputs g c =
    one_changed c.args.inputs.now c.args.lane c.receive.new.self c.index-inputs-lane.result c.requires.lane c.receive.ensures.ring

pub returns-clause-filled : goal.returns-clause-filled
returns-clause-filled g c place passed holding =
    let within : c.args.lane < length c.args.held.now = omega (arith, c.requires.lane, c.requires.held) in
    let here = at_lane-get in_held c.args.held.now c.args.lane c.index-held-lane.result within in
    let nothing : c.next.result ≡ Nothing = search rules in
    let goes_on : c.next-next.result ≢ NextStop = search rules in
    subst (λ (s : LaneState). AreHolding (length c.args.inputs.now) (set c.args.states.now c.args.lane s) passed
    (at_lane received (set c.args.inputs.now c.args.lane c.receive.new.self)) (set c.args.held.now c.args.lane c.in-Ok.given)) (sym c.state_after.ensures)
    (lane_filled (length c.args.inputs.now) c.args.lane c.args.inputs.now c.receive.new.self c.index-inputs-lane.result c.args.states.now passed c.args.held.now
    place c.in-Some.packet c.requires.lane c.requires.lane (omega (arith, c.requires.lane, c.requires.states))
    (ap next_of here ∙ sym c.next.ensures ∙ nothing) c.in-Some.ensures.messages c.in-Some.ensures.ends c.in-Some.ensures.taken holding
    c.in-Ok.given within c.in-Ok.ensures (λ e. goes_on (c.next-next.ensures ∙ ap next_of c.in-Ok.ensures ∙ e)))

pub returns-clause-holds : goal.returns-clause-holds
returns-clause-holds g c =
    let within : c.args.lane < length c.args.held.now = omega (arith, c.requires.lane, c.requires.held) in
    holds_some c.args.held.now c.args.lane c.in-Ok.given within (subst (λ (l : List Message). 1 ≤ length l) (sym c.in-Ok.ensures) c.in-Some.ensures.some)

pub returns-clause-others : goal.returns-clause-others
returns-clause-others g c other before =
    let within : c.args.lane < length c.args.held.now = omega (arith, c.requires.lane, c.requires.held) in
    still_holds c.args.held.now c.args.lane c.in-Ok.given other within
    (subst (λ (l : List Message). 1 ≤ length l) (sym c.in-Ok.ensures) c.in-Some.ensures.some) before
