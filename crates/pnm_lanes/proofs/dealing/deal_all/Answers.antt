use Rattle.pnm_lanes.proofs.Words.{refl, sym, subst, ◌∙◌, received, known_items, Place, Ending, EndsBy, messages_in, More, itself_input, same_input}
use Rattle.pnm_lanes.proofs.Words.{IsLaneCount}
use Rattle.pnm_lanes.proofs.DealSteps.{IsDealing, deals_nothing, deals_packet, wakes_dealing, ends_whole, ends_broken}
use Rattle.pnm_lanes.proofs.BreakSteps.{breaks_off, cuts, cut_here, ends_gone, interrupts_packet}
use Rattle.pnm_lanes.proofs.SendSteps.{woken_count}
use Rattle.pnm_lanes.proofs.dealing.deal_all.Goals as goal

pub loop-init : goal.loop-init
loop-init g c = (
  itself_input c.args.input.now,
  subst IsLaneCount (sym (woken_count c.args.outputs.now c.coalesce_each.new.outputs c.coalesce_each.ensures)) c.requires,
  wakes_dealing _ (received c.args.input.now) (received c.args.input.now) (received c.args.input.now) c.args.outputs.now c.args.outputs.now
      c.coalesce_each.new.outputs
      (subst (λ (place : Place). IsDealing More place (received c.args.input.now) (received c.args.input.now) c.args.outputs.now c.args.outputs.now)
      (sym c.new-place.ensures) (deals_nothing (received c.args.input.now) c.args.outputs.now)) refl c.coalesce_each.ensures,
)

pub returns-in_default-clause-dealt : goal.returns-in_default-clause-dealt
returns-in_default-clause-dealt g c =
    let nows = c.wake_before_input.new.outputs in
    let dealing =
    wakes_dealing c.loop.place (received c.args.input.now) (received c.loop.input) (received c.wake_before_input.new.input) c.args.outputs.now
    c.loop.outputs nows c.loop.invariant.2 c.wake_before_input.ensures.input.1 c.wake_before_input.ensures.outputs in
    breaks_off (cut_here dealing c.in_default.ensures.none_seen.0) refl c.break_off.ensures.broken

pub returns-then-is_end_dealt-clause-dealt : goal.returns-then-is_end_dealt-clause-dealt
returns-then-is_end_dealt-clause-dealt g c =
    let nows = c.wake_before_input.new.outputs in
    let dealing =
    wakes_dealing c.loop.place (received c.args.input.now) (received c.loop.input) (received c.wake_before_input.new.input) c.args.outputs.now
    c.loop.outputs nows c.loop.invariant.2 c.wake_before_input.ensures.input.1 c.wake_before_input.ensures.outputs in
    let end = c.in-Some-deal_packet.end in
    let ending = c.ending-ending.result in
    ends_gone (interrupts_packet c.deal_packet.new.place c.in-Some-receive.packet dealing c.in-Some-receive.ensures.taken c.in-Some-receive.ensures.messages
    (subst (λ (e : Ending). EndsBy e (messages_in c.in-Some-receive.packet)) (sym c.ending-ending.ensures) c.in-Some-receive.ensures.ends)
    c.deal_packet.ensures c.in-Some-deal_packet.is) (c.is_end_dealt.ensures.yes c.if-is_end_dealt.true)

pub returns-in-Some-deal_packet-clause-dealt : goal.returns-in-Some-deal_packet-clause-dealt
returns-in-Some-deal_packet-clause-dealt g c =
    let nows = c.wake_before_input.new.outputs in
    let dealing =
    wakes_dealing c.loop.place (received c.args.input.now) (received c.loop.input) (received c.wake_before_input.new.input) c.args.outputs.now
    c.loop.outputs nows c.loop.invariant.2 c.wake_before_input.ensures.input.1 c.wake_before_input.ensures.outputs in
    let end = c.in-Some-deal_packet.end in
    let ending = c.ending-ending.result in
    breaks_off (cuts (interrupts_packet c.deal_packet.new.place c.in-Some-receive.packet dealing c.in-Some-receive.ensures.taken
    c.in-Some-receive.ensures.messages
    (subst (λ (e : Ending). EndsBy e (messages_in c.in-Some-receive.packet)) (sym c.ending-ending.ensures) c.in-Some-receive.ensures.ends)
    c.deal_packet.ensures c.in-Some-deal_packet.is) (c.is_end_dealt.ensures.no c.if-is_end_dealt.false)) refl c.break_off-in-Some-deal_packet.ensures.broken

pub loop-preserved : goal.loop-preserved
loop-preserved g c =
    let nows = c.wake_before_input.new.outputs in
    let dealing =
    wakes_dealing c.loop.place (received c.args.input.now) (received c.loop.input) (received c.wake_before_input.new.input) c.args.outputs.now
    c.loop.outputs nows c.loop.invariant.2 c.wake_before_input.ensures.input.1 c.wake_before_input.ensures.outputs in
    let same = same_input c.args.input.now c.loop.input c.wake_before_input.new.input c.loop.invariant.0 c.wake_before_input.ensures.input.0 in (
      same_input c.args.input.now c.wake_before_input.new.input c.receive.new.self same c.receive.ensures.ring,
      subst IsLaneCount (sym
          c.deal_packet.auto.outputs) (subst IsLaneCount (sym (woken_count c.loop.outputs nows c.wake_before_input.ensures.outputs)) c.loop.invariant.1),
      deals_packet c.in-Some-receive.packet c.deal_packet.result dealing c.in-Some-receive.ensures.taken c.in-Some-receive.ensures.messages
          (subst (λ (e : Ending). EndsBy e (messages_in c.in-Some-receive.packet)) (sym c.ending-ending.ensures ∙ c.in-More.is)
          c.in-Some-receive.ensures.ends) c.deal_packet.ensures c.in_default-deal_packet.is,
    )

pub returns-in-Whole-clause-dealt : goal.returns-in-Whole-clause-dealt
returns-in-Whole-clause-dealt g c =
    let nows = c.wake_before_input.new.outputs in
    let dealing =
    wakes_dealing c.loop.place (received c.args.input.now) (received c.loop.input) (received c.wake_before_input.new.input) c.args.outputs.now
    c.loop.outputs nows c.loop.invariant.2 c.wake_before_input.ensures.input.1 c.wake_before_input.ensures.outputs in
    ends_whole c.deal_packet.new.place (received c.args.input.now) (received c.receive.new.self) (known_items c.receive.new.self) c.args.outputs.now
    c.deal_packet.new.outputs (deals_packet c.in-Some-receive.packet
    c.deal_packet.result dealing c.in-Some-receive.ensures.taken c.in-Some-receive.ensures.messages
    (subst (λ (e : Ending). EndsBy e (messages_in c.in-Some-receive.packet)) (sym c.ending-ending.ensures ∙ c.in-Whole.is) c.in-Some-receive.ensures.ends)
    c.deal_packet.ensures c.in_default-deal_packet.is)

pub returns-in-BrokenOff-clause-dealt : goal.returns-in-BrokenOff-clause-dealt
returns-in-BrokenOff-clause-dealt g c =
    let nows = c.wake_before_input.new.outputs in
    let dealing =
    wakes_dealing c.loop.place (received c.args.input.now) (received c.loop.input) (received c.wake_before_input.new.input) c.args.outputs.now
    c.loop.outputs nows c.loop.invariant.2 c.wake_before_input.ensures.input.1 c.wake_before_input.ensures.outputs in
    ends_broken c.deal_packet.new.place (received c.args.input.now) (received c.receive.new.self) (known_items c.receive.new.self) c.args.outputs.now
    c.deal_packet.new.outputs (deals_packet c.in-Some-receive.packet
    c.deal_packet.result dealing c.in-Some-receive.ensures.taken c.in-Some-receive.ensures.messages
    (subst (λ (e : Ending). EndsBy e (messages_in c.in-Some-receive.packet)) (sym c.ending-ending.ensures ∙ c.in-BrokenOff.is) c.in-Some-receive.ensures.ends)
    c.deal_packet.ensures c.in_default-deal_packet.is)

pub returns-in_default-clause-input : goal.returns-in_default-clause-input
returns-in_default-clause-input g c =
    let same = same_input c.args.input.now c.loop.input c.wake_before_input.new.input c.loop.invariant.0 c.wake_before_input.ensures.input.0 in
    same_input c.args.input.now c.receive.new.self c.break_off.new.input (same_input c.args.input.now c.wake_before_input.new.input
    c.receive.new.self same c.receive.ensures.ring) c.break_off.ensures.input

pub returns-then-is_end_dealt-clause-input : goal.returns-then-is_end_dealt-clause-input
returns-then-is_end_dealt-clause-input g c =
    let same = same_input c.args.input.now c.loop.input c.wake_before_input.new.input c.loop.invariant.0 c.wake_before_input.ensures.input.0 in
    same_input c.args.input.now c.wake_before_input.new.input c.receive.new.self same c.receive.ensures.ring

pub returns-in-Some-deal_packet-clause-input : goal.returns-in-Some-deal_packet-clause-input
returns-in-Some-deal_packet-clause-input g c =
    let same = same_input c.args.input.now c.loop.input c.wake_before_input.new.input c.loop.invariant.0 c.wake_before_input.ensures.input.0 in
    same_input c.args.input.now c.receive.new.self c.break_off-in-Some-deal_packet.new.input (same_input c.args.input.now
    c.wake_before_input.new.input c.receive.new.self same c.receive.ensures.ring) c.break_off-in-Some-deal_packet.ensures.input

pub returns-in-Whole-clause-input : goal.returns-in-Whole-clause-input
returns-in-Whole-clause-input g c =
    let same = same_input c.args.input.now c.loop.input c.wake_before_input.new.input c.loop.invariant.0 c.wake_before_input.ensures.input.0 in
    same_input c.args.input.now c.wake_before_input.new.input c.receive.new.self same c.receive.ensures.ring

pub returns-in-BrokenOff-clause-input : goal.returns-in-BrokenOff-clause-input
returns-in-BrokenOff-clause-input g c =
    let same = same_input c.args.input.now c.loop.input c.wake_before_input.new.input c.loop.invariant.0 c.wake_before_input.ensures.input.0 in
    same_input c.args.input.now c.wake_before_input.new.input c.receive.new.self same c.receive.ensures.ring

pub break_off-requires : goal.break_off-requires
break_off-requires g c =
    (subst IsLaneCount (sym (woken_count c.loop.outputs c.wake_before_input.new.outputs c.wake_before_input.ensures.outputs)) c.loop.invariant.1)

pub break_off-requires-in-Some-deal_packet : goal.break_off-requires-in-Some-deal_packet
break_off-requires-in-Some-deal_packet g c =
    subst IsLaneCount (sym c.deal_packet.auto.outputs) (subst IsLaneCount (sym (woken_count c.loop.outputs c.wake_before_input.new.outputs
    c.wake_before_input.ensures.outputs)) c.loop.invariant.1)

pub deal_packet-requires : goal.deal_packet-requires
deal_packet-requires g c =
    (subst IsLaneCount (sym (woken_count c.loop.outputs c.wake_before_input.new.outputs c.wake_before_input.ensures.outputs)) c.loop.invariant.1)
