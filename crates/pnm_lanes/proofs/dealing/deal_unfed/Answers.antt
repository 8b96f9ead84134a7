use Rattle.pnm_lanes.proofs.Words.{refl, sym, subst, Option, StageEnd, length, messages_in, unfed_in, IfSome, Packet, Place, IsLaneCount, part_at, HasSentParts}
use Rattle.pnm_lanes.proofs.Words.{HasTakenLawful}
use Rattle.pnm_lanes.proofs.MessageSteps.{deals_none, deals_next, leaves_next, refuses_next}
use Rattle.pnm_lanes.proofs.dealing.deal_unfed.Goals as goal

pub loop-next-init : goal.loop-next-init
loop-next-init g c = (c.requires, deals_none c.args.place.now c.args.outputs.now refl)

pub returns-in-Err : goal.returns-in-Err
returns-in-Err g c = refuses_next c.loop-next.invariant.1 c.in-Err.ensures.refused

pub returns-in-Some-send_packet : goal.returns-in-Some-send_packet
returns-in-Some-send_packet g c =
    let taken : HasTakenLawful c.loop-next.place (unfed_in c.loop-next.unfed) c.in-Some.packet c.in-Some.after (unfed_in c.next_lawful.new.unfed) =
    subst (λ (next : Option (Packet × Place)). IfSome next (λ n. HasTakenLawful c.loop-next.place (unfed_in c.loop-next.unfed) n.0 n.1
    (unfed_in c.next_lawful.new.unfed))) c.in-Some.is c.in-Ok.ensures.some in
    leaves_next c.loop-next.invariant.1 taken
    (subst (λ (u : Option StageEnd). HasSentParts (part_at (length c.loop-next.outputs) c.loop-next.place (messages_in c.in-Some.packet)) u
    c.loop-next.outputs c.send_packet.new.outputs) c.in-Some-send_packet.is c.send_packet.ensures)

pub loop-next-preserved : goal.loop-next-preserved
loop-next-preserved g c =
    let taken : HasTakenLawful c.loop-next.place (unfed_in c.loop-next.unfed) c.in-Some.packet c.in-Some.after (unfed_in c.next_lawful.new.unfed) =
    subst (λ (next : Option (Packet × Place)). IfSome next (λ n. HasTakenLawful c.loop-next.place (unfed_in c.loop-next.unfed) n.0 n.1
    (unfed_in c.next_lawful.new.unfed))) c.in-Some.is c.in-Ok.ensures.some in (
      subst IsLaneCount (sym c.send_packet.auto.outputs) c.loop-next.invariant.0,
      deals_next c.loop-next.invariant.1 taken
          (subst (λ (u : Option StageEnd). HasSentParts (part_at (length c.loop-next.outputs) c.loop-next.place (messages_in c.in-Some.packet)) u
          c.loop-next.outputs c.send_packet.new.outputs) c.in_default-send_packet.is c.send_packet.ensures),
    )
