use Rattle.pnm_lanes.proofs.Words.{Packet, sym, subst, length, messages_in, part_at, HasSentParts}
use Rattle.pnm_lanes.proofs.dealing.send_packet.Goals as goal

pub returns-in-StreamEnd : goal.returns-in-StreamEnd
returns-in-StreamEnd g c =
    subst (λ (packet : Packet). HasSentParts (part_at (length c.args.outputs.now) c.args.place (messages_in packet)) c.send_end.result c.args.outputs.now
    c.send_end.new.outputs) (sym c.in-StreamEnd.is) c.send_end.ensures

pub returns-in-Stop : goal.returns-in-Stop
returns-in-Stop g c =
    subst (λ (packet : Packet). HasSentParts (part_at (length c.args.outputs.now) c.args.place (messages_in packet)) c.send_end-in-Stop.result
    c.args.outputs.now c.send_end-in-Stop.new.outputs) (sym c.in-Stop.is) c.send_end-in-Stop.ensures
