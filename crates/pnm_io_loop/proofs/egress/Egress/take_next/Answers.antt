use Rattle.pnm_io_loop.proofs.Words.{List, ap, sym, ◌∙◌, ◌++◌, length, arith, length-append, Message, Packet, messages_in, received}
use Rattle.pnm_io_loop.proofs.EgressSteps.{collects_some, first_is}
use Rattle.pnm_io_loop.proofs.egress.Egress.take_next.Goals as goal

-- a packet was written, and taken
pub returns-clause-receiving : goal.returns-clause-receiving
returns-clause-receiving g c form start before =
    let packet = c.peek_known-packet.result.now in
    let same = sym (first_is (sym c.peek_known-packet.ensures.next.1 ∙ c.receive_known.ensures.seen)) in
    let added = c.receive_known.ensures.received ∙ ap (λ (p : Packet). received c.args.self.now.input ++ messages_in p) same in
    collects_some g.W.BytesOut.held g.W.BytesOut.failures form start before (messages_in packet) c.args.self.now _ added
    (λ l put. c.put.ensures.put form start l (record { ended = put.ended; taken = put.taken })) c.count_image.ensures

pub returns-clause-goes_on : goal.returns-clause-goes_on
returns-clause-goes_on g c =
    omega (
      arith,
      c.receive_known.ensures.some,
      ap (λ (l : List Message). length l) c.receive_known.ensures.received,
      length-append (received c.args.self.now.input) (messages_in c.receive_known.result),
    )

pub returns-clause-fewer : goal.returns-clause-fewer
returns-clause-fewer g c = omega (arith, ap (λ (l : List Packet). length l) c.receive_known.ensures.seen)
