use Rattle.pnm_io_loop.proofs.Words.{sent, received, known_items, messages_in, known_by, same_input}
use Rattle.pnm_io_loop.proofs.EgressSteps.{collects_some, still_all}
use Rattle.pnm_io_loop.proofs.egress.Egress.receive_rest.Goals as goal

pub loop-self-preserved : goal.loop-self-preserved
loop-self-preserved g c =
    let added = c.receive_known-packet.ensures.received in (
      λ form start before was. collects_some g.W.BytesOut.held g.W.BytesOut.failures form start before
          (messages_in c.receive_known-packet.result) c.loop-self.self
          _ added (λ l put. c.put.ensures.put form start l (record { ended = put.ended; taken = put.taken })) c.count_image.ensures
          (c.loop-self.invariant.0 form start before was),
      still_all (received c.loop-self.self.input) (known_items c.receive_known-packet.new.self) (messages_in c.receive_known-packet.result)
          c.loop-self.invariant.1 added (known_by c.receive_known-packet.ensures.seen),
      same_input c.args.self.now.input c.loop-self.self.input c.receive_known-packet.new.self c.loop-self.invariant.2 c.receive_known-packet.ensures.ring,
      g.met.W.BytesOut.same_later _ _ _ c.loop-self.invariant.3 c.put.ensures.same_device,
    )
