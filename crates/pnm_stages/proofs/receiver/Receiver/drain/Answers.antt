use Rattle.pnm_stages.proofs.Words.{List, sym, subst, ◌∙◌, Message, More, EndsBy, received, Extends}
use Rattle.pnm_stages.proofs.RingSteps.{same_input}
use Rattle.pnm_stages.proofs.PacketLaws.{packet_goes_on, packet_ends, packet_says_end}
use Rattle.pnm_stages.proofs.receiver.Receiver.drain.Goals as goal

pub loop-preserved : goal.loop-preserved
loop-preserved g c = (
  same_input c.args.self.now c.loop.self c.receive.new.self c.loop.invariant.0 c.receive.ensures.ring,
  packet_goes_on c.in-Some-receive.packet c.loop.invariant.1
      c.in-Some-receive.ensures.taken c.in-Some-receive.ensures.messages c.in-Some-receive.ensures.ends (sym c.ending-ending.ensures ∙ c.in-More.is),
)

pub returns-in-Whole : goal.returns-in-Whole
returns-in-Whole g c = record {
  ring = same_input c.args.self.now c.loop.self c.receive.new.self c.loop.invariant.0 c.receive.ensures.ring;
  drained = packet_ends c.in-Some-receive.packet c.loop.invariant.1
      c.in-Some-receive.ensures.taken c.in-Some-receive.ensures.messages c.in-Some-receive.ensures.ends
      (packet_says_end c.in-Some-receive.packet c.ending-ending.ensures c.in-Whole.is);
}

pub returns-in_default : goal.returns-in_default
returns-in_default g c = record {
  ring = same_input c.args.self.now c.loop.self c.receive.new.self c.loop.invariant.0 c.receive.ensures.ring;
  drained = (
    subst (λ (l : List Message). Extends (received c.args.self.now) l (EndsBy More)) (sym c.in_default.ensures.none_seen.0) c.loop.invariant.1,
    c.in_default.ensures.none_seen.1,
  );
}
