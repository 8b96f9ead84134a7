use Rattle.pnm_stages.proofs.Words.{refl, ◌∙◌, true≢false}
use Rattle.pnm_stages.proofs.RingSteps.{itself_input, same_input}
use Rattle.pnm_stages.proofs.receiver.Receiver.wait_for_message.Goals as goal

pub loop-init : goal.loop-init
loop-init g c = (itself_input c.args.self.now, refl)

pub loop-preserved : goal.loop-preserved
loop-preserved g c = (
  same_input c.args.self.now c.has_message.new.self c.is_abandoned.new.self
      (same_input c.args.self.now c.loop.self c.has_message.new.self c.loop.invariant.0 c.has_message.ensures.ring) c.is_abandoned.ensures.ring,
  c.is_abandoned.ensures.received ∙ c.has_message.ensures.received ∙ c.loop.invariant.1,
)

pub returns-then-has_message : goal.returns-then-has_message
returns-then-has_message g c = record {
  ring = same_input c.args.self.now c.loop.self c.has_message.new.self c.loop.invariant.0 c.has_message.ensures.ring;
  received = c.has_message.ensures.received ∙ c.loop.invariant.1;
  some = λ there. c.has_message.ensures.some c.if-has_message.true;
  none = λ no. absurd (true≢false no);
  empty = λ no. absurd (true≢false no);
}

pub returns-then-is_abandoned : goal.returns-then-is_abandoned
returns-then-is_abandoned g c = record {
  ring = same_input c.args.self.now c.is_abandoned.new.self c.has_message-then-is_abandoned.new.self
      (same_input c.args.self.now c.has_message.new.self c.is_abandoned.new.self
      (same_input c.args.self.now c.loop.self c.has_message.new.self c.loop.invariant.0 c.has_message.ensures.ring) c.is_abandoned.ensures.ring)
      c.has_message-then-is_abandoned.ensures.ring;
  received = c.has_message-then-is_abandoned.ensures.received ∙ c.is_abandoned.ensures.received ∙ c.has_message.ensures.received ∙ c.loop.invariant.1;
  some = c.has_message-then-is_abandoned.ensures.some;
  none = c.has_message-then-is_abandoned.ensures.none;
  empty = c.has_message-then-is_abandoned.ensures.empty;
}
