use Rattle.pnm_stages.proofs.Words.{◌∙◌}
use Rattle.pnm_stages.proofs.RingSteps.{same_input}
use Rattle.pnm_stages.proofs.stage.wait.Goals as goal

pub returns-then-has_message : goal.returns-then-has_message
returns-then-has_message g c = record {
  ring = c.has_message.ensures.ring;
  received = c.has_message.ensures.received;
  output = c.wake_receiver.ensures.ring;
  sent = c.wake_receiver.ensures.sent;
  some = c.has_message.ensures.some;
  none = c.has_message.ensures.none;
}

pub returns-else-has_message : goal.returns-else-has_message
returns-else-has_message g c = record {
  ring = same_input c.args.input.now c.has_message.new.self c.wait_for_message.new.self c.has_message.ensures.ring c.wait_for_message.ensures.ring;
  received = c.wait_for_message.ensures.received ∙ c.has_message.ensures.received;
  output = c.wake_receiver.ensures.ring;
  sent = c.wake_receiver.ensures.sent;
  some = c.wait_for_message.ensures.some;
  none = c.wait_for_message.ensures.none;
}
