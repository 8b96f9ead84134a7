use Rattle.pnm_stages.proofs.Words.{refl}
use Rattle.pnm_stages.proofs.RingSteps.{itself_input, itself_output}
use Rattle.pnm_stages.proofs.stage.has_next.Goals as goal

pub returns-then-has_seen_message : goal.returns-then-has_seen_message
returns-then-has_seen_message g c = record {
  ring = itself_input c.args.input.now;
  received = refl;
  output = itself_output c.args.output.now;
  sent = refl;
  some = c.has_seen_message.ensures.some;
  none = c.has_seen_message.ensures.none;
}

pub returns-else-has_seen_message : goal.returns-else-has_seen_message
returns-else-has_seen_message g c = record {
  ring = c.wait.ensures.ring;
  received = c.wait.ensures.received;
  output = c.wait.ensures.output;
  sent = c.wait.ensures.sent;
  some = c.wait.ensures.some;
  none = c.wait.ensures.none;
}
