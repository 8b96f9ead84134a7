use Rattle.pnm_stages.proofs.Words.{refl, ◌∙◌, false≢true}
use Rattle.pnm_stages.proofs.RingSteps.{itself_output, same_output}
use Rattle.pnm_stages.proofs.sender.Sender.wait_for_room.Goals as goal

pub loop-init : goal.loop-init
loop-init g c = (itself_output c.args.self.now, refl)

pub loop-preserved : goal.loop-preserved
loop-preserved g c = (
  same_output c.args.self.now c.is_abandoned.new.self c.wait.new.self
      (same_output c.args.self.now c.has_room.new.self c.is_abandoned.new.self
      (same_output c.args.self.now c.loop.self c.has_room.new.self c.loop.invariant.0 c.has_room.ensures.ring) c.is_abandoned.ensures.ring)
      c.wait.ensures.ring,
  c.wait.ensures.sent ∙ c.is_abandoned.ensures.sent ∙ c.has_room.ensures.sent ∙ c.loop.invariant.1,
)

pub returns-then-has_room : goal.returns-then-has_room
returns-then-has_room g c = record {
  ring = same_output c.args.self.now c.loop.self c.has_room.new.self c.loop.invariant.0 c.has_room.ensures.ring;
  sent = c.has_room.ensures.sent ∙ c.loop.invariant.1;
  room = λ free. c.has_room.ensures.room c.if-has_room.true;
}

pub returns-then-is_abandoned : goal.returns-then-is_abandoned
returns-then-is_abandoned g c = record {
  ring = same_output c.args.self.now c.has_room.new.self c.is_abandoned.new.self
      (same_output c.args.self.now c.loop.self c.has_room.new.self c.loop.invariant.0 c.has_room.ensures.ring) c.is_abandoned.ensures.ring;
  sent = c.is_abandoned.ensures.sent ∙ c.has_room.ensures.sent ∙ c.loop.invariant.1;
  room = λ no. absurd (false≢true no);
}
