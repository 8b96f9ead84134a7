use Rattle.pnm_io_loop.proofs.Words.{◌∙◌, Bool, ap, inr, arith, common_steps, sending_is_over}
use Rattle.pnm_io_loop.proofs.ingress.Ingress.try_send.Goals as goal

pub returns-then-not-has_room-clause-sending : goal.returns-then-not-has_room-clause-sending
returns-then-not-has_room-clause-sending g c = λ first before was. record {
  given = was.given;
  asked = was.asked;
  passed = c.is_abandoned-self.ensures.sent ∙ c.has_room.ensures.sent ∙ was.passed;
  counted = was.counted;
}

pub returns-clause-same_device : goal.returns-clause-same_device
returns-clause-same_device g c = grind (arith, common_steps)

pub returns-then-not-has_room-clause-same_device : goal.returns-then-not-has_room-clause-same_device
returns-then-not-has_room-clause-same_device g c = grind (arith, common_steps)

pub send_next-requires-clause-room : goal.send_next-requires-clause-room
send_next-requires-clause-room g c = grind (arith, common_steps)

-- the other end is gone
pub returns-then-not-has_room-clause-goes_on : goal.returns-then-not-has_room-clause-goes_on
returns-then-not-has_room-clause-goes_on g c = λ gone. inr (c.requires.going, ap (λ (b : Bool). sending_is_over b c.args.self.now.input) gone)
