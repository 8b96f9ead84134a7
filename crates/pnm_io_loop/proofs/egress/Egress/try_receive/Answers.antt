use Rattle.pnm_io_loop.proofs.Words.{Bool, List, ◌∙◌, inl, inr, refl, ap, length, arith, common_steps, Message, receiving_is_over}
use Rattle.pnm_io_loop.proofs.EgressSteps.{not_ended, over_if_gone, still_going}
use Rattle.pnm_io_loop.proofs.egress.Egress.try_receive.Goals as goal

pub returns-clause-receiving : goal.returns-clause-receiving
returns-clause-receiving g c = grind (arith, common_steps)

pub returns-then-not-has_message-clause-receiving : goal.returns-then-not-has_message-clause-receiving
returns-then-not-has_message-clause-receiving g c = grind (arith, common_steps)

pub returns-then-not-has_message-clause-same_device : goal.returns-then-not-has_message-clause-same_device
returns-then-not-has_message-clause-same_device g c = grind (arith, common_steps)

-- the other end is gone
pub returns-then-not-has_message-clause-goes_on : goal.returns-then-not-has_message-clause-goes_on
returns-then-not-has_message-clause-goes_on g c = λ gone.
    inr (c.requires.going, ap (λ (b : Bool). receiving_is_over c.args.self.now.has_ended b) gone ∙ over_if_gone c.args.self.now.has_ended)

pub returns-then-not-has_message-clause-none : goal.returns-then-not-has_message-clause-none
returns-then-not-has_message-clause-none g c = λ not. (
  record {
    received = c.is_abandoned-self.ensures.received ∙ c.has_message.ensures.received;
    images = refl;
    over = still_going c.args.self.now.has_ended c.args.self.now.is_gone c.requires.going not;
  },
  c.has_message.ensures.seen c.if-not-has_message.true,
)

pub take_seen-requires-clause-going : goal.take_seen-requires-clause-going
take_seen-requires-clause-going g c = not_ended c.args.self.now.has_ended c.args.self.now.is_gone c.requires.going

pub returns-clause-goes_on : goal.returns-clause-goes_on
returns-clause-goes_on g c = λ some. inl (omega (arith, ap (λ (l : List Message). length l) c.has_message.ensures.received, c.take_seen.ensures.goes_on))
