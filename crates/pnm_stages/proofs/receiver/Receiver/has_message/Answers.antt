use Rattle.pnm_stages.proofs.receiver.Receiver.has_message.Goals as goal

pub returns-else-has_seen_message-clause-none : goal.returns-else-has_seen_message-clause-none
returns-else-has_seen_message-clause-none c = c.look.ensures.none
