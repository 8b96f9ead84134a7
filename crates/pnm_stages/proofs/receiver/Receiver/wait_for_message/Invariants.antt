use Rattle.pnm_stages.proofs.Words.{◌≡◌, received, SameReceiver}
use Rattle.pnm_stages.proofs.receiver.Receiver.wait_for_message.Given as goal

-- nothing was received
abbrev pub invariant-loop : goal.invariant-loop
invariant-loop g l = SameReceiver l.fn.self l.self × (received l.self ≡ received l.fn.self)
