use Rattle.pnm_stages.proofs.Words.{received, SameReceiver, More, EndsBy, Extends}
use Rattle.pnm_stages.proofs.receiver.Receiver.drain.Given as goal

-- what was received hasn't ended
abbrev pub invariant-loop : goal.invariant-loop
invariant-loop g l = SameReceiver l.fn.self l.self × Extends (received l.fn.self) (received l.self) (EndsBy More)
