use Rattle.std.specs.Io.KnownBytes.{Keeps}
use Rattle.pnm_streams.proofs.retry.RetryWrite.flush.Given as goal

-- an interrupted call did nothing
abbrev pub invariant-loop : goal.invariant-loop
invariant-loop g l = Keeps (g.W.Write.contents l.initial.self.inner) (g.W.Write.contents l.self.inner)
