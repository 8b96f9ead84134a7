use Rattle.std.proofs.Common.{length}
use Rattle.pnm_image.proofs.Written.{Sending}
use Rattle.pnm_image.proofs.device.write_all.Given as goal

-- what is left is what isn't written
abbrev pub invariant-loop-rest : goal.invariant-loop-rest
invariant-loop-rest g l = Sending g.W.BytesOut.held g.W.BytesOut.failures g.W.BytesOut.same l.initial.writer l.writer l.bytes l.rest

abbrev pub decreases-loop-rest : goal.decreases-loop-rest
decreases-loop-rest g l = length l.rest
