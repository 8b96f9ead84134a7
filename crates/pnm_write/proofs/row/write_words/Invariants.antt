use Rattle.pnm_write.proofs.Words.{length, bytes_in, FitIn, Sending}
use Rattle.pnm_write.proofs.row.write_words.Given as goal

-- what is left is what isn't written, and each sample of it fits its bytes
abbrev pub invariant-loop-rest : goal.invariant-loop-rest
invariant-loop-rest g l =
    Sending g.W.BytesOut.held g.W.BytesOut.failures g.W.BytesOut.same l.initial.writer l.writer (bytes_in l.sample_width l.samples)
    (bytes_in l.sample_width l.rest) × FitIn l.sample_width l.rest

abbrev pub decreases-loop-rest : goal.decreases-loop-rest
decreases-loop-rest g l = length l.rest
