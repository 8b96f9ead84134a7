use Rattle.pnm_write.proofs.Words.{refl, fails}
use Rattle.pnm_write.proofs.sink.Sink.flush.Goals as goal

pub returns-in-Err-clause-sound : goal.returns-in-Err-clause-sound
returns-in-Err-clause-sound g c = refl

pub returns-in-Err-clause-flush : goal.returns-in-Err-clause-flush
returns-in-Err-clause-flush g c =
    let before = g.W.BytesOut.failures c.args.self.now.writer in
    λ sound. (refl, fails before before (g.W.BytesOut.failures c.flush.new.self) refl c.in-Err.ensures.count)
