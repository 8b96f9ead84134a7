use Rattle.pnm_serial.proofs.Words.{refl}
use Rattle.pnm_serial.proofs.FusedSinkSteps.{still_written}
use Rattle.pnm_serial.proofs.fused_sink.FusedSink.pass_on.Goals as goal

pub returns-then-self-clause-written : goal.returns-then-self-clause-written
returns-then-self-clause-written g c = λ form start messages was.
    c.flush.ensures.written form start messages
    (still_written g.W.BytesOut.held g.W.BytesOut.failures form start messages c.args.self.now _ refl refl refl was)
