use Rattle.pnm_serial.proofs.Words.{◌≡◌, sym, ◌∙◌, true, is_ok}
use Rattle.pnm_serial.proofs.FusedSinkSteps.{put_passed_on}
use Rattle.pnm_serial.proofs.fused_sink.FusedSink.flush_images.Goals as goal

pub returns-then-is_ok-clause-taken : goal.returns-then-is_ok-clause-taken
returns-then-is_ok-clause-taken g c = λ form start messages was.
    let o-is : is_ok c.args.self.now.output ≡ true = sym c.is_ok.ensures.value ∙ c.if-is_ok.true in
    put_passed_on g.W.BytesOut.held g.W.BytesOut.failures form start messages c.args.self.now c.flush.new.self c.args.self.now.output o-is was
    (c.flush.ensures.written form start messages) c.flush.ensures.output
