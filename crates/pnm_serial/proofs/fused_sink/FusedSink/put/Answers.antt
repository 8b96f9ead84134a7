use Rattle.pnm_serial.proofs.Words.{◌≡◌, ◌++◌, refl, sym, ◌∙◌, true, false, is_ok, messages_in}
use Rattle.pnm_serial.proofs.FusedSinkSteps.{put_written, put_passed_on, put_refused, put_dropped}
use Rattle.pnm_serial.proofs.fused_sink.FusedSink.put.Goals as goal

pub returns-then-is_ok-2-clause-taken : goal.returns-then-is_ok-2-clause-taken
returns-then-is_ok-2-clause-taken g c = λ form start messages was.
    let o-is : is_ok c.args.self.now.output ≡ true = sym c.is_ok.ensures.value ∙ c.if-is_ok.true in
    let r-is : is_ok c.put-self.result ≡ true = sym c.is_ok-then-is_ok.ensures.value ∙ c.if-is_ok-2.true in
    let counted = put_written g.W.BytesOut.held g.W.BytesOut.failures form start messages (messages_in c.args.packet.now) c.args.self.now _
    c.args.self.now.output c.put-self.result o-is r-is was
    c.put-self.ensures.bytes c.put-self.ensures.taken c.put-self.ensures.sound c.put-self.ensures.form c.count.ensures.images c.count.ensures.rows refl in
    put_passed_on g.W.BytesOut.held g.W.BytesOut.failures form start (messages ++ messages_in c.args.packet.now) _ c.pass_on.new.self
    c.put-self.result r-is counted
    (c.pass_on.ensures.written form start (messages ++ messages_in c.args.packet.now)) c.pass_on.ensures.output

pub returns-else-is_ok-2-clause-taken : goal.returns-else-is_ok-2-clause-taken
returns-else-is_ok-2-clause-taken g c = λ form start messages was.
    let o-is : is_ok c.args.self.now.output ≡ true = sym c.is_ok.ensures.value ∙ c.if-is_ok.true in
    let r-is : is_ok c.put-self.result ≡ false = sym c.is_ok-then-is_ok.ensures.value ∙ c.if-is_ok-2.false in
    put_refused g.W.BytesOut.held g.W.BytesOut.failures form start messages (messages_in c.args.packet.now) c.args.self.now _ c.args.self.now.output
    c.put-self.result o-is r-is was
    c.put-self.ensures.refused c.put-self.ensures.stays

pub returns-else-is_ok-clause-taken : goal.returns-else-is_ok-clause-taken
returns-else-is_ok-clause-taken g c = λ form start messages was.
    let o-is : is_ok c.args.self.now.output ≡ false = sym c.is_ok.ensures.value ∙ c.if-is_ok.false in
    put_dropped g.W.BytesOut.held g.W.BytesOut.failures form start messages (messages_in c.args.packet.now) c.args.self.now c.args.self.now.output o-is was
