use Rattle.pnm_flow.proofs.Words.{◌≡◌, List, [], ◌++◌, refl, sym, ap, ◌∙◌, sent, known_items, Message, without_stop, failed_so}
use Rattle.pnm_flow.proofs.ThreadedRunSteps.{Over}
use Rattle.pnm_flow.proofs.ThreadedAnswerSteps.{over_has_run, was_started}
use Rattle.pnm_flow.proofs.threaded.conclude.Goals as goal

pub finish-writer-requires : goal.finish-writer-requires
finish-writer-requires g c =
    let collected = c.receive_rest.ensures.receiving c.requires.taken.0 c.requires.taken.1 [] c.requires.taken.2 in
    rw c.into_parts-fused_sink.ensures.0
    (failed_so g.W.BytesOut.held g.W.BytesOut.failures c.requires.taken.0 c.requires.taken.1 (without_stop collected.took) c.receive_rest.new.self.fused_sink
    c.receive_rest.new.self.fused_sink.output collected.put.taken)

pub returns-clause-ran : goal.returns-clause-ran
returns-clause-ran g c = λ first start lanes job lawful sending receiving ran.
    let collected = c.receive_rest.ensures.receiving job.form start [] receiving in
    let fed : sent c.args.ingress.output ≡ ran.took ++ known_items c.look_beside.new.self =
    ap (λ (p : _). sent p) (sym c.into_parts-reader.ensures.1) ∙ sym c.look_beside.ensures.sender.1 ∙ sym c.look_beside.ensures.in_order
    ∙ ap (λ (x : List Message). x ++ known_items c.look_beside.new.self) (c.look_beside.ensures.looked.1 ∙ ran.input) in
    let came : ran.gave ≡ collected.took ++ known_items c.receive_rest.new.self.input =
    sym ran.output ∙ sym c.receive_rest.ensures.sender.1 ∙ sym c.receive_rest.ensures.in_order
    ∙ ap (λ (x : List Message). x ++ known_items c.receive_rest.new.self.input) collected.came in
    let over : Over g.R.BytesIn.left g.R.BytesIn.failures g.W.BytesOut.held g.W.BytesOut.failures first c.args.ingress.source start c.finish-writer.result.0
    lanes job c.args.chain.ends.items c.args.ingress.input c.receive_rest.new.self.has_ended c.finish-writer.result.1 = record {
      lawful = lawful;
      given = sending.given;
      asked = sending.asked;
      fed = sent c.args.ingress.output;
      passed = sending.passed;
      took = ran.took;
      untaken = known_items c.look_beside.new.self;
      received = fed;
      links = c.args.chain.links.items;
      gave = ran.gave;
      stages = ran.stages;
      due = ran.due;
      got = collected.took;
      rest = known_items c.receive_rest.new.self.input;
      came = came;
      ended = collected.put.ended;
      all = c.receive_rest.ensures.rest;
      sink = c.receive_rest.new.self.fused_sink;
      taken = collected.put.taken;
      kept = rw c.into_parts-fused_sink.ensures.0 at c.finish-writer.ensures.bytes;
      broken = rw c.into_parts-fused_sink.ensures.0 at c.finish-writer.ensures.broken;
      well = rw c.into_parts-fused_sink.ensures.0 at c.finish-writer.ensures.well;
    } in
    rw (c.answer-answer.ensures, c.into_parts-reader.ensures.0, c.into_parts-reader.ensures.2, c.as_slice.ensures.value, c.into_parts-fused_sink.ensures.1)
    (over_has_run g.R.BytesIn.left g.R.BytesIn.failures g.W.BytesOut.held g.W.BytesOut.failures first c.args.ingress.source start c.finish-writer.result.0 lanes
    job c.args.chain.ends.items c.args.ingress.input _ c.receive_rest.new.self.has_ended c.finish-writer.result.1 over ran.count refl)

pub returns-clause-started : goal.returns-clause-started
returns-clause-started g c =
    rw c.answer-answer.ensures
    (was_started c.into_parts-reader.result.2 c.as_slice.result.now c.into_parts-fused_sink.result.1 _ c.finish-writer.result.1)
