use Rattle.pnm_serial.proofs.Words.{rules, refl, reader_of, output_of, job_of, change, HasMostMessages, refusals_in}
use Rattle.pnm_serial.proofs.RunSteps.{failed_so, ran_of, stages_answered}
use Rattle.pnm_serial.proofs.EndSteps.{Ended, HaveEnded, ended_in_one_thread, ended_without_reading, may_follow}
use Rattle.pnm_serial.proofs.serial.run_filters.Goals as goal

-- there is no memory to read
pub returns-in-Err-clause-ran : goal.returns-in-Err-clause-ran
returns-in-Err-clause-ran g c =
    let reader = c.args.reader.now in
    let writer = c.args.writer.now in
    λ tools lawful fresh.
    rw c.in-Err.ensures.refused
    (ended_without_reading (job_of tools c.args.form) (change g.R.BytesIn.left g.R.BytesIn.failures reader reader)
    (change g.W.BytesOut.held g.W.BytesOut.failures writer writer) refl refl refl)

pub finish-written-requires : goal.finish-written-requires
finish-written-requires g c =
    let taken = c.feed_all-input.ensures.fed.output.taken in
    let start = rw (← c.new-fused_sink.ensures.writer) at c.new-fused_sink.ensures.fresh in
    failed_so (λ w. g.W.BytesOut.held w.now) (λ w. g.W.BytesOut.failures w.now) c.args.form (output_of c.new-fused_sink.result)
    c.feed_all-input.ensures.fed.output.out c.feed_all-input.new.fused_sink c.feed_all-input.new.fused_sink.output
    (taken c.args.form (output_of c.new-fused_sink.result) start)

-- all has passed, through to the end of the input or its fault
pub returns-clause-ran : goal.returns-clause-ran
returns-clause-ran g c = λ tools lawful fresh.
    let fed = c.feed_all-input.ensures.fed in
    let start = rw (← c.new-fused_sink.ensures.writer) at c.new-fused_sink.ensures.fresh in
    let ran = ran_of lawful fresh start fed in
    let answered = stages_answered tools lawful fresh fed in
    let stages : HaveEnded 1 (job_of tools c.args.form) (refusals_in c.feed_all-input.new.stages) fed.given fed.output.out c.first_fault.result = record {
      last = fed.output.out;
      answered = answered;
      first = c.first_fault.ensures;
      all = λ output whole. refl;
    } in
    let reader = change (λ r. g.R.BytesIn.left r.now) (λ r. g.R.BytesIn.failures r.now) (reader_of c.with_buffer-source.result)
    (reader_of c.feed_all-input.new.source) in
    let ended : Ended 1 (HasMostMessages reader.old reader.new) reader (λ w. g.W.BytesOut.held w.now) (λ w. g.W.BytesOut.failures w.now) (output_of
    c.new-fused_sink.result)
    c.finish-written.result.0 (job_of tools c.args.form) c.feed_all-input.result c.first_fault.result c.finish-written.result.1 = record {
      faults = refusals_in c.feed_all-input.new.stages;
      given = fed.given;
      out = fed.output.out;
      sink = c.feed_all-input.new.fused_sink;
      read = fed.read;
      consumed = fed.consumed;
      told = λ rest may. fed.told rest (may_follow c.feed_all-input.result c.first_fault.result c.finish-written.result.1 reader rest may);
      count = fed.count;
      read_failed = fed.read_failed;
      ran = ran;
      stages = λ well. stages;
      kept = c.finish-written.ensures.bytes;
      broken = c.finish-written.ensures.broken;
      well = c.finish-written.ensures.well;
    } in
    let has = ended_in_one_thread reader (λ w. g.W.BytesOut.held w.now) (λ w. g.W.BytesOut.failures w.now) (output_of c.new-fused_sink.result)
    c.finish-written.result.0 (job_of tools c.args.form) c.feed_all-input.result c.first_fault.result c.finish-written.result.1 ended answered stages.first in
    let all = rw (c.new-fused_sink.ensures.writer, c.with_buffer-source.ensures.reader_is, ← c.answer.ensures) at has in
    search rules

pub returns-in-Err-clause-same_reader : goal.returns-in-Err-clause-same_reader
returns-in-Err-clause-same_reader g c = g.met.R.BytesIn.same_at_once _

pub returns-in-Err-clause-same_writer : goal.returns-in-Err-clause-same_writer
returns-in-Err-clause-same_writer g c = g.met.W.BytesOut.same_at_once _

pub returns-clause-same_reader : goal.returns-clause-same_reader
returns-clause-same_reader g c =
    let same : g.R.BytesIn.same c.args.reader.now (reader_of c.feed_all-input.new.source).now =
    (rw c.with_buffer-source.ensures.reader_is at c.feed_all-input.ensures.same_reader).1 in
    search rules

pub returns-clause-same_writer : goal.returns-clause-same_writer
returns-clause-same_writer g c =
    let same : g.W.BytesOut.same c.args.writer.now c.finish-written.result.0.now = g.met.W.BytesOut.same_later _ _ _
    (rw c.new-fused_sink.ensures.writer at c.feed_all-input.ensures.same_writer).1 c.finish-written.ensures.same_device.1 in
    search rules
