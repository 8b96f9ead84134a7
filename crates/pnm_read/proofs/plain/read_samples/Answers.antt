use Rattle.pnm_read.proofs.Words.{rules, arith, ◌≡◌, ◌≤◌, ◌-◌, ◌+◌, [], length, vec_len, refl, ap, subst, ◌∙◌, err_from_is_err_and}
use Rattle.std.proofs.Common.{length-append}
use Rattle.pnm_read.proofs.PlainSteps.{samples_fault, samples_no_memory, samples_more, samples_read, samples_begin}
use Rattle.pnm_read.proofs.LeadingSteps.{samples_taken, reading_no_memory}
use Rattle.pnm_read.proofs.plain.read_samples.Goals as goal

pub returns-in_default : goal.returns-in_default
returns-in_default g c = reading_no_memory
    (samples_begin c.args.shape c.row_length-length.result c.row_length-length.result [] c.args.input.now g.met.R.BytesIn.same_at_once refl refl)

pub returns-in_default-take_samples : goal.returns-in_default-take_samples
returns-in_default-take_samples g c = reading_no_memory c.loop-taken.invariant.reading

pub returns-in_err-sample : goal.returns-in_err-sample
returns-in_err-sample g c =
    let p = err_from_is_err_and c.from_residual.result c.from_residual.ensures.1 in
    let most : length c.take_samples.new.row.items ≤ c.row_length-length.result = c.in-Ok-take_samples.ensures.most c.loop-taken.invariant.most in
    rw (p.1, p.2) (samples_fault g.met.R.BytesIn.same_later
    (samples_taken c.bytes.result.now c.take_samples.new.row.items c.in-Ok-take_samples.taken (c.row_length-length.result - vec_len c.take_samples.new.row)
    c.loop-taken.invariant.reading c.bytes.ensures c.in-Ok-take_samples.ensures.taken (omega arith) c.advance.ensures.reader c.advance.ensures.ended
    c.advance.ensures.held) c.row_length-length.ensures (omega arith) c.in_err-sample.ensures)

pub returns-then-is_err : goal.returns-then-is_err
returns-then-is_err g c =
    let most : length c.take_samples.new.row.items ≤ c.row_length-length.result = c.in-Ok-take_samples.ensures.most c.loop-taken.invariant.most in
    samples_no_memory g.met.R.BytesIn.same_later
    (samples_taken c.bytes.result.now c.take_samples.new.row.items c.in-Ok-take_samples.taken (c.row_length-length.result - vec_len c.take_samples.new.row)
    c.loop-taken.invariant.reading c.bytes.ensures c.in-Ok-take_samples.ensures.taken (omega arith) c.advance.ensures.reader c.advance.ensures.ended
    c.advance.ensures.held) c.in_ok-sample.ensures

pub loop-taken-preserved : goal.loop-taken-preserved
loop-taken-preserved g c =
    let most : length c.take_samples.new.row.items ≤ c.row_length-length.result = c.in-Ok-take_samples.ensures.most c.loop-taken.invariant.most in
    let longer : vec_len c.push.new.self ≡ vec_len c.take_samples.new.row + 1 = search rules in
    record {
      reading = samples_more c.in_ok-sample.sample (c.row_length-length.result - vec_len c.push.new.self) c.push.new.self.items g.met.R.BytesIn.same_later
          (samples_taken c.bytes.result.now c.take_samples.new.row.items c.in-Ok-take_samples.taken
          (c.row_length-length.result - vec_len c.take_samples.new.row) c.loop-taken.invariant.reading c.bytes.ensures c.in-Ok-take_samples.ensures.taken
          (omega arith) c.advance.ensures.reader c.advance.ensures.ended c.advance.ensures.held)
          (omega arith) (omega arith) (search rules) c.in_ok-sample.ensures;
      most = omega arith;
    }

pub returns : goal.returns
returns g c =
    let most : length c.take_samples.new.row.items ≤ c.row_length-length.result = c.in-Ok-take_samples.ensures.most c.loop-taken.invariant.most in
    samples_read
    (samples_taken c.bytes.result.now c.take_samples.new.row.items c.in-Ok-take_samples.taken (c.row_length-length.result - vec_len c.take_samples.new.row)
    c.loop-taken.invariant.reading c.bytes.ensures c.in-Ok-take_samples.ensures.taken (omega arith) c.advance.ensures.reader c.advance.ensures.ended
    c.advance.ensures.held) c.row_length-length.ensures (omega arith) refl

pub loop-taken-init : goal.loop-taken-init
loop-taken-init g c =
    let none : vec_len c.in-Ok.row ≡ 0 = c.in-Ok.ensures.len in
    record {
      reading = samples_begin c.args.shape c.row_length-length.result (c.row_length-length.result - vec_len c.in-Ok.row) c.in-Ok.row.items c.args.input.now
          g.met.R.BytesIn.same_at_once (omega arith) c.in-Ok.ensures.items;
      most = omega arith;
    }

pub take_samples-requires : goal.take_samples-requires
take_samples-requires g c = c.requires

pub advance-requires : goal.advance-requires
advance-requires g c = subst (λ (l : _). c.in-Ok-take_samples.taken ≤ length l) c.bytes.ensures c.in-Ok-take_samples.ensures.taken.within

pub read_sample-requires : goal.read_sample-requires
read_sample-requires g c = c.requires

pub loop-taken-smaller : goal.loop-taken-smaller
loop-taken-smaller g c =
    let most : length c.take_samples.new.row.items ≤ c.row_length-length.result = c.in-Ok-take_samples.ensures.most c.loop-taken.invariant.most in
    let longer : vec_len c.push.new.self ≡ vec_len c.take_samples.new.row + 1 = search rules in
    let more = c.in-Ok-take_samples.ensures.taken in
    let grown : length c.take_samples.new.row.items ≡ length c.loop-taken.row.items + length more.samples =
    ap length more.appended ∙ length-append c.loop-taken.row.items more.samples in
    omega arith
