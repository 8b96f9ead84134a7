use Rattle.pnm_write.proofs.Words.{arith, get_or, refl}
use Rattle.pnm_write.proofs.PlainLaws.{text_more, column_more}
use Rattle.pnm_write.proofs.plain.set_part.Goals as goal

pub loop-sample-preserved : goal.loop-sample-preserved
loop-sample-preserved c =
    let xs = c.args.samples.now in
    let i = c.loop-sample.sample-index in
    record {
      text = text_more c.args.column c.args.kind xs i (omega arith) refl
          c.loop-sample.invariant.text c.loop-sample.invariant.column c.push_sample-at.ensures.text;
      count = omega arith;
      column = column_more c.args.column c.args.kind xs i (omega arith) refl c.loop-sample.invariant.column c.push_sample-at.ensures.column;
      line = c.push_sample-at.ensures.line;
    }
