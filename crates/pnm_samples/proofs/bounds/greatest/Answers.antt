use Rattle.pnm_samples.proofs.BoundLaws.{greatest_more, greatest_all}
use Rattle.pnm_samples.proofs.bounds.greatest.Goals as goal

pub loop-sample-preserved : goal.loop-sample-preserved
loop-sample-preserved c = greatest_more c.args.row.now c.loop-sample.sample-index c.loop-sample.greatest c.max-greatest.result c.loop-sample-test.true
    c.max-greatest.ensures c.loop-sample.invariant

pub returns : goal.returns
returns c = greatest_all c.args.row.now c.loop-sample.sample-index c.loop-sample.greatest c.loop-sample-test.false c.loop-sample.invariant
