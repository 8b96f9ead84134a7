use Rattle.pnm_samples.proofs.BoundLaws.{greatest_more, greatest_all}
use Rattle.pnm_samples.proofs.bounds.greatest_byte.Goals as goal

pub loop-byte-preserved : goal.loop-byte-preserved
loop-byte-preserved c = greatest_more c.args.bytes.now c.loop-byte.byte-index c.loop-byte.greatest c.max-greatest.result c.loop-byte-test.true
    c.max-greatest.ensures c.loop-byte.invariant

pub returns : goal.returns
returns c = greatest_all c.args.bytes.now c.loop-byte.byte-index c.loop-byte.greatest c.loop-byte-test.false c.loop-byte.invariant
