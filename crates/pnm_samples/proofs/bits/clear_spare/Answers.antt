use Rattle.pnm_samples.proofs.PixelLaws.{whitened_keeps, whitened_is_packed, whole_is_packed}
use Rattle.pnm_samples.proofs.bits.clear_spare.Goals as goal

pub returns-then-whole-bytes-clause-kept : goal.returns-then-whole-bytes-clause-kept
returns-then-whole-bytes-clause-kept c = whitened_keeps c.args.bytes.now c.args.count c.whiten_spare.result c.requires c.if-whole-bytes.true
    c.whiten_spare.ensures

pub returns-then-whole-bytes-clause-spare : goal.returns-then-whole-bytes-clause-spare
returns-then-whole-bytes-clause-spare c = whitened_is_packed c.args.bytes.now c.args.count c.whiten_spare.result c.requires c.if-whole-bytes.true
    c.whiten_spare.ensures

pub returns-else-whole-bytes-clause-spare : goal.returns-else-whole-bytes-clause-spare
returns-else-whole-bytes-clause-spare c = whole_is_packed c.requires c.if-whole-bytes.false
