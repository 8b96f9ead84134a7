use Rattle.pnm_samples.proofs.Words.{◌+◌, get_or, arith, common_steps, HasPair}
use Rattle.pnm_samples.proofs.transpose.put_pairs.Goals as goal

pub loop-k-preserved : goal.loop-k-preserved
loop-k-preserved c =
    let pair = get_or c.args.pairs.now c.loop-k.k 0 in
    let old = get_or c.loop-k.columns (c.args.first + c.loop-k.k) c.index-columns-first.result in
    let _put : HasPair c.args.at pair old.items c.put_pair.new.column.items = c.put_pair.ensures in grind (arith, common_steps)
