use Rattle.pnm_samples.proofs.Words.{◌≡◌, get_or, arith, common_steps}
use Rattle.pnm_samples.proofs.widths.bytes_to_words.Goals as goal

pub loop-at-preserved : goal.loop-at-preserved
loop-at-preserved c =
    let _widened : c.from.result ≡ get_or c.args.bytes.now c.loop-at.at 0 = c.from.ensures in
    grind (arith, common_steps)

pub returns : goal.returns
returns c = grind (arith, common_steps)
