use Rattle.pnm_samples.proofs.Words.{◌≡◌, ◌+◌, get_or, take, arith, common_steps}
use Rattle.std.proofs.Math.ListN.{set}
use Rattle.pnm_samples.proofs.widths.words_to_bytes.Goals as goal

pub loop-at-preserved : goal.loop-at-preserved
loop-at-preserved c =
    let at = c.loop-at.at in
    let words = c.args.words.now in
    let more : take (at + 1) (set c.loop-at.bytes.items at (get_or words at 0)) ≡ take (at + 1) words = grind (arith, common_steps) in
    (grind (arith, common_steps), more)

pub returns : goal.returns
returns c = grind (arith, common_steps)
