use Rattle.pnm_row_tools.proofs.Words.{refl, arith, row_length}
use Rattle.pnm_row_tools.proofs.FlipRowsLaws.{all_mirrored, none_mirrored, row_mirrored}
use Rattle.pnm_row_tools.proofs.flip.reverse_each.Goals as goal

pub loop-i-init : goal.loop-i-init
loop-i-init g c = none_mirrored

pub loop-i-preserved : goal.loop-i-preserved
loop-i-preserved g c =
    let s = c.args.shape in
    row_mirrored c.args.count _ c.requires.limits.width_low
    refl (omega (arith, c.loop-i-test.true)) c.requires.rows c.loop-i.invariant (omega arith) c.reverse_pixels.ensures

pub returns : goal.returns
returns g c = all_mirrored c.args.count (omega (arith, c.loop-i-test.false, c.loop-i.auto.i-end)) c.requires.rows c.loop-i.invariant
