use Rattle.pnm_row_tools.proofs.Words.{arith}
use Rattle.pnm_row_tools.proofs.FlipRowLaws.{pixel_more, pixels_turned}
use Rattle.pnm_row_tools.proofs.flip.reverse_colors.Goals as goal

pub loop-x-preserved : goal.loop-x-preserved
loop-x-preserved g c =
    pixel_more c.args.pixels 3 c.args.samples.now c.loop-x.x _ c.loop-x-test.true
    c.requires (omega arith) c.loop-x.invariant c.reverse_three.ensures (omega arith)

pub returns : goal.returns
returns g c = pixels_turned c.args.pixels 3 c.args.samples.now c.loop-x.x c.requires (omega arith) c.loop-x.invariant
