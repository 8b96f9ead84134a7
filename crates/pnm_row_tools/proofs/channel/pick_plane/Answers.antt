use Rattle.pnm_row_tools.proofs.Words.{length, arith}
use Rattle.pnm_row_tools.proofs.ChannelRowsLaws.{all_pixels, one_pixel_more, plane_lies}
use Rattle.pnm_row_tools.proofs.channel.pick_plane.Goals as goal

pub loop-x-preserved : goal.loop-x-preserved
loop-x-preserved g c =
    one_pixel_more c.args.number c.args.depth c.args.samples.now c.loop-x.x c.loop-x.buffer (omega arith) c.index-samples-x.is
    (plane_lies c.args.depth c.args.number c.loop-x.x (length c.args.buffer.now) c.requires.number c.requires.pixels (omega arith)) c.loop-x.invariant

pub returns : goal.returns
returns g c =
    all_pixels c.args.number c.args.depth c.args.samples.now c.loop-x.x (length c.args.buffer.now) c.loop-x.buffer (omega arith) (omega arith)
    c.loop-x.invariant
