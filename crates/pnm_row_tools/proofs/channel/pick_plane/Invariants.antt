use Rattle.pnm_row_tools.proofs.ChannelRowsLaws.{HasPlane}
use Rattle.pnm_row_tools.proofs.channel.pick_plane.Given as goal

-- the samples of the pixels that have passed were picked
abbrev pub invariant-loop-x : goal.invariant-loop-x
invariant-loop-x g l = HasPlane l.number l.depth l.samples l.x l.buffer
