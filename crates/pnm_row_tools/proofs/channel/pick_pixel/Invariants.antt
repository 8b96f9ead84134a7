use Rattle.pnm_row_tools.proofs.Words.{HasPlanesOf}
use Rattle.pnm_row_tools.proofs.channel.pick_pixel.Given as goal

-- the planes that have passed were picked
abbrev pub invariant-loop-at : goal.invariant-loop-at
invariant-loop-at g l = HasPlanesOf l.numbers l.row l.first l.at l.buffer
