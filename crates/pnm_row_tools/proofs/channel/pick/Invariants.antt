use Rattle.pnm_row_tools.proofs.Words.{HasColumnsOf}
use Rattle.pnm_row_tools.proofs.channel.pick.Given as goal

-- the columns that have passed were picked
abbrev pub invariant-loop-x : goal.invariant-loop-x
invariant-loop-x g l = HasColumnsOf l.numbers l.fn.shape.depth l.samples l.x l.initial.buffer l.buffer
