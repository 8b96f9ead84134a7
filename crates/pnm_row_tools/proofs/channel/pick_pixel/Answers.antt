use Rattle.pnm_row_tools.proofs.Words.{arith, planes_picked}
use Rattle.pnm_row_tools.proofs.channel.pick_pixel.Goals as goal

pub returns : goal.returns
returns g c = planes_picked c.args.numbers.now c.args.row.now c.args.first c.loop-at.at c.loop-at.buffer (omega arith) (omega arith) c.loop-at.invariant
