use Rattle.pnm_repeat_tools.proofs.Words.{arith}
use Rattle.pnm_repeat_tools.proofs.EnlargeRowLaws.{four_colors}
use Rattle.pnm_repeat_tools.proofs.repeat.double_four_colors.Goals as goal

pub returns : goal.returns
returns g c =
    four_colors c.args.row.now c.args.buffer.now c.put_twice.new.buffer c.put_twice-2.new.buffer c.put_twice-3.new.buffer c.put_twice-4.new.buffer
    (omega (arith, c.put_twice.ensures.long, c.put_twice-2.ensures.long, c.put_twice-3.ensures.long, c.put_twice-4.ensures.long)) c.color_at-first.ensures
    c.color_at-second.ensures c.color_at-third.ensures c.color_at-fourth.ensures c.put_twice.ensures.stored c.put_twice-2.ensures.stored
    c.put_twice-3.ensures.stored c.put_twice-4.ensures.stored
