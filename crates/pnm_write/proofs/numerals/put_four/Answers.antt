use Rattle.pnm_write.proofs.NumeralLaws.{four_are_put}
use Rattle.pnm_write.proofs.Words.{arith, common_steps}
use Rattle.pnm_write.proofs.numerals.put_four.Goals as goal

pub returns : goal.returns
returns c = four_are_put c.args.buffer.now c.args.bytes.now c.args.at c.requires.buffer c.requires.enough

pub bounds-buffer-at-4 : goal.bounds-buffer-at-4
bounds-buffer-at-4 c = grind (arith, common_steps)

pub bounds-buffer-at-3 : goal.bounds-buffer-at-3
bounds-buffer-at-3 c = grind (arith, common_steps)

pub bounds-buffer-at-2 : goal.bounds-buffer-at-2
bounds-buffer-at-2 c = grind (arith, common_steps)
