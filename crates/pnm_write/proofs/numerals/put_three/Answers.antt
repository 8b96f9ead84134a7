use Rattle.pnm_write.proofs.Words.{arith}
use Rattle.pnm_write.proofs.NumeralLaws.{three_are_put}
use Rattle.pnm_write.proofs.numerals.put_three.Goals as goal

pub returns : goal.returns
returns c = three_are_put c.args.buffer.now c.args.at c.args.number c.requires.range c.entry-entry.ensures c.requires.buffer (omega arith)
