use Rattle.pnm_write.proofs.Words.{arith}
use Rattle.pnm_write.proofs.NumeralLaws.{three_alone, three_count, three_behind, behind_count, prefix_short}
use Rattle.pnm_write.proofs.numerals.put.Goals as goal

pub put_three-requires-else-number-lt1000-clause-buffer : goal.put_three-requires-else-number-lt1000-clause-buffer
put_three-requires-else-number-lt1000-clause-buffer c = omega (arith, prefix_short c.args.number c.requires.range, c.put_small-size.ensures.count)

pub returns-then-number-lt1000-clause-text : goal.returns-then-number-lt1000-clause-text
returns-then-number-lt1000-clause-text c = three_alone c.args.buffer.now c.put_three.new.buffer c.args.at c.args.number c.if-number-lt256.false
    c.if-number-lt1000.true (omega arith) c.put_three.ensures

pub returns-then-number-lt1000-clause-count : goal.returns-then-number-lt1000-clause-count
returns-then-number-lt1000-clause-count c = three_count c.args.number c.if-number-lt256.false c.if-number-lt1000.true

pub returns-else-number-lt1000-clause-text : goal.returns-else-number-lt1000-clause-text
returns-else-number-lt1000-clause-text c =
    three_behind c.args.buffer.now c.put_small-size.new.buffer c.put_three-else-number-lt1000.new.buffer c.args.at c.put_small-size.result c.args.number
    c.if-number-lt1000.false c.requires.range c.put_small-size.ensures.text c.put_three-else-number-lt1000.ensures

pub returns-else-number-lt1000-clause-count : goal.returns-else-number-lt1000-clause-count
returns-else-number-lt1000-clause-count c = behind_count c.args.number c.if-number-lt1000.false c.requires.range c.put_small-size.ensures.count

pub returns-else-number-lt1000-clause-within : goal.returns-else-number-lt1000-clause-within
returns-else-number-lt1000-clause-within c = omega (arith, prefix_short c.args.number c.requires.range, c.put_small-size.ensures.count)
