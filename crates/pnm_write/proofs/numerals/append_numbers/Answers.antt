use Rattle.pnm_write.proofs.Words.{◌≡◌, ◌<◌, ◌∙◌, ap, sym, length, map, get_or, arith, get_or-map, length-map, Gray}
use Rattle.pnm_write.proofs.PlainLaws.{column_more}
use Rattle.pnm_write.proofs.NumeralLaws.{number_more, column_is}
use Rattle.pnm_write.proofs.numerals.append_numbers.Goals as goal

pub loop-number-preserved : goal.loop-number-preserved
loop-number-preserved g c =
    let value = g.N.Sample.value in
    let xs = map value c.args.numbers.now in
    let i = c.loop-number.number-index in
    let here = c.loop-number.invariant in
    let size = c.put-size.ensures in
    let at = c.break_line-at.ensures in
    let below : i < length xs = omega (arith, length-map c.args.numbers.now value) in
    let number : value c.number-item.result ≡ get_or xs i 0 =
    ap value c.number-item.is ∙ sym (get_or-map value c.args.numbers.now i c.number-item.result 0 c.loop-number-test.true) in
    record {
      text = number_more c.args.start c.args.column c.loop-number.end i c.args.buffer.now
          c.loop-number.buffer c.put-size.new.buffer xs here.begun (omega arith) (omega arith) below number here.text here.column
          size.count size.text at.buffer;
      column = column_more c.args.column Gray xs i below number here.column (column_is c.loop-number.at _ here.begun size.count at.column);
      within = omega arith;
      begun = at.begun size.some;
      line = at.line;
    }
