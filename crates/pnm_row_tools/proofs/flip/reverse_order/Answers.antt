use Rattle.pnm_row_tools.proofs.Words.{◌≡◌, length, ap, sym, arith, held_samples}
use Rattle.pnm_row_tools.proofs.FlipRowLaws.{mirrored_in_place}
use Rattle.pnm_row_tools.proofs.FlipRowsLaws.{bits_reversed, items_reversed}
use Rattle.pnm_row_tools.proofs.flip.reverse_order.Goals as goal

pub returns-in-Bits : goal.returns-in-Bits
returns-in-Bits c = bits_reversed c.args.count c.args.each c.in-Bits.is c.reverse.ensures c.requires

pub returns-in-Bytes : goal.returns-in-Bytes
returns-in-Bytes c =
    let bytes = c.in-Bytes.bytes in
    let reversed = c.reverse_rows.new.samples in
    let long : length reversed ≡ length c.as_mut_slice.result.now = omega arith in
    items_reversed c.args.count c.args.each c.args.rows (mirrored_in_place c.args.count c.args.each
    c.reverse_rows.ensures long c.as_mut_slice.ensures.value (sym (ap held_samples c.in-Bytes.is)) bytes.ok.0) c.requires

pub returns-in-Words : goal.returns-in-Words
returns-in-Words c =
    let words = c.in-Words.words in
    let reversed = c.reverse_rows-in-Words.new.samples in
    let long : length reversed ≡ length c.as_mut_slice-in-Words.result.now = omega arith in
    items_reversed c.args.count c.args.each c.args.rows (mirrored_in_place c.args.count c.args.each
    c.reverse_rows-in-Words.ensures long c.as_mut_slice-in-Words.ensures.value (sym (ap held_samples c.in-Words.is)) words.ok.0) c.requires
