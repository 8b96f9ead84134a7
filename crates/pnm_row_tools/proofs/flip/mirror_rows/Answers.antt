use Rattle.pnm_row_tools.proofs.Words.{◌≡◌, length, ap, sym, ◌∙◌, arith, row_length, held_samples}
use Rattle.pnm_row_tools.proofs.FlipRowsLaws.{bits_mirrored, items_mirrored, rows_in_place}
use Rattle.pnm_row_tools.proofs.HeldRowsLaws.{held_long}
use Rattle.pnm_row_tools.proofs.flip.mirror_rows.Goals as goal

pub reverse_each-requires-clause-rows : goal.reverse_each-requires-clause-rows
reverse_each-requires-clause-rows c =
    ap length (c.as_mut_slice.ensures.value ∙ c.in_ok-unpacked-in-Bits-2.ensures ∙ sym (ap held_samples c.in-Bits.is))
    ∙ held_long c.args.count (row_length c.args.shape) c.args.rows c.requires.rows

pub returns-in-Bits : goal.returns-in-Bits
returns-in-Bits c = bits_mirrored c.args.shape c.args.count c.if-shape-eq1.true c.in-Bits.is c.mirror.ensures c.requires.rows

pub returns-in_ok-unpacked-in-Bits-2 : goal.returns-in_ok-unpacked-in-Bits-2
returns-in_ok-unpacked-in-Bits-2 c =
    let s = c.args.shape in
    let unpacked = c.in_ok-unpacked-in-Bits-2.unpacked in
    let lent = c.as_mut_slice.result.now in
    let turned = c.reverse_each.new.samples in
    let long : length turned ≡ length lent = omega arith in
    items_mirrored s c.args.count c.args.rows c.requires.limits.width_low (rows_in_place s c.args.count (row_length s) c.reverse_each.ensures long
    c.as_mut_slice.ensures.value (c.in_ok-unpacked-in-Bits-2.ensures ∙ sym (ap held_samples c.in-Bits.is)) unpacked.ok.0) c.requires.rows

pub returns-in-Bytes : goal.returns-in-Bytes
returns-in-Bytes c =
    let s = c.args.shape in
    let bytes = c.in-Bytes.bytes in
    let lent = c.as_mut_slice-in-Bytes.result.now in
    let turned = c.reverse_each-in-Bytes.new.samples in
    let long : length turned ≡ length lent = omega arith in
    items_mirrored s c.args.count c.args.rows c.requires.limits.width_low (rows_in_place s c.args.count (row_length s) c.reverse_each-in-Bytes.ensures long
    c.as_mut_slice-in-Bytes.ensures.value (sym (ap held_samples c.in-Bytes.is)) bytes.ok.0) c.requires.rows

pub returns-in-Words : goal.returns-in-Words
returns-in-Words c =
    let s = c.args.shape in
    let words = c.in-Words.words in
    let lent = c.as_mut_slice-in-Words.result.now in
    let turned = c.reverse_each-in-Words.new.samples in
    let long : length turned ≡ length lent = omega arith in
    items_mirrored s c.args.count c.args.rows c.requires.limits.width_low (rows_in_place s c.args.count (row_length s) c.reverse_each-in-Words.ensures long
    c.as_mut_slice-in-Words.ensures.value (sym (ap held_samples c.in-Words.is)) words.ok.0) c.requires.rows
