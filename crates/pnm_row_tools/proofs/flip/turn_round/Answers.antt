use Rattle.pnm_row_tools.proofs.Words.{◌≡◌, ◌*◌, length, ap, sym, ◌∙◌, mul_assoc, arith, row_length, held_samples}
use Rattle.pnm_row_tools.proofs.FlipRowLaws.{mirrored_in_place}
use Rattle.pnm_row_tools.proofs.FlipRowsLaws.{bits_turned, items_turned}
use Rattle.pnm_row_tools.proofs.HeldRowsLaws.{held_long}
use Rattle.pnm_row_tools.proofs.flip.turn_round.Goals as goal

pub reverse_pixels-requires-clause-pixels : goal.reverse_pixels-requires-clause-pixels
reverse_pixels-requires-clause-pixels c =
    let s = c.args.shape in
    ap length (c.as_mut_slice.ensures.value ∙ c.in_ok-unpacked-in-Bits-2.ensures ∙ sym (ap held_samples c.in-Bits.is))
    ∙ held_long c.args.count (row_length s) c.args.rows c.requires.rows ∙ sym (mul_assoc c.args.count s.width s.depth)

pub reverse_pixels-requires-in-Bytes-clause-pixels : goal.reverse_pixels-requires-in-Bytes-clause-pixels
reverse_pixels-requires-in-Bytes-clause-pixels c =
    let s = c.args.shape in
    ap length (c.as_mut_slice-in-Bytes.ensures.value ∙ sym (ap held_samples c.in-Bytes.is))
    ∙ held_long c.args.count (row_length s) c.args.rows c.requires.rows ∙ sym (mul_assoc c.args.count s.width s.depth)

pub reverse_pixels-requires-in-Words-clause-pixels : goal.reverse_pixels-requires-in-Words-clause-pixels
reverse_pixels-requires-in-Words-clause-pixels c =
    let s = c.args.shape in
    ap length (c.as_mut_slice-in-Words.ensures.value ∙ sym (ap held_samples c.in-Words.is))
    ∙ held_long c.args.count (row_length s) c.args.rows c.requires.rows ∙ sym (mul_assoc c.args.count s.width s.depth)

pub returns-in-Bits : goal.returns-in-Bits
returns-in-Bits c = bits_turned c.args.shape c.args.count c.if-shape-eq1.true c.in-Bits.is c.turn_round.ensures c.requires.rows

pub returns-in_ok-unpacked-in-Bits-2 : goal.returns-in_ok-unpacked-in-Bits-2
returns-in_ok-unpacked-in-Bits-2 c =
    let s = c.args.shape in
    let unpacked = c.in_ok-unpacked-in-Bits-2.unpacked in
    let turned = c.reverse_pixels.new.samples in
    let long : length turned ≡ length c.as_mut_slice.result.now = omega arith in
    items_turned s c.args.count c.args.rows (mirrored_in_place (c.args.count * s.width) s.depth c.reverse_pixels.ensures long
    c.as_mut_slice.ensures.value (c.in_ok-unpacked-in-Bits-2.ensures ∙ sym (ap held_samples c.in-Bits.is)) unpacked.ok.0) c.requires.rows

pub returns-in-Bytes : goal.returns-in-Bytes
returns-in-Bytes c =
    let s = c.args.shape in
    let bytes = c.in-Bytes.bytes in
    let turned = c.reverse_pixels-in-Bytes.new.samples in
    let long : length turned ≡ length c.as_mut_slice-in-Bytes.result.now = omega arith in
    items_turned s c.args.count c.args.rows (mirrored_in_place (c.args.count * s.width) s.depth c.reverse_pixels-in-Bytes.ensures long
    c.as_mut_slice-in-Bytes.ensures.value (sym (ap held_samples c.in-Bytes.is)) bytes.ok.0) c.requires.rows

pub returns-in-Words : goal.returns-in-Words
returns-in-Words c =
    let s = c.args.shape in
    let words = c.in-Words.words in
    let turned = c.reverse_pixels-in-Words.new.samples in
    let long : length turned ≡ length c.as_mut_slice-in-Words.result.now = omega arith in
    items_turned s c.args.count c.args.rows (mirrored_in_place (c.args.count * s.width) s.depth c.reverse_pixels-in-Words.ensures long
    c.as_mut_slice-in-Words.ensures.value (sym (ap held_samples c.in-Words.is)) words.ok.0) c.requires.rows
