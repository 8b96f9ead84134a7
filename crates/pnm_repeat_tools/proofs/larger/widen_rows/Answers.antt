use Rattle.pnm_repeat_tools.proofs.Words.{◌≡◌, ◌*◌, ◌∙◌, ap, sym, subst, refl, map, List, ℕ, length, recursion_from_All, row_length, RowSlice, Shape}
use Rattle.pnm_repeat_tools.proofs.Words.{AreSliceRows, slice_lists, enlarged_row}
use Rattle.pnm_repeat_tools.proofs.EnlargedRowsLaws.{length_together}
use Rattle.pnm_repeat_tools.proofs.WideRowLaws.{long_row, widened_bits, widened_planes, widened_samples}
use Rattle.pnm_repeat_tools.proofs.larger.widen_rows.Goals as goal

pub repeat_pixels-requires : goal.repeat_pixels-requires
repeat_pixels-requires c =
    let s = c.args.shape in
    let are = subst (AreSliceRows c.args.count (row_length s)) c.in-Bits-2.is c.requires.rows in
    let size : length c.as_slice.result.now ≡ c.args.count * row_length s =
    ap length (c.as_slice.ensures.value ∙ c.in_ok-unpacked-in-Bits-2.ensures)
    ∙ length_together (row_length s) c.in-Bits-2.bits.now (recursion_from_All (λ (row : List ℕ). length row ≡ row_length s) c.in-Bits-2.bits.now are.1)
    ∙ ap (λ (n : ℕ). n * row_length s) are.0 in
    record { row = size ∙ long_row s c.args.count }

pub returns-in_ok-bits-in-Bits-clause-made : goal.returns-in_ok-bits-in-Bits-clause-made
returns-in_ok-bits-in-Bits-clause-made c =
    let s = c.args.shape in
    let are = subst (AreSliceRows c.args.count (row_length s)) c.in-Bits.is c.requires.rows in
    let made = widened_bits c.args.across s c.in-Bits.bits.now c.if-shape-eq1.true are c.in_ok-bits-in-Bits.ensures in
    (made.0 ∙ ap (λ (lent : RowSlice). map (enlarged_row c.args.across s) (slice_lists c.args.count (row_length s) lent)) (sym c.in-Bits.is), made.1)

pub returns-in_ok-bytes-in-Bits-2-clause-made : goal.returns-in_ok-bytes-in-Bits-2-clause-made
returns-in_ok-bytes-in-Bits-2-clause-made c =
    let s = c.args.shape in
    let long : Shape = record s { width = s.width * c.args.count } in
    let are = subst (AreSliceRows c.args.count (row_length s)) c.in-Bits-2.is c.requires.rows in
    let made = widened_planes c.args.across s long c.in-Bits-2.bits.now are
    (c.as_slice.ensures.value ∙ c.in_ok-unpacked-in-Bits-2.ensures) refl refl c.in_ok-bytes-in-Bits-2.ensures.made in
    (made.0 ∙ ap (λ (lent : RowSlice). map (enlarged_row c.args.across s) (slice_lists c.args.count (row_length s) lent)) (sym c.in-Bits-2.is), made.1)

pub returns-in_ok-bytes-in-Bytes-clause-made : goal.returns-in_ok-bytes-in-Bytes-clause-made
returns-in_ok-bytes-in-Bytes-clause-made c =
    let s = c.args.shape in
    let long : Shape = record s { width = s.width * c.args.count } in
    let size = subst (AreSliceRows c.args.count (row_length s)) c.in-Bytes.is c.requires.rows in
    let made = widened_samples c.args.across c.args.count s long c.in-Bytes.bytes.now size refl refl c.in_ok-bytes-in-Bytes.ensures.made in
    (made.0 ∙ ap (λ (lent : RowSlice). map (enlarged_row c.args.across s) (slice_lists c.args.count (row_length s) lent)) (sym c.in-Bytes.is), made.1)

pub returns-in_ok-words-in-Words-clause-made : goal.returns-in_ok-words-in-Words-clause-made
returns-in_ok-words-in-Words-clause-made c =
    let s = c.args.shape in
    let long : Shape = record s { width = s.width * c.args.count } in
    let size = subst (AreSliceRows c.args.count (row_length s)) c.in-Words.is c.requires.rows in
    let made = widened_samples c.args.across c.args.count s long c.in-Words.words.now size refl refl c.in_ok-words-in-Words.ensures.made in
    (made.0 ∙ ap (λ (lent : RowSlice). map (enlarged_row c.args.across s) (slice_lists c.args.count (row_length s) lent)) (sym c.in-Words.is), made.1)
