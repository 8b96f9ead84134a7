use Rattle.pnm_row_tools.proofs.Words.{◌≡◌, ◌+◌, ◌-◌, ◌*◌, ℕ, List, length, take, drop, map, ap, sym, refl, subst, ◌∙◌, arith, row_length, AreRows}
use Rattle.pnm_row_tools.proofs.Words.{AreRowsWithin, row_lists, RowVec, length_of_lists, columns_of_row, span_count, Parts, HoldsRows, held_samples}
use Rattle.pnm_row_tools.proofs.CutRowsLaws.{all_rows, are_cut, columns_within, kept_long, kept_rows_of, lists_kept, part_fits, part_in_row, parts_fit}
use Rattle.pnm_row_tools.proofs.cut.keep_columns_of_rows.Goals.{in-Bits, in-Bytes, in-Words}
use Rattle.pnm_row_tools.proofs.cut.keep_columns_of_rows.Goals as goal

pub overflow_add-kept_rows : goal.overflow_add-kept_rows
overflow_add-kept_rows c =
    let parts = c.into_parts-held in
    omega (arith, c.requires.among, ap length parts.ensures.rows, length_of_lists parts.result.1 parts.result.2 parts.result.0 parts.ensures.whole)

pub returns-then-kept_rows-count : goal.returns-then-kept_rows-count
returns-then-kept_rows-count c =
    let parts = c.into_parts-held in
    let cut = are_cut c.args.columns c.args.among c.args.shape parts.result.1 parts.result.2 parts.result.0 c.args.rows c.requires.columns c.requires.among
    parts.ensures.some parts.ensures.whole parts.ensures.rows c.requires.rows in
    let s = c.args.shape in
    let is = c.parts_kept-parts.ensures in
    let all : span_count c.args.columns * s.depth ≡ row_length s =
    ap (λ (p : Parts). p.kept) (sym is) ∙ c.if-parts-row_length.true ∙ cut.each_is in
    let count = ap length parts.ensures.rows ∙ length_of_lists parts.result.1 parts.result.2 parts.result.0 parts.ensures.whole in
    let many : span_count c.args.among ≡ length c.args.rows = omega (arith, c.requires.among.0, c.if-kept_rows-count.true, count) in
    c.new.ensures ∙ sym parts.ensures.rows ∙ all_rows c.args.columns c.args.among s c.args.rows c.requires.columns all c.requires.rows many c.requires.among

pub keep_part-requires-clause-pixels : goal.keep_part-requires-clause-pixels
keep_part-requires-clause-pixels c =
    let parts = c.into_parts-held in
    let cut = are_cut c.args.columns c.args.among c.args.shape parts.result.1 parts.result.2 parts.result.0 c.args.rows c.requires.columns c.requires.among
    parts.ensures.some parts.ensures.whole parts.ensures.rows c.requires.rows in
    part_in_row c.in-Bits.bits cut c.parts_kept-parts.ensures (subst (AreRows parts.result.1 parts.result.2) c.in-Bits.is parts.ensures.whole).1

pub keep_of_each-requires-clause-rows : goal.keep_of_each-requires-clause-rows
keep_of_each-requires-clause-rows c =
    let parts = c.into_parts-held in
    let cut = are_cut c.args.columns c.args.among c.args.shape parts.result.1 parts.result.2 parts.result.0 c.args.rows c.requires.columns c.requires.among
    parts.ensures.some parts.ensures.whole parts.ensures.rows c.requires.rows in
    parts_fit cut c.parts_kept-parts.ensures (sym (ap held_samples c.in-Bytes.is))

pub keep_of_each-requires-clause-within : goal.keep_of_each-requires-clause-within
keep_of_each-requires-clause-within c =
    let parts = c.into_parts-held in
    let cut = are_cut c.args.columns c.args.among c.args.shape parts.result.1 parts.result.2 parts.result.0 c.args.rows c.requires.columns c.requires.among
    parts.ensures.some parts.ensures.whole parts.ensures.rows c.requires.rows in
    part_fits cut c.parts_kept-parts.ensures

pub keep_of_each-requires-in-Words-clause-rows : goal.keep_of_each-requires-in-Words-clause-rows
keep_of_each-requires-in-Words-clause-rows c =
    let parts = c.into_parts-held in
    let cut = are_cut c.args.columns c.args.among c.args.shape parts.result.1 parts.result.2 parts.result.0 c.args.rows c.requires.columns c.requires.among
    parts.ensures.some parts.ensures.whole parts.ensures.rows c.requires.rows in
    parts_fit cut c.parts_kept-parts.ensures (sym (ap held_samples c.in-Words.is))

pub keep_of_each-requires-in-Words-clause-within : goal.keep_of_each-requires-in-Words-clause-within
keep_of_each-requires-in-Words-clause-within c =
    let parts = c.into_parts-held in
    let cut = are_cut c.args.columns c.args.among c.args.shape parts.result.1 parts.result.2 parts.result.0 c.args.rows c.requires.columns c.requires.among
    parts.ensures.some parts.ensures.whole parts.ensures.rows c.requires.rows in
    part_fits cut c.parts_kept-parts.ensures

-- however the rows are held
made : (c : goal.Joined-held) → HoldsRows (c.args.among.last - c.args.among.first + 1) c.parts_kept-parts.result.kept c.match-held.kept
    (map (columns_of_row c.args.columns c.args.shape.depth) (take (span_count c.args.among) (drop c.args.among.first c.args.rows)))
made c =
    let all = c.into_parts-held in
    let s = c.args.shape in
    let count : ℕ = all.result.1 in
    let each : ℕ = all.result.2 in
    let parts = c.parts_kept-parts.result in
    let is = c.parts_kept-parts.ensures in
    let samples : List ℕ = held_samples all.result.0 in
    let cut = are_cut c.args.columns c.args.among s count each all.result.0 c.args.rows c.requires.columns c.requires.among
    all.ensures.some all.ensures.whole all.ensures.rows c.requires.rows in
    let kept_rows : ℕ = c.args.among.last - c.args.among.first + 1 in
    let Made : RowVec → Type 0 = λ (kept : RowVec).
    HoldsRows kept_rows parts.kept kept (map (columns_of_row c.args.columns s.depth) (take (span_count c.args.among) (drop c.args.among.first c.args.rows))) in
    elim c.match-held.branch [
      | in-Bits w ↦
          subst Made (sym w.kept-is) (lists_kept cut is (all.ensures.rows ∙ ap (row_lists count each) w.in-Bits.is) w.keep_part.ensures refl)
      | in-Bytes w ↦
          let old = w.in-Bytes.bytes.items in
          let new = w.keep_of_each.new.samples.items in
          let same : old ≡ samples = sym (ap held_samples w.in-Bytes.is) in
          subst Made (sym w.kept-is) (
            kept_long cut is same w.keep_of_each.ensures refl,
            kept_rows_of cut is same w.keep_of_each.ensures refl,
          )
      | in-Words w ↦
          let old = w.in-Words.words.items in
          let new = w.keep_of_each-in-Words.new.samples.items in
          let same : old ≡ samples = sym (ap held_samples w.in-Words.is) in
          subst Made (sym w.kept-is) (
            kept_long cut is same w.keep_of_each-in-Words.ensures refl,
            kept_rows_of cut is same w.keep_of_each-in-Words.ensures refl,
          )
    ]

pub new-requires-2-clause-whole : goal.new-requires-2-clause-whole
new-requires-2-clause-whole c = (made c).0

pub new-requires-2-clause-within : goal.new-requires-2-clause-within
new-requires-2-clause-within c =
    let s = c.args.shape in
    subst (AreRowsWithin s.maxval) (sym (made c).1)
    (columns_within c.args.columns s c.args.among.first (span_count c.args.among) c.args.rows c.requires.rows)

pub returns : goal.returns
returns c = c.new-2.ensures ∙ (made c.before).1
