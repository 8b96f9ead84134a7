-- The columns that are kept of rows that are held one after another.
use Rattle.pnm_row_tools.proofs.Words.{◌≡◌, ◌⊎◌, inl, inr, ℕ, zero, suc, ◌+◌, ◌-◌, ◌*◌, ◌<◌, ◌≤◌, Some, List, [], ◌∷◌, ◌++◌, get_or, length, map, take, drop}
use Rattle.pnm_row_tools.proofs.Words.{All, refl, sym, ap, subst, ◌∙◌, arith, add-mul, mul-le-mul, length-drop, AllByRecursion, length-map, take_all}
use Rattle.pnm_row_tools.proofs.Words.{All-from_recursion, All-map, Shape, row_length, AreRows, AreRowsWithin, row_lists, RowVec, length_of_lists, cut_rows}
use Rattle.pnm_row_tools.proofs.Words.{IsRowOf, rows_answer, columns_of_row, columns_kept, rows_kept, span_count, CutBox, Span, Cut, all_kept, cut_row_by}
use Rattle.pnm_row_tools.proofs.Words.{row_inside, row_outside, length-cut_rows, Parts, changed, held_samples, part, parts_of, parts_kept}
use Rattle.std.proofs.lemmas.List.{length-take-le}
use Rattle.pnm_row_tools.proofs.EachRowLaws.{cut_again, cut_between, length-changed, part_long, part_within, rows_between}
use Rattle.pnm_row_tools.proofs.HeldRowsLaws.{held_cut, held_long, length_of_shape}

-- the columns lie among those of an image of this shape
abbrev pub LieIn : Span → Shape → Type 0
LieIn columns s = (columns.first ≤ columns.last) × (columns.last < s.width)

-- the samples of a row that are kept lie in it
pub kept_fit : (columns : Span) (s : Shape) {each : ℕ} → LieIn columns s → each ≡ row_length s → columns.first * s.depth + span_count columns * s.depth ≤ each
kept_fit columns s lie is =
    let n : ℕ = span_count columns in
    let fit : (columns.first + n) * s.depth ≤ s.width * s.depth =
    mul-le-mul {n₁ = columns.first + n} {m₁ = s.depth} {n₂ = s.width} {m₂ = s.depth} (omega (arith, lie.0, lie.1)) (omega arith) in
    omega (arith, fit, is, add-mul columns.first n s.depth)

-- the parts of all rows, one after another, are the columns that are kept of each
pub columns_of_rows : (columns : Span) (s : Shape) (count : ℕ) {each : ℕ} (samples : List ℕ) → LieIn columns s → each ≡ row_length s
    → count * each ≤ length samples → cut_rows count (span_count columns * s.depth)
    (changed (part (columns.first * s.depth) (span_count columns * s.depth)) count each samples) ≡ map (columns_of_row columns s.depth)
    (cut_rows count each samples)
columns_of_rows columns s count {each} samples lie is enough =
    let size : ℕ = span_count columns * s.depth in
    let fits : columns.first * s.depth + size ≤ each = kept_fit columns s lie is in
    cut_again (part (columns.first * s.depth) size) each size (part_long (columns.first * s.depth) size fits) count samples enough

-- rows of which all columns are kept
pub all_columns : (columns : Span) (s : Shape) (rows : List (List ℕ)) → LieIn columns s → span_count columns * s.depth ≡ row_length s
    → AllByRecursion (IsRowOf s) rows → rows ≡ map (columns_of_row columns s.depth) rows
all_columns columns s [] lie all are = refl
all_columns columns s (row ∷ rows) lie all are =
    let within : (columns.last + 1) * s.depth ≤ s.width * s.depth =
    mul-le-mul {n₁ = columns.last + 1} {m₁ = s.depth} {n₂ = s.width} {m₂ = s.depth} (omega (arith, lie.1)) (omega arith) in
    let same : span_count columns ≡ columns.last - columns.first + 1 = omega (arith, lie.0) in
    ap (λ (r : List ℕ). r ∷ rows)
    (all_kept columns s.depth (span_count columns * s.depth) row (lie.0, omega (arith, within, are.0.count)) (ap (λ (n : ℕ). n * s.depth) same)
    (all ∙ sym are.0.count))
    ∙ ap (λ (l : List (List ℕ)). columns_of_row columns s.depth row ∷ l) (all_columns columns s rows lie all are.1)

-- ---- some of the rows, and some of their columns

-- samples that are rows of a shape, of which some are kept, and columns of them
pub record AreCut (columns among : Span) (s : Shape) (count each : ℕ) (samples : List ℕ) (rows : List (List ℕ)) : Type 0 where
  pub lie : LieIn columns s
  pub some : among.first ≤ among.last
  pub below : among.last < count
  pub each_is : each ≡ row_length s
  pub long : length samples ≡ count * each
  pub cut : rows ≡ cut_rows count each samples
  pub are : AllByRecursion (IsRowOf s) rows

pub are_cut : (columns among : Span) (s : Shape) (count each : ℕ) (held : RowVec) (rows : List (List ℕ)) → LieIn columns s
    → (among.first ≤ among.last) × (among.last < length rows) → 1 ≤ count → AreRows count each held → rows ≡ row_lists count each held
    → AllByRecursion (IsRowOf s) rows → AreCut columns among s count each (held_samples held) rows
are_cut columns among s count each held rows lie within some whole cut are = record {
  lie = lie;
  some = within.0;
  below = omega (arith, within.1, ap length cut, length_of_lists count each held whole);
  each_is = length_of_shape s count each held some whole cut are;
  long = held_long count each held whole;
  cut = cut ∙ sym (held_cut count each held whole);
  are = are;
}

-- what is kept, one row after another
abbrev kept_of : Span → Span → Shape → ℕ → List ℕ → List ℕ
kept_of columns among s each samples = parts_of (parts_kept columns among s.depth each) samples

made_of : (columns among : Span) (s : Shape) (each : ℕ) {parts : Parts} {samples items made : List ℕ} → parts ≡ parts_kept columns among s.depth each
    → items ≡ samples → made ≡ parts_of parts items → made ≡ kept_of columns among s each samples
made_of columns among s each {items} is same made_is =
    made_is ∙ ap (λ (p : Parts). parts_of p items) is ∙ ap (parts_of (parts_kept columns among s.depth each)) same

module _ {columns among : Span} {s : Shape} {count each : ℕ} {samples : List ℕ} {rows : List (List ℕ)} where
  -- the rows that are kept lie in the samples
  pub rows_fit : AreCut columns among s count each samples rows → among.first * each + span_count among * each ≤ length samples
  rows_fit h =
      let n : ℕ = span_count among in
      let within : (among.first + n) * each ≤ count * each =
      mul-le-mul {n₁ = among.first + n} {m₁ = each} {n₂ = count} {m₂ = each} (omega (arith, h.some, h.below)) (omega arith) in
      omega (arith, within, h.long, add-mul among.first n each)

  -- the rows that are kept are those that are cut from the samples from the first of them on
  rows_of_span : AreCut columns among s count each samples rows
      → cut_rows (span_count among) each (drop (among.first * each) samples) ≡ take (span_count among) (drop among.first rows)
  rows_of_span h =
      cut_between among.first (span_count among) count each samples (omega (arith, h.some, h.below))
      ∙ ap (λ (l : List (List ℕ)). take (span_count among) (drop among.first l)) (sym h.cut)

  -- so do the parts that are kept, and the samples that hold them are as many
  pub parts_fit : {parts : Parts} {items : List ℕ} → AreCut columns among s count each samples rows → parts ≡ parts_kept columns among s.depth each
      → items ≡ samples → parts.top * parts.row_length + parts.count * parts.row_length ≤ length items
  parts_fit {items} h is same =
      subst (λ (p : Parts). p.top * p.row_length + p.count * p.row_length ≤ length items) (sym is) (omega (arith, rows_fit h, ap length same))

  pub part_fits : {parts : Parts} → AreCut columns among s count each samples rows → parts ≡ parts_kept columns among s.depth each
      → parts.first + parts.kept ≤ parts.row_length
  part_fits h is = subst (λ (p : Parts). p.first + p.kept ≤ p.row_length) (sym is) (kept_fit columns s h.lie h.each_is)

  -- as many samples are kept
  pub kept_long : {kept_rows : ℕ} {parts : Parts} {items made : List ℕ} → AreCut columns among s count each samples rows
      → parts ≡ parts_kept columns among s.depth each → items ≡ samples → made ≡ parts_of parts items → kept_rows ≡ among.last - among.first + 1
      → length made ≡ kept_rows * parts.kept
  kept_long {kept_rows} h is same made_is many =
      let start : ℕ = columns.first * s.depth in
      let size : ℕ = span_count columns * s.depth in
      let rest : List ℕ = drop (among.first * each) samples in
      let enough : span_count among * each ≤ length rest =
      omega (arith, rows_fit h, length-drop (among.first * each) samples) in
      ap length (made_of columns among s each is same made_is)
      ∙ length-changed (part start size) each size (part_long start size (kept_fit columns s h.lie h.each_is)) (span_count among) rest enough
      ∙ ap (λ (n : ℕ). n * size) (omega (arith, many, h.some)) ∙ ap (λ (p : Parts). kept_rows * p.kept) (sym is)

  -- cut again they are the columns of the rows that are kept
  pub kept_rows_of : {kept_rows : ℕ} {parts : Parts} {items made : List ℕ} → AreCut columns among s count each samples rows
      → parts ≡ parts_kept columns among s.depth each → items ≡ samples → made ≡ parts_of parts items → kept_rows ≡ among.last - among.first + 1
      → cut_rows kept_rows parts.kept made ≡ map (columns_of_row columns s.depth) (take (span_count among) (drop among.first rows))
  kept_rows_of {kept_rows} {parts} h is same made_is many =
      let size : ℕ = span_count columns * s.depth in
      let rest : List ℕ = drop (among.first * each) samples in
      let enough : span_count among * each ≤ length rest =
      omega (arith, rows_fit h, length-drop (among.first * each) samples) in
      ap (cut_rows kept_rows parts.kept) (made_of columns among s each is same made_is)
      ∙ ap (λ (p : Parts). cut_rows kept_rows p.kept (kept_of columns among s each samples)) is
      ∙ ap (λ (n : ℕ). cut_rows n size (kept_of columns among s each samples)) (omega (arith, many, h.some))
      ∙ columns_of_rows columns s (span_count among) rest h.lie h.each_is enough
      ∙ ap (map (columns_of_row columns s.depth)) (rows_of_span h)

  -- a part of each of the rows that are kept, where these are lists
  pub lists_kept : {kept_rows : ℕ} {parts : Parts} {bits made : List (List ℕ)} → AreCut columns among s count each samples rows
      → parts ≡ parts_kept columns among s.depth each → rows ≡ bits → made ≡ map (λ row. take parts.kept (drop parts.first row))
      (take parts.count (drop parts.top bits)) → kept_rows ≡ among.last - among.first + 1
      → ((length made ≡ kept_rows) × All (λ row. length row ≡ parts.kept) made) × (made ≡ map (columns_of_row columns s.depth) (take (span_count among) (drop
      among.first rows)))
  lists_kept {kept_rows} {bits} {made} h is same made_is many =
      let start : ℕ = columns.first * s.depth in
      let size : ℕ = span_count columns * s.depth in
      let n : ℕ = span_count among in
      let kept : List (List ℕ) = take n (drop among.first rows) in
      let made_of_rows : made ≡ map (columns_of_row columns s.depth) kept =
      made_is ∙ ap (λ (p : Parts). map (part p.first p.kept) (take p.count (drop p.top bits))) is
      ∙ ap (λ (l : List (List ℕ)). map (part start size) (take n (drop among.first l))) (sym same) in
      let are = All-from_recursion (IsRowOf s) kept (rows_between (IsRowOf s) among.first n rows h.are) in
      let long : All (λ row. length row ≡ size) (map (part start size) kept) =
      All-map (λ (row : List ℕ). length row ≡ size) (part start size) kept (λ k d lt.
      part_long start size (kept_fit columns s h.lie h.each_is) (get_or kept k d) ((are k d lt).count ∙ sym h.each_is)) in
      let rows_long : length rows ≡ count = ap length h.cut ∙ length-cut_rows count each samples in
      let left : length (drop among.first rows) ≡ count - among.first = length-drop among.first rows ∙ ap (λ (m : ℕ). m - among.first) rows_long in
      let enough : n ≤ length (drop among.first rows) = omega (arith, left, h.some, h.below) in
      let all : length kept ≡ kept_rows = length-take-le n (drop among.first rows) enough ∙ omega (arith, many, h.some) in (
        (
          ap length made_of_rows ∙ length-map kept (part start size) ∙ all,
          subst (λ (p : Parts). All (λ row. length row ≡ p.kept) made) (sym is) (subst (All (λ (row : List ℕ). length row ≡ size)) (sym made_of_rows) long),
        ),
        made_of_rows,
      )

  -- a row of them holds the part
  pub part_in_row : {parts : Parts} (bits : List (List ℕ)) → AreCut columns among s count each samples rows → parts ≡ parts_kept columns among s.depth each
      → All (λ row. length row ≡ each) bits → (k : ℕ) → k < length bits → parts.first + parts.kept ≤ length (get_or bits k [])
  part_in_row {parts} bits h is long k lt =
      let row_is : parts.row_length ≡ each = ap (λ (p : Parts). p.row_length) is in
      omega (arith, part_fits h is, row_is, long k [] lt)

-- no sample of what is kept is above the maxval
pub columns_within : (columns : Span) (s : Shape) (first n : ℕ) (rows : List (List ℕ)) → AllByRecursion (IsRowOf s) rows
    → AreRowsWithin s.maxval (map (columns_of_row columns s.depth) (take n (drop first rows)))
columns_within columns s first n rows are =
    let kept : List (List ℕ) = take n (drop first rows) in
    let known = All-from_recursion (IsRowOf s) kept (rows_between (IsRowOf s) first n rows are) in
    All-map (λ (row : List ℕ). All (λ sample. sample ≤ s.maxval) row) (columns_of_row columns s.depth) kept (λ k d lt.
    part_within (columns.first * s.depth) (span_count columns * s.depth) (known k d lt))

-- where all rows are among those that are kept
pub all_rows : (columns among : Span) (s : Shape) (rows : List (List ℕ)) → LieIn columns s → span_count columns * s.depth ≡ row_length s
    → AllByRecursion (IsRowOf s) rows → span_count among ≡ length rows → (among.first ≤ among.last) × (among.last < length rows)
    → rows ≡ map (columns_of_row columns s.depth) (take (span_count among) (drop among.first rows))
all_rows columns among s rows lie all are many within =
    let none : among.first ≡ 0 = omega (arith, many, within.0, within.1) in
    all_columns columns s rows lie all are
    ∙ ap (map (columns_of_row columns s.depth)) (sym (take_all (span_count among) rows (omega (arith, many))))
    ∙ ap (λ (n : ℕ). map (columns_of_row columns s.depth) (take (span_count among) (drop n rows))) (sym none)

-- ---- the rows that answer

module _ (box : CutBox) (s : Shape) {columns kept : Span} where
  -- those before the first row that is kept are answered by none
  none_before : (y : ℕ) (rows : List (List ℕ)) → columns_kept box s ≡ Some columns → rows_kept box s ≡ Some kept → y + length rows ≤ kept.first
      → rows_answer (Cut box) s y rows ≡ []
  none_before y [] has_columns has_rows before = refl
  none_before y (row ∷ rows) has_columns has_rows before =
      ap (λ (l : List (List ℕ)). l ++ rows_answer (Cut box) s (y + 1) rows) (cut_row_by box s y row (Some columns) (Some kept) (sym has_columns) (sym has_rows)
      ∙ row_outside columns kept s.depth y row (inl (omega (arith, before))))
      ∙ none_before (y + 1) rows has_columns has_rows (omega (arith, before))

  -- and so are those behind the last one
  none_behind : (y : ℕ) (rows : List (List ℕ)) → columns_kept box s ≡ Some columns → rows_kept box s ≡ Some kept → kept.first ≤ kept.last → kept.last < y
      → rows_answer (Cut box) s y rows ≡ []
  none_behind y [] has_columns has_rows some behind = refl
  none_behind y (row ∷ rows) has_columns has_rows some behind =
      ap (λ (l : List (List ℕ)). l ++ rows_answer (Cut box) s (y + 1) rows) (cut_row_by box s y row (Some columns) (Some kept) (sym has_columns) (sym has_rows)
      ∙ row_outside columns kept s.depth y row (inr (omega (arith, some, behind), behind)))
      ∙ none_behind (y + 1) rows has_columns has_rows some (omega (arith, behind))

  -- where none is kept
  pub none_answers : (y : ℕ) {count : ℕ} (rows : List (List ℕ)) → columns_kept box s ≡ Some columns → rows_kept box s ≡ Some kept → kept.first ≤ kept.last
      → count ≡ length rows → (y + count ≤ kept.first) ⊎ (kept.last < y) → rows_answer (Cut box) s y rows ≡ []
  none_answers y rows has_columns has_rows some many (inl before) = none_before y rows has_columns has_rows (omega (arith, before, many))
  none_answers y rows has_columns has_rows some many (inr behind) = none_behind y rows has_columns has_rows some behind

  -- those that are kept are answered by their columns, so many behind the first ones
  pub some_answer : (y skipped count : ℕ) (rows : List (List ℕ)) → columns_kept box s ≡ Some columns → rows_kept box s ≡ Some kept → kept.first ≤ kept.last
      → skipped ≡ kept.first - y → y + skipped + count ≤ kept.last + 1 → length rows ≡ skipped + count + ((y + length rows) - (kept.last + 1))
      → rows_answer (Cut box) s y rows ≡ map (columns_of_row columns s.depth) (take count (drop skipped rows))
  some_answer y zero zero [] has_columns has_rows some before inside behind = refl
  some_answer y zero (suc count) [] has_columns has_rows some before inside behind = refl
  some_answer y (suc skipped) zero [] has_columns has_rows some before inside behind = refl
  some_answer y (suc skipped) (suc count) [] has_columns has_rows some before inside behind = refl
  some_answer y zero zero (row ∷ rows) has_columns has_rows some before inside behind =
      none_behind y (row ∷ rows) has_columns has_rows some (omega (arith, before, behind))
  some_answer y zero (suc count) (row ∷ rows) has_columns has_rows some before inside behind =
      ap (λ (l : List (List ℕ)). l ++ rows_answer (Cut box) s (y + 1) rows) (cut_row_by box s y row (Some columns) (Some kept) (sym has_columns) (sym has_rows)
      ∙ row_inside columns kept s.depth y row (omega (arith, before)) (omega (arith, inside)))
      ∙ ap (λ (l : List (List ℕ)). columns_of_row columns s.depth row ∷ l)
      (some_answer (y + 1) zero count rows has_columns has_rows some (omega (arith, before)) (omega (arith, inside)) (omega (arith, behind)))
  some_answer y (suc skipped) count (row ∷ rows) has_columns has_rows some before inside behind =
      ap (λ (l : List (List ℕ)). l ++ rows_answer (Cut box) s (y + 1) rows) (cut_row_by box s y row (Some columns) (Some kept) (sym has_columns) (sym has_rows)
      ∙ row_outside columns kept s.depth y row (inl (omega (arith, before))))
      ∙ some_answer (y + 1) skipped count rows has_columns has_rows some (omega (arith, before)) (omega (arith, inside)) (omega (arith, behind))
