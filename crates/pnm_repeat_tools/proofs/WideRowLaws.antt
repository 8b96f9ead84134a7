-- Rows whose pixels are repeated, as they are held.
use Rattle.pnm_repeat_tools.proofs.Words.{◌≡◌, ℕ, ◌*◌, ◌≤◌, ◌<◌, List, [], ◌∷◌, ◌++◌, length, map, replicate, All, refl, sym, ap, ap₂, subst, ◌∙◌, arith}
use Rattle.pnm_repeat_tools.proofs.Words.{append-nil, AllByRecursion, concat, flat_map, All-append, All-from_recursion, All-nil, All-replicate}
use Rattle.pnm_repeat_tools.proofs.Words.{recursion_from_All, Shape, row_length, RowSlice, RowVec, AreRowsWithin, HoldsRows, row_lists, slice_lists, IsRowOf}
use Rattle.pnm_repeat_tools.proofs.Words.{length-cut_rows, concat-cut_rows, lengths_of_cut_rows, enlarged_row}
use Rattle.pnm_samples.specs.Cuts.{cut_rows}
use Rattle.pnm_repeat_tools.proofs.EnlargeRowLaws.{enlarged_within, unchanged_row}
use Rattle.pnm_repeat_tools.proofs.EnlargedRowsLaws.{AreEach, each_of, enlarged_each, map_many, widened_cut}
use Rattle.pnm_repeat_tools.proofs.HeldRowLaws.{holds_as}
use Rattle.pnm_repeat_tools.proofs.RepeatedBitLaws.{one_plane_repeated}

-- the pixels of so many rows are as many as those of one long row
pub long_row : (s : Shape) (count : ℕ) → count * row_length s ≡ s.width * count * s.depth
long_row s count = omega arith

-- samples that lie one row behind the other
pub widened_samples : (across count : ℕ) (s long : Shape) (samples : List ℕ) {made : List ℕ} → length samples ≡ count * row_length s
    → long.width ≡ s.width * count → long.depth ≡ s.depth → made ≡ enlarged_row across long samples
    → (cut_rows count (row_length s * across) made ≡ map (enlarged_row across s) (cut_rows count (row_length s) samples)) × (length made ≡ count *
    (row_length s * across))
widened_samples across count s long samples size wide deep is =
    widened_cut across s long (cut_rows count (row_length s) samples) (lengths_of_cut_rows count (row_length s) samples size)
    (length-cut_rows count (row_length s) samples) (sym (concat-cut_rows count (row_length s) samples size)) wide deep is

-- rows of bits of several planes
pub widened_planes : (across : ℕ) {count : ℕ} (s long : Shape) (rows : List (List ℕ)) {samples made : List ℕ}
    → (length rows ≡ count) × All (λ row. length row ≡ row_length s) rows → samples ≡ concat rows → long.width ≡ s.width * count → long.depth ≡ s.depth
    → made ≡ enlarged_row across long samples
    → (cut_rows count (row_length s * across) made ≡ map (enlarged_row across s) rows) × (length made ≡ count * (row_length s * across))
widened_planes across s long rows are all wide deep is =
    widened_cut across s long rows (recursion_from_All (λ (row : List ℕ). length row ≡ row_length s) rows are.1) are.0 all wide deep is

bits_alike : (across : ℕ) (s : Shape) (rows : List (List ℕ)) → s.depth ≡ 1 → AreEach (row_length s) rows
    → map (flat_map (λ v. replicate across v)) rows ≡ map (enlarged_row across s) rows
bits_alike across s [] one are = refl
bits_alike across s (row ∷ rows) one are =
    ap₂ (λ (r : List ℕ) (l : List (List ℕ)). r ∷ l) (one_plane_repeated across s row one are.0 refl) (bits_alike across s rows one are.1)

-- rows of bits of one plane
pub widened_bits : (across : ℕ) {count : ℕ} (s : Shape) (rows : List (List ℕ)) {made : List (List ℕ)} → s.depth ≡ 1
    → (length rows ≡ count) × All (λ row. length row ≡ row_length s) rows → made ≡ map (flat_map (λ v. replicate across v)) rows
    → (made ≡ map (enlarged_row across s) rows) × ((length made ≡ count) × All (λ row. length row ≡ row_length s * across) made)
widened_bits across s rows {made} one are is =
    let each : AreEach (row_length s) rows = recursion_from_All (λ (row : List ℕ). length row ≡ row_length s) rows are.1 in
    let same : made ≡ map (enlarged_row across s) rows = is ∙ bits_alike across s rows one each in
    let W : ℕ = s.width * across * s.depth in
    let long : W ≡ row_length s * across = omega arith in
    let all : All (λ (row : List ℕ). length row ≡ W) made =
    subst (λ (l : List (List ℕ)). All (λ (row : List ℕ). length row ≡ W) l) (sym same)
    (All-from_recursion (λ (row : List ℕ). length row ≡ W) (map (enlarged_row across s) rows) (enlarged_each across s rows each)) in (
      same,
      (
        ap length same ∙ map_many (enlarged_row across s) rows ∙ are.0,
        subst (λ (n : ℕ). All (λ (row : List ℕ). length row ≡ n) made) long all,
      ),
    )

-- rows whose pixels stand once are the same rows
pub unchanged_rows : {across : ℕ} (s : Shape) (rows : List (List ℕ)) → across ≡ 1 → AreEach (row_length s) rows → rows ≡ map (enlarged_row across s) rows
unchanged_rows s [] once are = refl
unchanged_rows s (row ∷ rows) once are = ap₂ (λ (r : List ℕ) (l : List (List ℕ)). r ∷ l) (unchanged_row s row once are.0) (unchanged_rows s rows once are.1)

-- rows that stand once are the same rows
pub rows_once : {down : ℕ} (rows : List (List ℕ)) → down ≡ 1 → rows ≡ flat_map (replicate down) rows
rows_once [] once = refl
rows_once {down} (row ∷ rows) once =
    ap (λ (l : List (List ℕ)). row ∷ l) (rows_once rows once)
    ∙ ap (λ (n : ℕ). replicate n row ++ flat_map (replicate down) rows) (sym once)

-- no sample of the result is above what those of the rows aren't
enlarged_range : (across down : ℕ) (s : Shape) (rows : List (List ℕ)) → AllByRecursion (IsRowOf s) rows
    → AreRowsWithin s.maxval (flat_map (replicate down) (map (enlarged_row across s) rows))
enlarged_range across down s [] are = All-nil (λ (row : List ℕ). All (λ sample. sample ≤ s.maxval) row)
enlarged_range across down s (row ∷ rows) are =
    let P : List ℕ → Type 0 = λ row. All (λ sample. sample ≤ s.maxval) row in
    let E : List ℕ = enlarged_row across s row in
    All-append P (replicate down E) (flat_map (replicate down) (map (enlarged_row across s) rows))
    (All-replicate P down E (enlarged_within s.maxval across s refl refl are.0.range)) (enlarged_range across down s rows are.1)

-- ---- rows that are enlarged together

-- those that are only repeated
pub only_repeated : {across : ℕ} (down : ℕ) {count each : ℕ} (s : Shape) {rows : List (List ℕ)} (lent : RowSlice) (made : RowVec) → across ≡ 1
    → count ≡ length rows → each ≡ row_length s → AllByRecursion (IsRowOf s) rows → slice_lists (length rows) each lent ≡ rows
    → HoldsRows (count * down) each (flat_map (replicate down) (slice_lists count each lent)) made → HoldsRows (length rows * down) (row_length s * across)
    (flat_map (replicate down) (map (enlarged_row across s) rows)) made
only_repeated {across} down {count} {each} s {rows} lent made once many size are lists h =
    let wide : each ≡ row_length s * across = size ∙ omega (arith, ap (λ (n : ℕ). row_length s * n) once) in
    let same : slice_lists count each lent ≡ map (enlarged_row across s) rows =
    ap (λ (n : ℕ). slice_lists n each lent) many ∙ lists ∙ unchanged_rows s rows once (each_of s rows are) in
    holds_as (count * down) (length rows * down) made (ap (λ (n : ℕ). n * down) many) wide (ap (flat_map (replicate down)) same) h

-- those that are only widened
pub only_widened : (across : ℕ) {down count : ℕ} (s : Shape) {rows : List (List ℕ)} (lent : RowSlice) (made : RowVec) → down ≡ 1 → count ≡ length rows
    → slice_lists (length rows) (row_length s) lent ≡ rows → HoldsRows count (row_length s * across)
    (map (enlarged_row across s) (slice_lists count (row_length s) lent)) made → HoldsRows (length rows * down) (row_length s * across)
    (flat_map (replicate down) (map (enlarged_row across s) rows)) made
only_widened across {down} {count} s {rows} lent made once many lists h =
    let E : List ℕ → List ℕ = enlarged_row across s in
    let high : count ≡ length rows * down = many ∙ omega (arith, ap (λ (n : ℕ). length rows * n) once) in
    let same : map E (slice_lists count (row_length s) lent) ≡ flat_map (replicate down) (map E rows) =
    ap (λ (n : ℕ). map E (slice_lists n (row_length s) lent)) many ∙ ap (map E) lists ∙ rows_once (map E rows) once in
    holds_as count (length rows * down) made high refl same h

-- those that are widened, and then repeated
pub widened_repeated : (across down : ℕ) {count each : ℕ} (s : Shape) {rows : List (List ℕ)} (lent long : RowSlice) (wide made : RowVec)
    → count ≡ length rows → each ≡ row_length s → slice_lists (length rows) (row_length s) lent ≡ rows → HoldsRows count (row_length s * across)
    (map (enlarged_row across s) (slice_lists count (row_length s) lent)) wide
    → slice_lists count (each * across) long ≡ row_lists count (each * across) wide → HoldsRows (count * down) (each * across)
    (flat_map (replicate down) (slice_lists count (each * across) long)) made → HoldsRows (length rows * down) (row_length s * across)
    (flat_map (replicate down) (map (enlarged_row across s) rows)) made
widened_repeated across down {count} {each} s {rows} lent long wide made many size lists w again h =
    let E : List ℕ → List ℕ = enlarged_row across s in
    let same_wide : each * across ≡ row_length s * across = ap (λ (n : ℕ). n * across) size in
    let same : slice_lists count (each * across) long ≡ map E rows =
    again ∙ ap (λ (n : ℕ). row_lists count n wide) same_wide ∙ w.0 ∙ ap (λ (n : ℕ). map E (slice_lists n (row_length s) lent)) many ∙ ap (map E) lists in
    holds_as (count * down) (length rows * down) made (ap (λ (n : ℕ). n * down) many) same_wide (ap (flat_map (replicate down)) same) h

-- as many and as long as rows that come together are made of it
pub together_held : (across down : ℕ) {count each : ℕ} (s : Shape) (rows : List (List ℕ)) (held : RowVec) → count ≡ length rows → each ≡ row_length s
    → AllByRecursion (IsRowOf s) rows → HoldsRows (length rows * down) (row_length s * across)
    (flat_map (replicate down) (map (enlarged_row across s) rows)) held → HoldsRows (count * down) (each * across)
    (flat_map (replicate down) (map (enlarged_row across s) rows)) held × AreRowsWithin s.maxval (row_lists (count * down) (each * across) held)
together_held across down {count} {each} s rows held many size are h =
    let all : List (List ℕ) = flat_map (replicate down) (map (enlarged_row across s) rows) in
    let now : HoldsRows (count * down) (each * across) all held =
    holds_as (length rows * down) (count * down) held (ap (λ (n : ℕ). n * down) (sym many)) (ap (λ (n : ℕ). n * across) (sym size)) refl h in
    (now, subst (AreRowsWithin s.maxval) (sym now.0) (enlarged_range across down s rows are))

-- ---- copies of a row

-- they are within what the row is
pub copies_within : (n each bound : ℕ) {row : List ℕ} {rows : List (List ℕ)} (lent : RowSlice) (held : RowVec) → rows ≡ row ∷ []
    → slice_lists (length rows) each lent ≡ rows → HoldsRows (1 * n) each (flat_map (replicate n) (slice_lists 1 each lent)) held → AreRowsWithin bound rows
    → HoldsRows n each (replicate n row) held × AreRowsWithin bound (row_lists n each held)
copies_within n each bound {row} {rows} lent held is lists h within =
    let one : length rows ≡ 1 = ap length is in
    let same : flat_map (replicate n) (slice_lists 1 each lent) ≡ replicate n row =
    ap (flat_map (replicate n)) (ap (λ (k : ℕ). slice_lists k each lent) (sym one) ∙ lists ∙ is) ∙ append-nil (replicate n row) in
    let now : HoldsRows n each (replicate n row) held =
    holds_as (1 * n) n held (omega arith) refl same h in
    let known : AreRowsWithin bound (row ∷ []) = subst (AreRowsWithin bound) is within in
    let first : 0 < 1 = omega arith in (
      now,
      subst (AreRowsWithin bound) (sym now.0) (All-replicate (λ (r : List ℕ). All (λ sample. sample ≤ bound) r) n row (known 0 [] first)),
    )
