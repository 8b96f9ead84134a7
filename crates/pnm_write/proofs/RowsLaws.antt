-- The bytes of rows that follow one another.
use Rattle.pnm_write.proofs.Words.{◌≡◌, ℕ, ◌*◌, ◌/◌, ◌%◌, ◌≤◌, List, [], ◌∷◌, ◌++◌, length, All, refl, sym, ap, ap₂, subst, ◌∙◌, arith, concat, flat_map}
use Rattle.pnm_write.proofs.Words.{AllByRecursion, flat_map-append, take_at, drop_at, SampleWidth, Bits, Bytes, Words, Raw, Shape, row_length, IsRowOf}
use Rattle.pnm_write.proofs.Words.{sample_width_of, packed_parts, All-append, All-from_recursion, All-nil, All-weaker, cut_rows, concat-cut_rows, packed_bytes}
use Rattle.pnm_write.proofs.Words.{bytes_in, row_bytes, rows_bytes, AreWholeBytes}
use Rattle.std.proofs.lemmas.List.{length-append}

-- the bytes of a row of whole bytes, and those of the samples after it
bytes_behind : (p : SampleWidth) (row rest : List ℕ) → AreWholeBytes p (length row) → bytes_in p (row ++ rest) ≡ bytes_in p row ++ bytes_in p rest
bytes_behind Bits row rest whole =
    let count : 8 * (length row / 8) ≡ length row = omega (arith, whole) in
    let within : 8 * (length row / 8) ≤ length (row ++ rest) = omega (arith, whole, length-append row rest) in
    packed_parts (length row / 8) (row ++ rest) within
    ∙ ap₂ (λ (l m : List ℕ). packed_bytes l ++ packed_bytes m) (take_at row rest (8 * (length row / 8)) (sym count))
    (drop_at row rest (8 * (length row / 8)) (sym count))
bytes_behind Bytes row rest whole = refl
bytes_behind Words row rest whole = flat_map-append (λ (s : ℕ). s / 256 ∷ s % 256 ∷ []) row rest

no_bytes : (p : SampleWidth) → bytes_in p [] ≡ []
no_bytes Bits = refl
no_bytes Bytes = refl
no_bytes Words = refl

-- the bytes of rows of whole bytes are those of their samples in one row
bytes_as_one : (p : SampleWidth) (each : ℕ) (rows : List (List ℕ)) → AllByRecursion (λ row. length row ≡ each) rows → AreWholeBytes p each
    → bytes_in p (concat rows) ≡ flat_map (bytes_in p) rows
bytes_as_one p each [] long whole = no_bytes p
bytes_as_one p each (row ∷ rows) long whole =
    bytes_behind p row (concat rows) (subst (AreWholeBytes p) (sym long.0) whole)
    ∙ ap (λ (l : List ℕ). bytes_in p row ++ l) (bytes_as_one p each rows long.1 whole)

lengths : (s : Shape) (rows : List (List ℕ)) → AllByRecursion (IsRowOf s) rows → AllByRecursion (λ row. length row ≡ row_length s) rows
lengths s [] are = tt
lengths s (row ∷ rows) are = (are.0.count, lengths s rows are.1)

pub rows_as_one : (s : Shape) (rows : List (List ℕ)) → AllByRecursion (IsRowOf s) rows → AreWholeBytes (sample_width_of s.kind s.maxval) (row_length s)
    → row_bytes Raw s (concat rows) ≡ rows_bytes Raw s rows
rows_as_one s rows are whole = bytes_as_one (sample_width_of s.kind s.maxval) (row_length s) rows (lengths s rows are) whole

-- the rows of a shape have its row length
pub long_rows : (s : Shape) (rows : List (List ℕ)) → AllByRecursion (IsRowOf s) rows → All (λ row. length row ≡ row_length s) rows
long_rows s rows are = All-weaker (IsRowOf s) (λ (row : List ℕ). length row ≡ row_length s) (λ row h. h.count) rows (All-from_recursion (IsRowOf s) rows are)

-- none of their samples is above its maxval
pub range_of_rows : (s : Shape) (rows : List (List ℕ)) → AllByRecursion (IsRowOf s) rows → All (λ sample. sample ≤ s.maxval) (concat rows)
range_of_rows s [] are = All-nil (λ sample. sample ≤ s.maxval)
range_of_rows s (row ∷ rows) are = All-append (λ sample. sample ≤ s.maxval) row (concat rows) are.0.range (range_of_rows s rows are.1)

-- samples that are cut into rows are all of these rows
pub as_one_of_cut : (each : ℕ) (samples : List ℕ) {rows : List (List ℕ)} → cut_rows (length rows) each samples ≡ rows → length samples ≡ length rows * each
    → samples ≡ concat rows
as_one_of_cut each samples {rows} is whole = sym (concat-cut_rows (length rows) each samples whole) ∙ ap concat is
