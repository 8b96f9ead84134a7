-- Parts of rows of packed pixels, by their bytes.
use Rattle.pnm_samples.proofs.Words.{◌≡◌, ℕ, ◌+◌, ◌-◌, ◌*◌, ◌<◌, ◌≤◌, List, [], get_or, length, take, drop, map, refl, sym, ap, subst, ◌∙◌, arith, mul-le-mul}
use Rattle.pnm_samples.proofs.Words.{drop-drop, drop-take, ext_get_or, get_or-drop, get_or-map, get_or-take, length-drop, length-map, length-take}
use Rattle.pnm_samples.proofs.Words.{length-take-le, take-take, take_all, row_bytes, ArePackedRows, bytes_for, rows_of_bytes, all_pixels, ArePacked}
use Rattle.pnm_samples.proofs.BitRowLaws.{counted, pixels_of_row, row_within}
use Rattle.pnm_samples.proofs.BitRowsMade.{rows_are}
use Rattle.pnm_samples.proofs.PixelRowsLaws.{length_of_rows}

-- ---- some of the rows

-- a row of those at the start
pub row_of_front : (size count k : ℕ) (bytes : List ℕ) → k < count → row_bytes size k (take (count * size) bytes) ≡ row_bytes size k bytes
row_of_front size count k bytes lt =
    let inside : k * size + size ≤ count * size = row_within count size k (count * size) refl lt in
    let gap = count * size - k * size in
    let whole : k * size + gap ≡ count * size = omega (arith, inside) in
    ap (λ (m : ℕ). take size (drop (k * size) (take m bytes))) (sym whole) ∙ ap (take size) (drop-take (k * size) gap bytes)
    ∙ take-take size gap (drop (k * size) bytes) (omega (arith, inside))

-- a row of those that come after so many
row_after : (size top k : ℕ) (bytes : List ℕ) → row_bytes size k (drop (top * size) bytes) ≡ row_bytes size (top + k) bytes
row_after size top k bytes =
    ap (take size) (drop-drop (k * size) (top * size) bytes ∙ ap (λ (m : ℕ). drop m bytes) (counted top k size))

module _ (held whole top count : ℕ) (bytes part : List ℕ) (rows : List (List ℕ)) (h : ArePackedRows held whole bytes)
    (is : rows_of_bytes held whole bytes ≡ rows) (within : top + count ≤ length rows)
    (copy : part ≡ take (count * bytes_for whole) (drop (top * bytes_for whole) bytes)) where
  fewer : top + count ≤ held
  fewer = omega (arith, within, length_of_rows held whole bytes, ap length is)

  row_of_copy : (k : ℕ) → k < count → row_bytes (bytes_for whole) k part ≡ row_bytes (bytes_for whole) (top + k) bytes
  row_of_copy k lt =
      ap (row_bytes (bytes_for whole) k) copy ∙ row_of_front (bytes_for whole) count k (drop (top * bytes_for whole) bytes) lt
      ∙ row_after (bytes_for whole) top k bytes

  pub copied_are_packed : ArePackedRows count whole part
  copied_are_packed =
      let size = bytes_for whole in
      let most : (top + count) * size ≤ held * size =
      mul-le-mul {n₁ = top + count} {m₁ = size} {n₂ = held} {m₂ = size} fewer (omega arith) in
      record {
        enough = ap length copy ∙ length-take-le (count * size) (drop (top * size) bytes)
            (omega (arith, length-drop (top * size) bytes, most, counted top count size, h.enough));
        packed = λ k lt. subst (ArePacked whole) (sym (row_of_copy k lt)) (h.packed (top + k) (omega (arith, lt, fewer)));
      }

  pub rows_copied : rows_of_bytes count whole part ≡ take count (drop top rows)
  rows_copied =
      let those = take count (drop top rows) in
      let many : length those ≡ count = omega (arith, length-take count (drop top rows), length-drop top rows, within) in
      rows_are whole part those many (λ k lt.
      ap (λ (l : List ℕ). take whole (all_pixels l)) (row_of_copy k lt) ∙ pixels_of_row held whole (top + k) bytes (omega (arith, lt, fewer))
      ∙ ap (λ (l : List (List ℕ)). get_or l (top + k) []) is
      ∙ sym (get_or-take count (drop top rows) k [] lt ∙ get_or-drop top rows k []))

-- where they lie
pub rows_lie : (held whole top count : ℕ) {size : ℕ} (bytes : List ℕ) {rows : List (List ℕ)} → rows_of_bytes held whole bytes ≡ rows
    → length bytes ≡ held * bytes_for whole → top + count ≤ length rows → size ≡ bytes_for whole
    → (top * size ≤ (top + count) * size) × ((top + count) * size ≤ length bytes) × (top + count ≤ held)
rows_lie held whole top count {size} bytes is long within wide =
    let fewer : top + count ≤ held = omega (arith, within, length_of_rows held whole bytes, ap length is) in
    let most : (top + count) * size ≤ held * bytes_for whole =
    mul-le-mul {n₁ = top + count} {m₁ = size} {n₂ = held} {m₂ = bytes_for whole} fewer (omega (arith, wide)) in (
      omega (arith, counted top count size),
      omega (arith, most, long),
      fewer,
    )

-- of which all pixels are wanted
pub whole_rows : (top count : ℕ) {left : ℕ} (each : ℕ) (rows : List (List ℕ)) → left ≡ 0 → top + count ≤ length rows
    → ((k : ℕ) → k < length rows → length (get_or rows k []) ≤ each) → take count (drop top rows) ≡ map (λ row. take each (drop left row))
    (take count (drop top rows))
whole_rows top count {left} each rows none within fits =
    let those = take count (drop top rows) in
    let many : length those ≡ count = omega (arith, length-take count (drop top rows), length-drop top rows, within) in
    let part : List ℕ → List ℕ = λ (row : List ℕ). take each (drop left row) in
    ext_get_or [] those (map part those) (sym (length-map those part)) (λ k lt.
    let row = get_or those k [] in
    let same : row ≡ get_or rows (top + k) [] = get_or-take count (drop top rows) k [] (omega (arith, lt, many)) ∙ get_or-drop top rows k [] in
    sym (get_or-map part those k [] [] lt ∙ ap (λ (n : ℕ). take each (drop n row)) none
    ∙ take_all each row (omega (arith, ap length same, fits (top + k) (omega (arith, lt, many, within))))))
