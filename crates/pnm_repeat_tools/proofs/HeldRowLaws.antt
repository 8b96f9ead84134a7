-- Rows as they are held: samples that are cut into rows, and pixels in bytes.
use Rattle.pnm_repeat_tools.proofs.Words.{◌≡◌, ℕ, zero, suc, ◌+◌, ◌*◌, List, [], ◌∷◌, ◌++◌, length, map, take, drop, replicate, All, refl, sym, ap, ap₂, subst}
use Rattle.pnm_repeat_tools.proofs.Words.{◌∙◌, arith, flat_map, map-append, take-take, bytes_for, rows_of_bytes, all_pixels, take-all_pixels, length_of_rows}
use Rattle.pnm_repeat_tools.proofs.Words.{RowVec, length_of_bits, HoldsRows}
use Rattle.pnm_samples.specs.Cuts.{cut_rows}
use Rattle.pnm_repeat_tools.proofs.EnlargeRowLaws.{columns_repeated}
use Rattle.pnm_repeat_tools.proofs.EnlargedRowsLaws.{repeated_cut}

-- the same rows, as many and as long
pub holds_as : (count : ℕ) {each : ℕ} (many : ℕ) {long : ℕ} {rows same : List (List ℕ)} (held : RowVec) → count ≡ many → each ≡ long → rows ≡ same
    → HoldsRows count each rows held → HoldsRows many long same held
holds_as count {each} many {long} {same} held counts lengths are h =
    subst (λ (n : ℕ). HoldsRows n long same held) counts
    (subst (λ (n : ℕ). HoldsRows count n same held) lengths (subst (λ (l : List (List ℕ)). HoldsRows count each l held) are h))

-- ---- rows of pixels

-- they lie in the parts that their bytes are cut into
pixels_of_parts : (count each : ℕ) (bytes : List ℕ)
    → rows_of_bytes count each bytes ≡ map (λ part. take each (all_pixels part)) (cut_rows count (bytes_for each) bytes)
pixels_of_parts zero each bytes = refl
pixels_of_parts (suc count) each bytes =
    let size : ℕ = bytes_for each in
    let first : take each (all_pixels bytes) ≡ take each (all_pixels (take size bytes)) =
    sym (take-take each (8 * size) (all_pixels bytes) (omega arith)) ∙ ap (take each) (take-all_pixels size bytes) in
    ap₂ (λ (r : List ℕ) (l : List (List ℕ)). r ∷ l) first (pixels_of_parts count each (drop size bytes))

map_copies : (f : List ℕ → List ℕ) (n : ℕ) (row : List ℕ) → map f (replicate n row) ≡ replicate n (f row)
map_copies f zero row = refl
map_copies f (suc n) row = ap (λ (l : List (List ℕ)). f row ∷ l) (map_copies f n row)

map_repeated : (f : List ℕ → List ℕ) (down : ℕ) (rows : List (List ℕ)) → map f (flat_map (replicate down) rows) ≡ flat_map (replicate down) (map f rows)
map_repeated f down [] = refl
map_repeated f down (row ∷ rows) =
    map-append f (replicate down row) (flat_map (replicate down) rows)
    ∙ ap₂ (λ (a b : List (List ℕ)). a ++ b) (map_copies f down row) (map_repeated f down rows)

-- the bytes of each so many times
pub repeated_bits : (down count each : ℕ) (bytes : List ℕ) {made : List ℕ} {rows new : List (List ℕ)} → length bytes ≡ count * bytes_for each
    → rows_of_bytes count each bytes ≡ rows → made ≡ columns_repeated down (bytes_for each) bytes count → new ≡ rows_of_bytes (count * down) each made
    → (new ≡ flat_map (replicate down) rows) × ((length new ≡ count * down) × All (λ row. length row ≡ each) new)
repeated_bits down count each bytes {made} {rows} long are is held =
    let f : List ℕ → List ℕ = λ part. take each (all_pixels part) in
    let cut = repeated_cut down count (bytes_for each) bytes long is in
    let all : rows_of_bytes (count * down) each made ≡ flat_map (replicate down) rows =
    pixels_of_parts (count * down) each made ∙ ap (map f) cut.0 ∙ map_repeated f down (cut_rows count (bytes_for each) bytes)
    ∙ ap (flat_map (replicate down)) (sym (pixels_of_parts count each bytes) ∙ are) in (
      held ∙ all,
      (
        ap length held ∙ length_of_rows (count * down) each made,
        subst (λ (l : List (List ℕ)). All (λ (row : List ℕ). length row ≡ each) l) (sym held) (length_of_bits (count * down) each made cut.1),
      ),
    )
