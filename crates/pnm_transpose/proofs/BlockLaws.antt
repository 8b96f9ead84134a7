-- Rows from one on, and blocks of sixteen.
use Rattle.pnm_transpose.proofs.Words.{Bor, ◌≡◌, ℕ, ◌+◌, ◌-◌, ◌*◌, ◌<◌, ◌≤◌, inl, inr, List, [], ◌∷◌, ◌++◌, length, take, drop, get_or, set, map, All, Vec}
use Rattle.pnm_transpose.proofs.Words.{Global, refl, sym, ap, subst, ◌∙◌, arith, cases_lt, get_or-set_at, drop-drop, get_or-drop, get_or-map, get_or-take}
use Rattle.pnm_transpose.proofs.Words.{get_or_default, length-drop, length-map, length-take-le, get_or-set_other, same_lists, take_all, All-head, All-tail}
use Rattle.pnm_transpose.proofs.Words.{All-drop, All-take, All-weaker, AreRowsFrom, HavePixels, column_of, pixel_of, pixel_of_one}
use Rattle.pnm_transpose.proofs.ColumnLaws.{all_behind, rows_behind}

-- the rows from one on reach as far as all do
pub rest_reaches : {X : Type 0} (begun least : ℕ) (rows : List (List X)) → All (λ row. least ≤ length row) rows
    → All (λ row. least ≤ length row) (drop begun rows)
rest_reaches {X = X} begun least rows long = All-drop (λ (row : List X). least ≤ length row) begun rows long

-- rows behind those from one on
pub rows_further : {X : Type 0} (begun y m first depth : ℕ) {count at : ℕ} (rows : List (List X)) {old new : List (Vec X Global)}
    → HavePixels count at (λ k. column_of depth (take m (drop (begun + y) rows)) (first + k)) old new
    → HavePixels count at (λ k. column_of depth (take m (drop y (drop begun rows))) (first + k)) old new
rows_further {X = X} begun y m first depth {count} {at} rows {old} {new} h =
    subst (λ (l : List (List X)). HavePixels count at (λ k. column_of depth (take m l) (first + k)) old new) (sym (drop-drop y begun rows)) h

-- ---- sixteen rows

-- the sample of each row in this place
samples_at : (x : ℕ) (rows : List (List ℕ)) → All (λ row. x < length row) rows → map (λ row. get_or row x 0) rows ≡ column_of 1 rows x
samples_at x [] long = refl
samples_at x (row ∷ rows) long =
    let below : x < length row = All-head (λ (row : List ℕ). x < length row) row rows long in
    let here : pixel_of 1 row x ≡ get_or row x 0 ∷ [] = pixel_of_one row x (get_or row x 0) below (get_or_default row x 0 (get_or row x 0) below) in
    ap (λ (l : List ℕ). get_or row x 0 ∷ l) (samples_at x rows (All-tail (λ (row : List ℕ). x < length row) row rows long))
    ∙ ap (λ (l : List ℕ). l ++ column_of 1 rows x) (sym here)

-- a row of them
row_of_block : (y k : ℕ) (rows : List (List ℕ)) → k < 16 → get_or (take 16 (drop y rows)) k [] ≡ get_or rows (y + k) []
row_of_block y k rows below = get_or-take 16 (drop y rows) k [] below ∙ get_or-drop y rows k []

-- the samples of slices in this place are a column of these rows
pub column_of_sixteen : (y x : ℕ) (rows : List (List ℕ)) (slices : List (Bor (List ℕ))) → length slices ≡ 16 → y + 16 ≤ length rows
    → AreRowsFrom y rows slices → All (λ row. x < length row) (take 16 (drop y rows))
    → map (λ row. get_or row.now x 0) slices ≡ column_of 1 (take 16 (drop y rows)) x
column_of_sixteen y x rows [] count many are long = absurd (omega arith)
column_of_sixteen y x rows (slice ∷ slices) count many are long =
    let part : List (List ℕ) = take 16 (drop y rows) in
    let all : List (Bor (List ℕ)) = slice ∷ slices in
    let at_slice : Bor (List ℕ) → ℕ = λ row. get_or row.now x 0 in
    let at_row : List ℕ → ℕ = λ row. get_or row x 0 in
    let sixteen : length part ≡ 16 = length-take-le 16 (drop y rows) (omega (arith, length-drop y rows)) in
    same_lists (map at_slice all) (map at_row part) (length-map all at_slice ∙ count ∙ sym sixteen ∙ sym (length-map part at_row))
    (λ k e lt.
    let below : k < 16 = omega (arith, length-map all at_slice) in
    get_or-map at_slice all k slice e (omega arith) ∙ ap at_row (are k slice (omega arith)) ∙ ap at_row (sym (row_of_block y k rows below))
    ∙ sym (get_or-map at_row part k [] e (omega arith)))
    ∙ samples_at x part long

-- rows that reach so far reach beyond this place
pub beyond : (x most : ℕ) (rows : List (List ℕ)) → x < most → All (λ row. most * 1 ≤ length row) rows → All (λ row. x < length row) rows
beyond x most rows below long = All-weaker (λ (row : List ℕ). most * 1 ≤ length row) (λ (row : List ℕ). x < length row) (λ row le. omega arith) rows long

-- rows that reach so far reach beyond this place, and so do sixteen of them
pub block_reaches : (y x most : ℕ) (rows : List (List ℕ)) → x < most → All (λ row. most * 1 ≤ length row) rows
    → All (λ row. x < length row) (take 16 (drop y rows))
block_reaches y x most rows below long =
    let Reaches : List ℕ → Type 0 = λ row. x < length row in
    All-take Reaches 16 (drop y rows) (All-drop Reaches y rows (beyond x most rows below long))

-- the first of slices is the row
pub first_row : (y : ℕ) (rows : List (List ℕ)) (slice : Bor (List ℕ)) (slices : List (Bor (List ℕ))) → slice.now ≡ get_or rows y []
    → (j : ℕ) (d : Bor (List ℕ)) → j < 1 → (get_or (slice ∷ slices) j d).now ≡ get_or rows (y + j) []
first_row y rows slice slices is j d lt =
    let none : 0 ≡ j = omega arith in
    subst (λ (n : ℕ). (get_or (slice ∷ slices) n d).now ≡ get_or rows (y + n) []) none (is ∙ ap (λ (n : ℕ). get_or rows n []) (omega arith))

-- one slice more is a row
pub row_more : (y i : ℕ) (rows : List (List ℕ)) (slices : List (Bor (List ℕ))) (slice : Bor (List ℕ)) → i < length slices → slice.now ≡ get_or rows (y + i) []
    → ((j : ℕ) (d : Bor (List ℕ)) → j < i → (get_or slices j d).now ≡ get_or rows (y + j) [])
    → (j : ℕ) (d : Bor (List ℕ)) → j < i + 1 → (get_or (set slices i slice) j d).now ≡ get_or rows (y + j) []
row_more y i rows slices slice inside is known j d lt = elim (cases_lt j i) [
  | inl before ↦ ap (λ (s : Bor (List ℕ)). s.now) (get_or-set_other slices i j slice d (omega arith)) ∙ known j d before
  | inr now ↦ (let e : j ≡ i = omega arith in
      ap (λ (s : Bor (List ℕ)). s.now) (get_or-set_at slices i j slice d e inside) ∙ is ∙ ap (λ (n : ℕ). get_or rows (y + n) []) (sym e))
]

-- ---- all rows

-- the rows from one on behind those before them
pub rest_behind : {X : Type 0} (first depth begun : ℕ) {at : ℕ} (rows : List (List X)) {old columns new : List (Vec X Global)} → begun ≤ length rows
    → All (λ row. (first + length old) * depth ≤ length row) rows
    → HavePixels (length old) at (λ k. column_of depth (take begun rows) (first + k)) old columns → HavePixels (length columns) (at + begun * depth)
    (λ k. column_of depth (drop begun rows) (first + k)) columns new → HavePixels (length old) at (λ k. column_of depth rows (first + k)) old new
rest_behind {X = X} first depth begun {at} rows {columns} {new} le long before behind =
    let m : ℕ = length rows - begun in
    let rest : take m (drop begun rows) ≡ drop begun rows = take_all m (drop begun rows) (omega (arith, length-drop begun rows)) in
    all_behind first depth (begun + m) rows (omega arith) (rows_behind first depth begun m rows (omega arith) long before
    (subst (λ (l : List (List X)). HavePixels (length columns) (at + begun * depth) (λ k. column_of depth l (first + k)) columns new) (sym rest) behind))

-- sixteen rows more, of one sample a pixel
pub sixteen_behind : (first g : ℕ) {at : ℕ} (rows : List (List ℕ)) {old columns new : List (Vec ℕ Global)} → 16 * g + 16 ≤ length rows
    → All (λ row. (first + length old) * 1 ≤ length row) rows → HavePixels (length old) at (λ k. column_of 1 (take (16 * g) rows) (first + k)) old columns
    → HavePixels (length columns) (at + 16 * g) (λ k. column_of 1 (take 16 (drop (16 * g) rows)) (first + k)) columns new
    → HavePixels (length old) at (λ k. column_of 1 (take (16 * (g + 1)) rows) (first + k)) old new
sixteen_behind first g {at} rows {old} {columns} {new} le long before behind =
    let next : 16 * g + 16 ≡ 16 * (g + 1) = omega arith in
    let place : at + 16 * g ≡ at + 16 * g * 1 = omega arith in
    subst (λ (n : ℕ). HavePixels (length old) at (λ k. column_of 1 (take n rows) (first + k)) old new) next
    (rows_behind first 1 (16 * g) 16 rows (omega arith) long before
    (subst (λ (n : ℕ). HavePixels (length columns) n (λ k. column_of 1 (take 16 (drop (16 * g) rows)) (first + k)) columns new) place behind))
