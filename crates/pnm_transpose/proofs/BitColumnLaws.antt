-- Columns of packed pixels.
use Rattle.pnm_transpose.proofs.Words.{◌≡◌, ℕ, ◌+◌, ◌*◌, ◌/◌, ◌<◌, ◌≤◌, List, [], ◌∷◌, ◌++◌, length, take, drop, map, reverse, All, refl, sym, ap, ◌∙◌, arith}
use Rattle.pnm_transpose.proofs.Words.{range_with_len, drop_more, map-id, All-head, All-tail, All-weaker, column_at, column_of, IsBatchOfBits, alike_from}

-- a column of rows of one plane
column_of_one : (rows : List (List ℕ)) (x : ℕ) → All (λ row. x < length row) rows → column_at rows x ≡ column_of 1 rows x
column_of_one [] x long = refl
column_of_one (row ∷ rows) x long =
    let Longer : List ℕ → Type 0 = λ row. x < length row in
    let place : x ≡ x * 1 = omega arith in
    ap (λ (l : List ℕ). l ++ column_at rows x) (ap (take 1) (sym (drop_more row x 0 (All-head Longer row rows long)))
    ∙ ap (λ (k : ℕ). take 1 (drop k row)) place)
    ∙ ap (λ (l : List ℕ). take 1 (drop (x * 1) row) ++ l) (column_of_one rows x (All-tail Longer row rows long))

-- columns that lie in a byte of each row
pub columns_of_byte : {first count depth : ℕ} (rows : List (List ℕ)) → IsBatchOfBits first count depth
    → All (λ row. (first + count) * depth ≤ length row) rows → map (column_at rows) (range_with_len (8 * (first / 8)) count) ≡ map (column_of depth rows)
    (range_with_len first count)
columns_of_byte {first} {count} {depth} rows within long =
    let one : (first + count) * depth ≡ (first + count) * 1 = ap (λ (d : ℕ). (first + count) * d) within.one_plane in
    alike_from (column_at rows) (column_of depth rows) (8 * (first / 8)) first count (λ i lt.
    let place : 8 * (first / 8) + i ≡ first + i = omega (arith, within.at_byte) in
    let there : All (λ row. first + i < length row) rows = All-weaker (λ row. (first + count) * depth ≤ length row) (λ row. first + i < length row)
    (λ row le. omega (arith, one)) rows long in
    ap (column_at rows) place ∙ column_of_one rows (first + i) there ∙ ap (λ (d : ℕ). column_of d rows (first + i)) (sym within.one_plane))

-- the batch of them
pub batch_of_byte : {first count depth : ℕ} {rows kept columns : List (List ℕ)} → IsBatchOfBits first count depth
    → All (λ row. (first + count) * depth ≤ length row) kept → rows ≡ kept → columns ≡ map (column_at rows) (range_with_len (8 * (first / 8)) count)
    → reverse (map (λ bits. bits) columns) ≡ reverse (map (column_of depth kept) (range_with_len first count))
batch_of_byte {first} {count} {kept} {columns} within long same made =
    ap reverse (map-id columns ∙ made ∙ ap (λ (l : List (List ℕ)). map (column_at l) (range_with_len (8 * (first / 8)) count)) same
    ∙ columns_of_byte kept within long)
