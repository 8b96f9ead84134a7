-- The columns of rows of pixels, in bytes.
use Rattle.pnm_samples.proofs.Words.{Bor, Vec, ◌≡◌, ◌≤◌, ℕ, zero, suc, ◌+◌, ◌-◌, ◌*◌, ◌/◌, ◌%◌, ◌<◌, inl, inr, List, [], ◌∷◌, ◌++◌, length, get_or, take, drop}
use Rattle.pnm_samples.proofs.Words.{map, All, refl, sym, ap, ◌∙◌, arith, cases_lt, take-append_seam, ext_get_or, get_or-drop, get_or-take, get_or_append_left}
use Rattle.pnm_samples.proofs.Words.{get_or-map, length-map, length-take, length-take-le, drop_more, All-get_or, All-weaker, get_or-map-range_with_len}
use Rattle.pnm_samples.proofs.Words.{length-map-range_with_len, range_with_len, pixel_at, pixels, all_pixels, bits_of, IsSquare, lane_at, bit_at, Global}
use Rattle.pnm_samples.proofs.Words.{column_at, AreLong, HasPair, HavePairs, HoldsPixels, HoldSixteen, HoldColumns, row_in_place}
use Rattle.pnm_samples.proofs.BlockLaws.{bit_of_bits}
use Rattle.pnm_samples.proofs.PixelLaws.{bit_at-shr, bit_at-low_byte, length-pixels, get_or-pixels, drop-all_pixels, length-all_pixels}

-- a pixel of a byte of many
pub pixel_of_bytes : (bytes : List ℕ) (n r : ℕ) → n < length bytes → r < 8 → get_or (all_pixels bytes) (8 * n + r) 0 ≡ pixel_at (7 - r) (get_or bytes n 0)
pixel_of_bytes bytes n r inside lt =
    let x = get_or bytes n 0 in let rest = all_pixels (drop (n + 1) bytes) in
    sym (get_or-drop (8 * n) (all_pixels bytes) r 0)
    ∙ ap (λ (l : List ℕ). get_or l r 0) (drop-all_pixels n bytes ∙ ap all_pixels (drop_more bytes n 0 inside))
    ∙ get_or_append_left (pixels x) rest 0 r (omega (arith, length-pixels x)) ∙ get_or-pixels x r lt

-- what the bytes of a row hold
pub byte_holds : {row : List ℕ} (bytes : List ℕ) (byte : ℕ) → byte < length bytes → row ≡ take (length row) (all_pixels bytes)
    → HoldsPixels byte row (get_or bytes byte 0)
byte_holds {row} bytes byte inside is k lt within =
    sym (pixel_of_bytes bytes byte k inside lt) ∙ sym (get_or-take (length row) (all_pixels bytes) (8 * byte + k) 0 within)
    ∙ ap (λ (l : List ℕ). get_or l (8 * byte + k) 0) (sym is)

-- ---- the columns of sixteen rows

-- a byte holds the pixels of a row, where there is one
abbrev pub HoldsRow : ℕ → List (List ℕ) → ℕ → ℕ → Type 0
HoldsRow byte rows r held = r < length rows → HoldsPixels byte (get_or rows r []) held

-- eight of the bytes hold the pixels of eight rows, the last row's first
abbrev pub HoldEight : ℕ → List (List ℕ) → ℕ → ℕ → List ℕ → Type 0
HoldEight byte rows first from lanes = (m : ℕ) → m < 8 → HoldsRow byte rows (first + (from + m)) (get_or lanes (from + (7 - m)) 0)

-- what holds of each of sixteen
pub sixteen_cases : (Q : ℕ → Type 0) → Q 0 → Q 1 → Q 2 → Q 3 → Q 4 → Q 5 → Q 6 → Q 7 → Q 8 → Q 9 → Q 10 → Q 11 → Q 12 → Q 13 → Q 14 → Q 15
    → (i : ℕ) → i < 16 → Q i
sixteen_cases Q a b c d e f g h i j k l m n o p zero lt = a
sixteen_cases Q a b c d e f g h i j k l m n o p (suc zero) lt = b
sixteen_cases Q a b c d e f g h i j k l m n o p (suc (suc zero)) lt = c
sixteen_cases Q a b c d e f g h i j k l m n o p (suc (suc (suc zero))) lt = d
sixteen_cases Q a b c d e f g h i j k l m n o p (suc (suc (suc (suc zero)))) lt = e
sixteen_cases Q a b c d e f g h i j k l m n o p (suc (suc (suc (suc (suc zero))))) lt = f
sixteen_cases Q a b c d e f g h i j k l m n o p (suc (suc (suc (suc (suc (suc zero)))))) lt = g
sixteen_cases Q a b c d e f g h i j k l m n o p (suc (suc (suc (suc (suc (suc (suc zero))))))) lt = h
sixteen_cases Q a b c d e f g h i j k l m n o p (suc (suc (suc (suc (suc (suc (suc (suc zero)))))))) lt = i
sixteen_cases Q a b c d e f g h i j k l m n o p (suc (suc (suc (suc (suc (suc (suc (suc (suc zero))))))))) lt = j
sixteen_cases Q a b c d e f g h i j k l m n o p (suc (suc (suc (suc (suc (suc (suc (suc (suc (suc zero)))))))))) lt = k
sixteen_cases Q a b c d e f g h i j k l m n o p (suc (suc (suc (suc (suc (suc (suc (suc (suc (suc (suc zero))))))))))) lt = l
sixteen_cases Q a b c d e f g h i j k l m n o p (suc (suc (suc (suc (suc (suc (suc (suc (suc (suc (suc (suc zero)))))))))))) lt = m
sixteen_cases Q a b c d e f g h i j k l m n o p (suc (suc (suc (suc (suc (suc (suc (suc (suc (suc (suc (suc (suc zero))))))))))))) lt = n
sixteen_cases Q a b c d e f g h i j k l m n o p (suc (suc (suc (suc (suc (suc (suc (suc (suc (suc (suc (suc (suc (suc zero)))))))))))))) lt = o
sixteen_cases Q a b c d e f g h i j k l m n o p (suc (suc (suc (suc (suc (suc (suc (suc (suc (suc (suc (suc (suc (suc (suc zero))))))))))))))) lt = p
sixteen_cases Q a b c d e f g h i j k l m n o p (suc (suc (suc (suc (suc (suc (suc (suc (suc (suc (suc (suc (suc (suc (suc (suc q)))))))))))))))) lt =
    absurd (omega arith)

-- the lanes of sixteen rows that were exchanged
pub lanes_of_sixteen : (rows : List (Bor (List ℕ))) (read : List (List ℕ)) {made : List (List ℕ)} (at : ℕ) → length rows ≡ 16 → IsSquare made
    → ((r c : ℕ) → r < 16 → c < 16 → lane_at made r c ≡ lane_at read c r)
    → ((i : ℕ) → i < 16 → (k : ℕ) → k < 16 → lane_at read i k ≡ get_or (get_or rows i (record { ref_ptr = (0, 0); now = [] })).now (at + k) 0) → (k : ℕ)
    → k < 16 → get_or made k [] ≡ map (λ row. get_or row.now (at + k) 0) rows
lanes_of_sixteen rows read {made} at count square exchanged bytes k lt =
    let many : length (map (λ row. get_or row.now (at + k) 0) rows) ≡ 16 = length-map rows (λ row. get_or row.now (at + k) 0) ∙ count in
    ext_get_or 0 (get_or made k []) (map (λ row. get_or row.now (at + k) 0) rows) (square.each k lt ∙ sym many) (λ i below.
    let inside : i < 16 = omega (arith, square.each k lt) in
    exchanged k i lt inside ∙ bytes i inside k lt
    ∙ sym (get_or-map (λ row. get_or row.now (at + k) 0) rows i (record { ref_ptr = (0, 0); now = [] }) 0 (omega (arith, count))))

-- a byte of each of sixteen slices
pub sixteen_hold : (byte first n from : ℕ) (rows : List (List ℕ)) (slices : List (Bor (List ℕ))) → length slices ≡ 16 → HoldSixteen byte first rows slices
    → from % 8 ≡ 0 → from < 16 → HoldEight (byte + n) rows first from (map (λ row. get_or row.now n 0) slices)
sixteen_hold byte first n from rows slices count held eight small m lt below k inside within =
    let i : ℕ = from + (7 - m) in
    let none : Bor (List ℕ) = record { ref_ptr = (0, 0); now = [] } in
    let place : row_in_place i ≡ from + m = omega (arith, eight) in
    let read : get_or (map (λ row. get_or row.now n 0) slices) i 0 ≡ get_or (get_or slices i none).now n 0 =
    get_or-map (λ row. get_or row.now n 0) slices i none 0 (omega (arith, count)) in
    let here = rw place at (held i none (omega arith)) in
    ap (pixel_at (7 - k)) read ∙ here below n k inside within

-- the pixels in the two bytes of a column
low_pixel : (lanes : List ℕ) {pair : ℕ} (place m : ℕ) → length lanes ≡ 16 → pair ≡ bits_of place lanes → m < 8 → pixel_at (7 - m)
    (pair % 256) ≡ pixel_at place (get_or lanes (0 + (7 - m)) 0)
low_pixel lanes {pair} place m count is lt =
    let at : 7 - m ≡ 0 + (7 - m) = omega arith in
    ap (λ (n : ℕ). 1 - n) (bit_at-low_byte pair (7 - m) (omega arith) ∙ ap (λ (n : ℕ). bit_at n (7 - m)) is ∙ bit_of_bits place lanes (7 - m) (omega arith))
    ∙ ap (λ (i : ℕ). pixel_at place (get_or lanes i 0)) at

high_pixel : (lanes : List ℕ) {pair : ℕ} (place m : ℕ) → length lanes ≡ 16 → pair ≡ bits_of place lanes → m < 8 → pixel_at (7 - m)
    (pair / 256) ≡ pixel_at place (get_or lanes (8 + (7 - m)) 0)
high_pixel lanes {pair} place m count is lt =
    ap (λ (n : ℕ). 1 - n) (bit_at-shr pair 8 (7 - m) ∙ ap (λ (n : ℕ). bit_at n (8 + (7 - m))) is ∙ bit_of_bits place lanes (8 + (7 - m)) (omega arith))

-- ---- one byte of each row after another

-- what holds of the columns for the groups of sixteen rows that have passed, and for some bytes of each row of the next one
pub record HoldsGroups (byte width total : ℕ) (rows : List (List ℕ)) (groups beside : ℕ) (columns : List (Vec ℕ Global)) : Type 0 where
  pub long : AreLong (8 * width) (2 * total) columns
  pub pixels :
      (r k : ℕ) (d : Vec ℕ Global) → 256 * (r / 16) + k < 256 * groups + 8 * beside → r < length rows → k < 8 * width → 8 * byte + k < length (get_or rows r [])
      → pixel_at (7 - r % 8) (get_or (get_or columns k d).items (r / 8) 0) ≡ get_or (get_or rows r []) (8 * byte + k) 0

-- the bytes of one of the eight columns that got some
pair_at : {first at : ℕ} {pairs : List ℕ} {old new : List (Vec ℕ Global)} (k : ℕ) (d : Vec ℕ Global) → HavePairs 8 first at pairs old new → first ≤ k
    → k < first + 8 → HasPair at (get_or pairs (k - first) 0) (get_or old k d).items (get_or new k d).items
pair_at {first} {at} k d put le lt =
    let place : first + (k - first) ≡ k = omega arith in
    rw place at (put.put (k - first) d (omega arith))

-- each column stays as long
still_long : (count long first at : ℕ) (pairs : List ℕ) (old new : List (Vec ℕ Global)) → HavePairs 8 first at pairs old new → AreLong count long old
    → AreLong count long new
still_long count long first at pairs old new put known = record {
  many = put.many ∙ known.many;
  each = λ k d lt. elim (cases_lt k first) [
    | inl below ↦ ap (λ (v : Vec ℕ Global). length v.items) (put.before k d below) ∙ known.each k d lt
    | inr above ↦ elim (cases_lt k (first + 8)) [
      | inl inside ↦ (pair_at k d put above inside).count ∙ known.each k d lt
      | inr behind ↦ ap (λ (v : Vec ℕ Global). length v.items) (put.behind k d behind) ∙ known.each k d lt
    ]
  ];
}

-- a byte that was there before stays
byte_stays : (first at : ℕ) (pairs : List ℕ) (old new : List (Vec ℕ Global)) (k i : ℕ) (d : Vec ℕ Global) → HavePairs 8 first at pairs old new
    → (first ≤ k → k < first + 8 → i < at) → get_or (get_or new k d).items i 0 ≡ get_or (get_or old k d).items i 0
byte_stays first at pairs old new k i d put early = elim (cases_lt k first) [
  | inl below ↦ ap (λ (v : Vec ℕ Global). get_or v.items i 0) (put.before k d below)
  | inr above ↦ elim (cases_lt k (first + 8)) [
    | inl inside ↦ (pair_at k d put above inside).before i (early above inside)
    | inr behind ↦ ap (λ (v : Vec ℕ Global). get_or v.items i 0) (put.behind k d behind)
  ]
]

-- the pixel of a row of the group, in a column that got its bytes
pixel_got : (byte : ℕ) (rows : List (List ℕ)) (g n : ℕ) {pairs : List ℕ} (lanes : List ℕ) {old new : List (Vec ℕ Global)} (r k : ℕ) (d : Vec ℕ Global)
    → length lanes ≡ 16 → ((j : ℕ) → j < 8 → get_or pairs j 0 ≡ bits_of (7 - j) lanes) → HoldEight (byte + n) rows (16 * g) 0 lanes
    → HoldEight (byte + n) rows (16 * g) 8 lanes → HavePairs 8 (8 * n) (2 * g) pairs old new → r / 16 ≡ g → 8 * n ≤ k → k < 8 * n + 8 → r < length rows
    → 8 * byte + k < length (get_or rows r []) → pixel_at (7 - r % 8) (get_or (get_or new k d).items (r / 8) 0) ≡ get_or (get_or rows r []) (8 * byte + k) 0
pixel_got byte rows g n lanes {new} r k d count are low high put group le lt below within =
    let pair = pair_at k d put le lt in
    let is = are (k - 8 * n) (omega arith) in
    let pixel : 8 * (byte + n) + (k - 8 * n) ≡ 8 * byte + k = omega arith in
    elim (cases_lt (r % 16) 8) [
      | inl first ↦
          let at : r / 8 ≡ 2 * g = omega arith in
          let row : 16 * g + (0 + r % 8) ≡ r = omega arith in
          let here = rw row at (rw pixel at (low (r % 8) (omega arith) (omega arith) (k - 8 * n) (omega arith))) in
          ap (λ (i : ℕ). pixel_at (7 - r % 8) (get_or (get_or new k d).items i 0)) at ∙ ap (pixel_at (7 - r % 8)) pair.low
          ∙ low_pixel lanes (7 - (k - 8 * n)) (r % 8) count is (omega arith) ∙ here within
      | inr second ↦
          let at : r / 8 ≡ 2 * g + 1 = omega arith in
          let row : 16 * g + (8 + r % 8) ≡ r = omega arith in
          let here = rw row at (rw pixel at (high (r % 8) (omega arith) (omega arith) (k - 8 * n) (omega arith))) in
          ap (λ (i : ℕ). pixel_at (7 - r % 8) (get_or (get_or new k d).items i 0)) at ∙ ap (pixel_at (7 - r % 8)) pair.high
          ∙ high_pixel lanes (7 - (k - 8 * n)) (r % 8) count is (omega arith) ∙ here within
    ]

-- eight columns more
pub eight_more : (byte width total : ℕ) (rows : List (List ℕ)) (g n : ℕ) (pairs lanes : List ℕ) (old new : List (Vec ℕ Global))
    → length lanes ≡ 16 → ((j : ℕ) → j < 8 → get_or pairs j 0 ≡ bits_of (7 - j) lanes) → HoldEight (byte + n) rows (16 * g) 0 lanes
    → HoldEight (byte + n) rows (16 * g) 8 lanes
    → HavePairs 8 (8 * n) (2 * g) pairs old new → n < width → width ≤ 32 → HoldsGroups byte width total rows g n old
    → HoldsGroups byte width total rows g (n + 1) new
eight_more byte width total rows g n pairs lanes old new count are low high put inside few known = record {
  long = still_long (8 * width) (2 * total) (8 * n) (2 * g) pairs old new put known.long;
  pixels = λ r k d below lt lk within. elim (cases_lt (256 * (r / 16) + k) (256 * g + 8 * n)) [
    | inl before ↦
        ap (pixel_at (7 - r % 8)) (byte_stays (8 * n) (2 * g) pairs old new k (r / 8) d put (λ le less. omega arith)) ∙ known.pixels r k d before lt lk within
    | inr now ↦ pixel_got byte rows g n lanes r k d count are low high put (omega arith) (omega arith) (omega arith) lt within
  ];
}

-- a slice of a whole vector, written back
pub written_whole : {X : Type 0} {n : ℕ} (new old : List X) → n ≡ length new → take n (new ++ drop (length new) old) ≡ new
written_whole new old e = ap (λ (k : ℕ). take k (new ++ drop (length new) old)) e ∙ take-append_seam new (drop (length new) old)

-- ---- the columns that are made

-- a column, out of its bytes
column_made : {byte count : ℕ} {rows : List (List ℕ)} {columns : List (Vec ℕ Global)} (k : ℕ) (d : Vec ℕ Global) → HoldColumns byte count rows columns
    → k < count → All (λ row. 8 * byte + k < length row) rows → take (length rows) (all_pixels (get_or columns k d).items) ≡ column_at rows (8 * byte + k)
column_made {byte} {rows} {columns} k d known lk within =
    let bytes = (get_or columns k d).items in
    let enough = known.enough k d lk in
    let made : length (take (length rows) (all_pixels bytes)) ≡ length rows =
    omega (arith, enough, length-take (length rows) (all_pixels bytes), length-all_pixels bytes) in
    ext_get_or 0 (take (length rows) (all_pixels bytes)) (column_at rows (8 * byte + k)) (made ∙ sym (length-map rows (λ row. get_or row (8 * byte + k) 0)))
    (λ r below.
    let lt : r < length rows = omega (arith, made) in
    let place : r ≡ 8 * (r / 8) + r % 8 = omega arith in
    get_or-take (length rows) (all_pixels bytes) r 0 lt ∙ ap (λ (i : ℕ). get_or (all_pixels bytes) i 0) place
    ∙ pixel_of_bytes bytes (r / 8) (r % 8) (omega (arith, enough)) (omega arith)
    ∙ known.pixels r k d lt lk (All-get_or (λ row. 8 * byte + k < length row) rows r [] lt within)
    ∙ sym (get_or-map (λ row. get_or row (8 * byte + k) 0) rows r [] 0 lt))

-- the pixels of a column
abbrev pub pixels_of_column : ℕ → Vec ℕ Global → List ℕ
pixels_of_column n column = take n (all_pixels column.items)

made_by_number : {byte : ℕ} (width count : ℕ) {rows : List (List ℕ)} {columns : List (Vec ℕ Global)} (d : Vec ℕ Global)
    → HoldColumns byte (8 * width) rows columns → count ≤ 8 * width → All (λ row. 8 * byte + count ≤ length row) rows → map (pixels_of_column (length rows))
    (take count columns) ≡ map (column_at rows) (range_with_len (8 * byte) count)
made_by_number {byte} width count {rows} {columns} d known le within =
    let kept : length (take count columns) ≡ count = length-take-le count columns (omega (arith, known.many)) in
    let many : length (map (pixels_of_column (length rows)) (take count columns)) ≡ count = length-map (take count columns) (pixels_of_column (length rows))
    ∙ kept in
    ext_get_or [] (map (pixels_of_column (length rows)) (take count columns)) (map (column_at rows) (range_with_len (8 * byte) count))
    (many ∙ sym (length-map-range_with_len (column_at rows) (8 * byte) count)) (λ k below.
    let lt : k < count = omega (arith, many) in
    get_or-map (pixels_of_column (length rows)) (take count columns) k d [] (omega (arith, kept))
    ∙ ap (pixels_of_column (length rows)) (get_or-take count columns k d lt)
    ∙ column_made k d known (omega arith)
    (All-weaker (λ row. 8 * byte + count ≤ length row) (λ row. 8 * byte + k < length row) (λ row h. omega arith) rows within)
    ∙ sym (get_or-map-range_with_len (column_at rows) (8 * byte) count k (8 * byte + k) [] lt refl))

pub columns_made : {byte : ℕ} (width count : ℕ) {rows : List (List ℕ)} (columns : List (Vec ℕ Global)) → HoldColumns byte (8 * width) rows columns
    → count ≤ 8 * width → All (λ row. 8 * byte + count ≤ length row) rows → map (pixels_of_column (length rows)) (take count columns) ≡ map (column_at rows)
    (range_with_len (8 * byte) count)
columns_made {byte} width count {rows} [] known le within =
    let none : count ≡ 0 = omega (arith, known.many) in
    ap (λ (n : ℕ). map (pixels_of_column (length rows)) (take n [])) none ∙ ap (λ (n : ℕ). map (column_at rows) (range_with_len (8 * byte) n)) (sym none)
columns_made width count (column ∷ columns) known le within = made_by_number width count column known le within
