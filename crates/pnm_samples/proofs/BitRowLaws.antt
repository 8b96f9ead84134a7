-- Rows of packed pixels that begin at whole bytes, one after another.
use Rattle.pnm_samples.proofs.Words.{◌≡◌, ℕ, zero, suc, ◌+◌, ◌-◌, ◌*◌, ◌%◌, ◌<◌, ◌≤◌, List, [], ◌∷◌, ◌++◌, get_or, length, take, drop, map, refl, sym, ap, ap₂}
use Rattle.pnm_samples.proofs.Words.{subst, ◌∙◌, arith, suc-mul, zero-mul, mul-le-mul, inl, inr, cases_lt, append_assoc, drop-append-le, drop-drop, drop_at}
use Rattle.pnm_samples.proofs.Words.{length-append, length-drop, length-take, length-take-le, take-append-le, get_or-drop, get_or-take, get_or_past}
use Rattle.pnm_samples.proofs.Words.{take-append-drop, nil_from_length, take-map, drop-map, take_all, take_at, take-take, drop-take, put_mid, Fits, w8}
use Rattle.pnm_samples.proofs.Words.{row_bytes, ArePackedRows, bytes_for, rows_of_bytes, flat_map, all_pixels, packed_bytes, ArePacked, AreBytes}
use Rattle.pnm_samples.proofs.PackedBytes.{packed_view}
use Rattle.pnm_samples.proofs.PixelRowsLaws.{row_lies}
use Rattle.pnm_samples.proofs.PixelLaws.{drop-all_pixels, take-all_pixels, whole_is_packed}

-- ---- where a row lies

pub row_within : (count size row long : ℕ) → long ≡ count * size → row < count → row * size + size ≤ long
row_within count size row long is lt =
    let within : (row + 1) * size ≤ count * size =
    mul-le-mul {n₁ = row + 1} {m₁ = size} {n₂ = count} {m₂ = size} (omega arith) (omega arith) in
    omega (arith, is, within)

pub length_of_row_bytes : (size row : ℕ) (bytes : List ℕ) → row * size + size ≤ length bytes → length (row_bytes size row bytes) ≡ size
length_of_row_bytes size row bytes within = omega (arith, length-take size (drop (row * size) bytes), length-drop (row * size) bytes)

-- ---- a row that was changed in place

-- it is what was put there
pub changed_row : {size : ℕ} (row : ℕ) {n : ℕ} (bytes part : List ℕ) {new : List ℕ} → n ≡ size → length part ≡ size → row * size + size ≤ length bytes
    → new ≡ put_mid (row * size) n bytes part → row_bytes size row new ≡ part
changed_row {size} row {n} bytes part fits long within is =
    let prefix = take (row * size) bytes in let rest = drop n (drop (row * size) bytes) in
    let before : length prefix ≡ row * size = length-take-le (row * size) bytes (omega arith) in
    ap (row_bytes size row) is ∙ ap (take size) (drop_at prefix (part ++ rest) (row * size) before) ∙ take_at part rest size long

-- those before it are as they were
pub row_before : (size row k n : ℕ) (bytes part : List ℕ) {new : List ℕ} → k < row → row * size + size ≤ length bytes
    → new ≡ put_mid (row * size) n bytes part → row_bytes size k new ≡ row_bytes size k bytes
row_before size row k n bytes part lt within is =
    let prefix = take (row * size) bytes in let rest = part ++ drop n (drop (row * size) bytes) in
    let before : length prefix ≡ row * size = length-take-le (row * size) bytes (omega arith) in
    let inside : k * size + size ≤ row * size = row_within row size k (row * size) refl lt in
    let gap = row * size - k * size in
    let whole : k * size + gap ≡ row * size = omega arith in
    let front : drop (k * size) prefix ≡ take gap (drop (k * size) bytes) =
    ap (λ (m : ℕ). drop (k * size) (take m bytes)) (sym whole) ∙ drop-take (k * size) gap bytes in
    ap (row_bytes size k) is ∙ ap (take size) (drop-append-le (k * size) prefix rest (omega arith))
    ∙ take-append-le size (drop (k * size) prefix) rest (omega (arith, length-drop (k * size) prefix))
    ∙ ap (take size) front ∙ take-take size gap (drop (k * size) bytes) (omega arith)

-- and so are those behind it
pub row_behind : {size : ℕ} (row k : ℕ) {n : ℕ} (bytes part : List ℕ) {new : List ℕ} → row < k → n ≡ size → length part ≡ size
    → row * size + size ≤ length bytes → new ≡ put_mid (row * size) n bytes part → row_bytes size k new ≡ row_bytes size k bytes
row_behind {size} row k {n} bytes part {new} lt fits long within is =
    let prefix = take (row * size) bytes in let rest = drop n (drop (row * size) bytes) in
    let before : length prefix ≡ row * size = length-take-le (row * size) bytes (omega arith) in
    let inside : row * size + size ≤ k * size = row_within k size row (k * size) refl lt in
    let gap = k * size - (row * size + size) in
    let whole : row * size + size + gap ≡ k * size = omega arith in
    let front : length (prefix ++ part) ≡ row * size + size = omega (arith, length-append prefix part) in
    let parts : new ≡ (prefix ++ part) ++ rest = is ∙ sym (append_assoc prefix part rest) in
    let here : drop (row * size + size) new ≡ rest =
    ap (drop (row * size + size)) parts ∙ drop_at (prefix ++ part) rest (row * size + size) front in
    let there : rest ≡ drop (row * size + size) bytes =
    drop-drop n (row * size) bytes ∙ ap (λ (m : ℕ). drop m bytes) (omega (arith, fits)) in
    ap (λ (m : ℕ). take size (drop m new)) (sym whole) ∙ ap (take size) (sym (drop-drop gap (row * size + size) new))
    ∙ ap (λ (l : List ℕ). take size (drop gap l)) (here ∙ there) ∙ ap (take size) (drop-drop gap (row * size + size) bytes)
    ∙ ap (λ (m : ℕ). take size (drop m bytes)) whole

-- ---- rows by their bytes

first_row : (each : ℕ) (bytes : List ℕ) → take each (all_pixels (row_bytes (bytes_for each) 0 bytes)) ≡ take each (all_pixels bytes)
first_row each bytes =
    let size = bytes_for each in
    let none : 0 * size ≡ 0 = omega (arith, zero-mul size) in
    ap (λ (m : ℕ). take each (all_pixels (take size (drop m bytes)))) none ∙ ap (take each) (sym (take-all_pixels size bytes))
    ∙ take-take each (8 * size) (all_pixels bytes) (omega arith)

next_row : (size row : ℕ) (bytes : List ℕ) → row_bytes size row (drop size bytes) ≡ row_bytes size (suc row) bytes
next_row size row bytes =
    let place : suc row * size ≡ size + row * size = omega (arith, suc-mul row size) in
    ap (take size) (drop-drop (row * size) size bytes ∙ ap (λ (m : ℕ). drop m bytes) (sym place))

-- each is a change of what it was
pub rows_changed : (f : List ℕ → List ℕ) (count each : ℕ) (old new : List ℕ)
    → ((row : ℕ) → row < count → take each (all_pixels (row_bytes (bytes_for each) row new)) ≡ f (take each (all_pixels (row_bytes (bytes_for each) row old))))
    → rows_of_bytes count each new ≡ map f (rows_of_bytes count each old)
rows_changed f zero each old new known = refl
rows_changed f (suc count) each old new known =
    let size = bytes_for each in
    ap₂ (λ (r : List ℕ) (l : List (List ℕ)). r ∷ l)
    (sym (first_row each new) ∙ known 0 (omega arith) ∙ ap f (first_row each old))
    (rows_changed f count each (drop size old) (drop size new) (λ row lt.
    ap (λ (l : List ℕ). take each (all_pixels l)) (next_row size row new) ∙ known (suc row) (omega arith)
    ∙ ap (λ (l : List ℕ). f (take each (all_pixels l))) (sym (next_row size row old))))

-- each is as it was
pub rows_kept : (count each : ℕ) (old new : List ℕ)
    → ((row : ℕ) → row < count → take each (all_pixels (row_bytes (bytes_for each) row new)) ≡ take each (all_pixels (row_bytes (bytes_for each) row old)))
    → rows_of_bytes count each new ≡ rows_of_bytes count each old
rows_kept zero each old new known = refl
rows_kept (suc count) each old new known =
    let size = bytes_for each in
    ap₂ (λ (r : List ℕ) (l : List (List ℕ)). r ∷ l)
    (sym (first_row each new) ∙ known 0 (omega arith) ∙ first_row each old)
    (rows_kept count each (drop size old) (drop size new) (λ row lt.
    ap (λ (l : List ℕ). take each (all_pixels l)) (next_row size row new) ∙ known (suc row) (omega arith)
    ∙ ap (λ (l : List ℕ). take each (all_pixels l)) (sym (next_row size row old))))

-- ---- rows that are changed in place one by one

-- of those that have passed each is a packed row that its bytes before give, and the others are as they were
pub record AreChanged (f : List ℕ → List ℕ) (passed count each : ℕ) (old new : List ℕ) : Type 0 where
  pub long : length new ≡ length old
  pub changed : (row : ℕ) → row < passed
      → take each (all_pixels (row_bytes (bytes_for each) row new)) ≡ f (row_bytes (bytes_for each) row old)
  pub packed : (row : ℕ) → row < passed → ArePacked each (row_bytes (bytes_for each) row new)
  pub left : (row : ℕ) → passed ≤ row → row_bytes (bytes_for each) row new ≡ row_bytes (bytes_for each) row old

pub none_changed : (f : List ℕ → List ℕ) (count each : ℕ) (old new : List ℕ) → new ≡ old → AreChanged f 0 count each old new
none_changed f count each old new is = record {
  long = ap length is;
  changed = λ row lt. absurd (omega (arith, lt));
  packed = λ row lt. absurd (omega (arith, lt));
  left = λ row le. ap (row_bytes (bytes_for each) row) is;
}

-- a row more
module _ (f : List ℕ → List ℕ) (row count each n : ℕ) (old now part new : List ℕ) (known : AreChanged f row count each old now)
    (lt : row < count) (size : length old ≡ count * bytes_for each) (fits : n ≡ bytes_for each) (long : length part ≡ bytes_for each)
    (is : new ≡ put_mid (row * bytes_for each) n now part)
    (made : take each (all_pixels part) ≡ f (row_bytes (bytes_for each) row now)) (packs : ArePacked each part) where
  within : row * bytes_for each + bytes_for each ≤ length now
  within = row_within count (bytes_for each) row (length now) (known.long ∙ size) lt

  here : row_bytes (bytes_for each) row new ≡ part
  here = changed_row row now part fits long within is

  whole : length new ≡ length now
  whole =
      let prefix = take (row * bytes_for each) now in let rest = drop n (drop (row * bytes_for each) now) in
      omega (
        arith,
        ap length is,
        length-append prefix (part ++ rest),
        length-append part rest,
        length-take-le (row * bytes_for each) now (omega (arith, within)),
        length-drop n (drop (row * bytes_for each) now),
        length-drop (row * bytes_for each) now,
        within,
        fits,
        long,
      )

  changed_by : (k : ℕ) → k < row + 1
      → take each (all_pixels (row_bytes (bytes_for each) k new)) ≡ f (row_bytes (bytes_for each) k old)
  changed_by k below = elim (cases_lt k row) [
    | inl before ↦ ap (λ (l : List ℕ). take each (all_pixels l)) (row_before (bytes_for each) row k n now part before within is) ∙ known.changed k before
    | inr after ↦
        let same : k ≡ row = omega (arith, below, after) in
        subst (λ (j : ℕ). take each (all_pixels (row_bytes (bytes_for each) j new)) ≡ f (row_bytes (bytes_for each) j old)) (sym same)
        (ap (λ (l : List ℕ). take each (all_pixels l)) here ∙ made
        ∙ ap f (known.left row (omega arith)))
  ]

  packed_by : (k : ℕ) → k < row + 1 → ArePacked each (row_bytes (bytes_for each) k new)
  packed_by k below = elim (cases_lt k row) [
    | inl before ↦ subst (ArePacked each) (sym (row_before (bytes_for each) row k n now part before within is)) (known.packed k before)
    | inr after ↦
        let same : k ≡ row = omega (arith, below, after) in
        subst (λ (j : ℕ). ArePacked each (row_bytes (bytes_for each) j new)) (sym same) (subst (ArePacked each) (sym here) packs)
  ]

  pub one_more_changed : AreChanged f (row + 1) count each old new
  one_more_changed = record {
    long = whole ∙ known.long;
    changed = changed_by;
    packed = packed_by;
    left = λ k le. row_behind row k now part (omega (arith, le)) fits long within is ∙ known.left k (omega (arith, le));
  }

-- all of them
pub all_changed : (f : List ℕ → List ℕ) {passed count each : ℕ} {old new : List ℕ}
    → AreChanged (λ row. f (take each (all_pixels row))) passed count each old new → count ≤ passed
    → rows_of_bytes count each new ≡ map f (rows_of_bytes count each old)
all_changed f {count} {each} {old} {new} known all = rows_changed f count each old new (λ row lt. known.changed row (omega (arith, lt, all)))

pub all_packed : (f : List ℕ → List ℕ) (passed count each : ℕ) (old new : List ℕ) → AreChanged f passed count each old new → count ≤ passed
    → length old ≡ count * bytes_for each → ArePackedRows count each new
all_packed f passed count each old new known all size = record {
  enough = known.long ∙ size;
  packed = λ row lt. known.packed row (omega (arith, lt, all));
}

-- ---- rows of whole bytes have no spare bits

pub whole_are_packed : (count each : ℕ) (bytes : List ℕ) → each % 8 ≡ 0 → length bytes ≡ count * bytes_for each → ArePackedRows count each bytes
whole_are_packed count each bytes whole size = record {
  enough = size;
  packed = λ row lt.
      let long : length (row_bytes (bytes_for each) row bytes) ≡ bytes_for each =
      length_of_row_bytes (bytes_for each) row bytes (row_within count (bytes_for each) row (length bytes) size lt) in
      whole_is_packed long (omega (arith, long, whole));
}

-- ---- a row by itself

only_row : (each : ℕ) (bytes : List ℕ) → length bytes ≡ bytes_for each → row_bytes (bytes_for each) 0 bytes ≡ bytes
only_row each bytes size =
    let none : 0 * bytes_for each ≡ 0 = omega (arith, zero-mul (bytes_for each)) in
    ap (λ (m : ℕ). take (bytes_for each) (drop m bytes)) none ∙ take_all (bytes_for each) bytes (omega (arith, size))

pub one_is_packed : (each : ℕ) (bytes : List ℕ) → ArePacked each bytes → ArePackedRows 1 each bytes
one_is_packed each bytes h = record {
  enough = omega (arith, h.enough);
  packed = λ row lt.
      let first : row ≡ 0 = omega (arith, lt) in
      subst (ArePacked each) (sym (ap (λ (k : ℕ). row_bytes (bytes_for each) k bytes) first ∙ only_row each bytes h.enough)) h;
}

-- the pixels of a row are those of its bytes
pub pixels_of_row : (count each row : ℕ) (bytes : List ℕ) → row < count
    → take each (all_pixels (row_bytes (bytes_for each) row bytes)) ≡ get_or (rows_of_bytes count each bytes) row []
pixels_of_row count each row bytes lt =
    let here = drop (row * bytes_for each) bytes in
    ap (take each) (sym (take-all_pixels (bytes_for each) here)) ∙ take-take each (8 * bytes_for each) (all_pixels here) (omega arith)
    ∙ sym (row_lies count each row bytes lt)

-- ---- the bytes of rows

front_fits : (size : ℕ) (bytes : List ℕ) → AreBytes bytes → AreBytes (take size bytes)
front_fits size bytes fit k = elim (cases_lt k size) [
  | inl before ↦ subst (λ (b : ℕ). Fits w8 b) (sym (get_or-take size bytes k 0 before)) (fit k)
  | inr after ↦ subst (λ (b : ℕ). Fits w8 b) (sym (get_or_past (take size bytes) k 0 (omega (arith, after, length-take size bytes)))) (omega arith)
]

rest_fits : (size : ℕ) (bytes : List ℕ) → AreBytes bytes → AreBytes (drop size bytes)
rest_fits size bytes fit k = subst (λ (b : ℕ). Fits w8 b) (sym (get_or-drop size bytes k 0)) (fit (size + k))

next_packed : (count each : ℕ) (bytes : List ℕ) → ArePackedRows (suc count) each bytes → ArePackedRows count each (drop (bytes_for each) bytes)
next_packed count each bytes h = record {
  enough = omega (arith, length-drop (bytes_for each) bytes, h.enough, suc-mul count (bytes_for each));
  packed = λ row lt. subst (ArePacked each) (sym (next_row (bytes_for each) row bytes)) (h.packed (suc row) (omega (arith, lt)));
}

pub bytes_of_rows : (count : ℕ) {each : ℕ} (bytes : List ℕ) → ArePackedRows count each bytes → AreBytes bytes
    → bytes ≡ flat_map packed_bytes (rows_of_bytes count each bytes)
bytes_of_rows zero {each} bytes h fit = nil_from_length bytes (omega (arith, h.enough, zero-mul (bytes_for each)))
bytes_of_rows (suc count) {each} bytes h fit =
    let size = bytes_for each in
    let none : 0 * size ≡ 0 = omega (arith, zero-mul size) in
    let front : row_bytes size 0 bytes ≡ take size bytes = ap (λ (m : ℕ). take size (drop m bytes)) none in
    let packed : ArePacked each (take size bytes) = subst (ArePacked each) front (h.packed 0 (omega arith)) in
    let first : take size bytes ≡ packed_bytes (take each (all_pixels bytes)) =
    packed_view each (take size bytes) (take each (all_pixels bytes)) packed (front_fits size bytes fit)
    (ap (take each) (sym (take-all_pixels size bytes)) ∙ take-take each (8 * size) (all_pixels bytes) (omega arith)) in
    sym (take-append-drop size bytes)
    ∙ ap₂ (λ (a b : List ℕ). a ++ b) first (bytes_of_rows count (drop size bytes) (next_packed count each bytes h) (rest_fits size bytes fit))

-- the first of them
pub first_of_rows : (count : ℕ) {each n : ℕ} (bytes : List ℕ) → 0 < count → n ≡ each
    → take n (all_pixels bytes) ≡ get_or (rows_of_bytes count each bytes) 0 []
first_of_rows count {each} bytes some is = ap (λ (k : ℕ). take k (all_pixels bytes)) is ∙ sym (first_row each bytes) ∙ pixels_of_row count each 0 bytes some

pub first_of_none : (count each : ℕ) {n : ℕ} (bytes : List ℕ) → count ≤ 0 → n ≡ 0 → take n (all_pixels bytes) ≡ get_or (rows_of_bytes count each bytes) 0 []
first_of_none zero each bytes none is = ap (λ (k : ℕ). take k (all_pixels bytes)) is
first_of_none (suc count) each bytes none is = absurd (omega (arith, none))

-- ---- rows behind others

pub counted : (a b size : ℕ) → a * size + b * size ≡ (a + b) * size
counted a b size = omega arith

pub packed_behind : (count more each : ℕ) (bytes rest : List ℕ) → ArePackedRows count each bytes → ArePackedRows more each rest
    → ArePackedRows (count + more) each (bytes ++ rest)
packed_behind count more each bytes rest h r = record {
  enough = omega (arith, length-append bytes rest, h.enough, r.enough);
  packed = λ row lt.
      let size = bytes_for each in
      elim (cases_lt row count) [
        | inl before ↦
            let within = row_within count size row (length bytes) h.enough before in
            let same : row_bytes size row (bytes ++ rest) ≡ row_bytes size row bytes =
            ap (take size) (drop-append-le (row * size) bytes rest (omega (arith, within)))
            ∙ take-append-le size (drop (row * size) bytes) rest (omega (arith, within, length-drop (row * size) bytes)) in
            subst (ArePacked each) (sym same) (h.packed row before)
        | inr after ↦
            let k = row - count in
            let whole : length bytes + k * size ≡ row * size =
            ap (λ (m : ℕ). m + k * size) h.enough ∙ counted count k size ∙ ap (λ (m : ℕ). m * size) (omega (arith, after)) in
            let same : row_bytes size row (bytes ++ rest) ≡ row_bytes size k rest =
            ap (λ (m : ℕ). take size (drop m (bytes ++ rest))) (sym whole) ∙ ap (take size) (sym (drop-drop (k * size) (length bytes) (bytes ++ rest))
            ∙ ap (drop (k * size)) (drop_at bytes rest (length bytes) refl)) in
            subst (ArePacked each) (sym same) (r.packed k (omega (arith, lt, after)))
      ];
}

-- ---- rows that were inverted

inverted_behind : (n : ℕ) (old new : List ℕ) → all_pixels new ≡ map (λ s. 1 - s) (all_pixels old)
    → all_pixels (drop n new) ≡ map (λ s. 1 - s) (all_pixels (drop n old))
inverted_behind n old new known =
    sym (drop-all_pixels n new) ∙ ap (drop (8 * n)) known ∙ drop-map (λ s. 1 - s) (8 * n) (all_pixels old) ∙ ap (map (λ s. 1 - s)) (drop-all_pixels n old)

pub rows_inverted : (count each : ℕ) (old new : List ℕ) → all_pixels new ≡ map (λ s. 1 - s) (all_pixels old)
    → rows_of_bytes count each new ≡ map (map (λ s. 1 - s)) (rows_of_bytes count each old)
rows_inverted zero each old new known = refl
rows_inverted (suc count) each old new known =
    ap₂ (λ (r : List ℕ) (l : List (List ℕ)). r ∷ l)
    (ap (take each) known ∙ take-map (λ s. 1 - s) each (all_pixels old))
    (rows_inverted count each (drop (bytes_for each) old) (drop (bytes_for each) new) (inverted_behind (bytes_for each) old new known))
