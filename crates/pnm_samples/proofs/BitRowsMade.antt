-- Rows of packed pixels that are made of others.
use Rattle.pnm_samples.proofs.Words.{◌≡◌, ℕ, zero, suc, ◌+◌, ◌-◌, ◌*◌, ◌%◌, ◌<◌, ◌≤◌, List, [], ◌∷◌, ◌++◌, get_or, length, take, drop, map, replicate, reverse}
use Rattle.pnm_samples.proofs.Words.{refl, sym, ap, ap₂, subst, ◌∙◌, arith, suc-mul, zero-mul, mul-le-mul, inl, inr, All, cases_lt, append_assoc}
use Rattle.pnm_samples.proofs.Words.{drop-append-le, drop_at, ext_get_or, get_or-drop, get_or-map, get_or-reverse, get_or-take, length-append, length-drop}
use Rattle.pnm_samples.proofs.Words.{length-map, length-replicate, length-reverse, length-take, length-take-le, reverse-append, take-append-drop}
use Rattle.pnm_samples.proofs.Words.{take-append-le, take-take, take_all, take_at, take_more, drop_all, append-nil, All-take, All-drop, drop-append-add}
use Rattle.pnm_samples.proofs.Words.{take-append-add, put_mid, concat, row_bytes, ArePackedRows, cut_rows, last_first, bytes_for, rows_of_bytes, all_pixels}
use Rattle.pnm_samples.proofs.Words.{packed_bytes, ArePacked}
use Rattle.pnm_samples.proofs.BitRowLaws.{changed_row, length_of_row_bytes, pixels_of_row, row_before, row_within}
use Rattle.pnm_samples.proofs.CutLaws.{length-cut_rows, row_of_cut}
use Rattle.pnm_samples.proofs.MirrorLaws.{turned_parts}
use Rattle.pnm_samples.proofs.PackedAgain.{packed_again}
use Rattle.pnm_samples.proofs.PixelLaws.{drop-all_pixels, length-all_pixels, take-all_pixels}
use Rattle.pnm_samples.proofs.PixelRowsLaws.{length_of_rows, row_lies}
use Rattle.pnm_samples.proofs.RepeatLaws.{repeated, take_repeated}
use Rattle.pnm_samples.proofs.RowOrderLaws.{last_first_long, row_of_last_first}

-- rows by the pixels of each
pub rows_are : {count : ℕ} (each : ℕ) (bytes : List ℕ) (rows : List (List ℕ)) → length rows ≡ count
    → ((row : ℕ) → row < count → take each (all_pixels (row_bytes (bytes_for each) row bytes)) ≡ get_or rows row []) → rows_of_bytes count each bytes ≡ rows
rows_are {count} each bytes rows many known =
    let all = length_of_rows count each bytes in
    ext_get_or [] (rows_of_bytes count each bytes) rows (all ∙ sym many) (λ k lt.
    let below : k < count = omega (arith, lt, all) in
    sym (pixels_of_row count each k bytes below) ∙ known k below)

-- ---- rows with white pixels at their starts

-- of a row they are moved to its end
module _ (each spare : ℕ) (row part : List ℕ) (long : length row ≡ bytes_for each) (is : spare ≡ (8 - each % 8) % 8)
    (white : take spare (all_pixels row) ≡ replicate spare 1)
    (moved : (rest : List ℕ) → all_pixels row ≡ replicate spare 1 ++ rest → all_pixels part ≡ rest ++ replicate spare 1) where
  ends : all_pixels part ≡ drop spare (all_pixels row) ++ replicate spare 1
  ends = moved (drop spare (all_pixels row)) (sym (take-append-drop spare (all_pixels row)) ∙ ap (λ (l : List ℕ). l ++ drop spare (all_pixels row)) white)

  left : length (drop spare (all_pixels row)) ≡ each
  left = omega (arith, length-drop spare (all_pixels row), length-all_pixels row, long, is)

  pub moved_row : take each (all_pixels part) ≡ drop spare (all_pixels row)
  moved_row = ap (take each) ends ∙ take_at (drop spare (all_pixels row)) (replicate spare 1) each left

  pub moved_is_packed : ArePacked each part
  moved_is_packed =
      let size : 8 * length part ≡ each + spare = sym (length-all_pixels part) ∙ ap length ends
      ∙ length-append (drop spare (all_pixels row)) (replicate spare 1)
      ∙ ap₂ (λ (a b : ℕ). a + b) left (length-replicate spare 1) in
      let behind : spare ≡ 8 * length part - each = omega (arith, size) in
      record {
        enough = omega (arith, size, is);
        spare = ap (drop each) ends ∙ drop_at (drop spare (all_pixels row)) (replicate spare 1) each left ∙ ap (λ (k : ℕ). replicate k 1) behind;
      }

-- there are none of them
pub none_moved : (each : ℕ) (row : List ℕ) → each % 8 ≡ 0 → length row ≡ bytes_for each
    → take each (all_pixels row) ≡ drop ((8 - each % 8) % 8) (all_pixels row)
none_moved each row whole long =
    let none : (8 - each % 8) % 8 ≡ 0 = omega (arith, whole) in
    take_all each (all_pixels row) (omega (arith, length-all_pixels row, long, whole)) ∙ ap (λ (k : ℕ). drop k (all_pixels row)) (sym none)

-- ---- rows that were turned round

-- what lies so far from the end, from the start on
middle_of_reverse : (a b : ℕ) (xs : List ℕ) → a + b ≤ length xs → take b (drop (length xs - (a + b)) (reverse xs)) ≡ reverse (take b (drop a xs))
middle_of_reverse a b xs le =
    let front = take a xs in let middle = take b (drop a xs) in let back = drop b (drop a xs) in
    let gap = length xs - (a + b) in
    let behind : length (reverse back) ≡ gap = omega (arith, length-reverse back, length-drop b (drop a xs), length-drop a xs, le) in
    let inside : length (reverse middle) ≡ b = omega (arith, length-reverse middle, length-take b (drop a xs), length-drop a xs, le) in
    let parts : reverse xs ≡ reverse back ++ (reverse middle ++ reverse front) =
    ap reverse (sym (take-append-drop a xs) ∙ ap (λ (l : List ℕ). front ++ l) (sym (take-append-drop b (drop a xs))))
    ∙ reverse-append front (middle ++ back) ∙ ap (λ (l : List ℕ). l ++ reverse front) (reverse-append middle back)
    ∙ append_assoc (reverse back) (reverse middle) (reverse front) in
    ap (λ (l : List ℕ). take b (drop gap l)) parts ∙ ap (take b) (drop_at (reverse back) (reverse middle ++ reverse front) gap behind)
    ∙ take_at (reverse middle) (reverse front) b inside

-- the pixels of a row's bytes
pixels_within : (size row : ℕ) (bytes : List ℕ) → all_pixels (row_bytes size row bytes) ≡ take (8 * size) (drop (8 * (row * size)) (all_pixels bytes))
pixels_within size row bytes =
    sym (take-all_pixels size (drop (row * size) bytes)) ∙ ap (take (8 * size)) (sym (drop-all_pixels (row * size) bytes))

counted : (row k size : ℕ) → row * size + size + k * size ≡ (row + 1 + k) * size
counted row k size = omega arith

-- all were turned round at once
row_turned : (count size row : ℕ) (old turned : List ℕ) → length old ≡ count * size → all_pixels turned ≡ reverse (all_pixels old) → row < count
    → all_pixels (row_bytes size row turned) ≡ reverse (all_pixels (row_bytes size (count - 1 - row) old))
row_turned count size row old turned long is lt =
    let k = count - 1 - row in
    let p = all_pixels old in
    let all : row + 1 + k ≡ count = omega (arith, lt) in
    let whole : row * size + size + k * size ≡ count * size =
    counted row k size ∙ ap (λ (m : ℕ). m * size) all in
    let pixels : length p ≡ 8 * (count * size) = length-all_pixels old ∙ ap (λ (m : ℕ). 8 * m) long in
    let place : 8 * (row * size) ≡ length p - (8 * (k * size) + 8 * size) = omega (arith, pixels, whole) in
    pixels_within size row turned ∙ ap (λ (l : List ℕ). take (8 * size) (drop (8 * (row * size)) l)) is
    ∙ ap (λ (m : ℕ). take (8 * size) (drop m (reverse p))) place
    ∙ middle_of_reverse (8 * (k * size)) (8 * size) p (omega (arith, pixels, whole))
    ∙ ap reverse (sym (pixels_within size k old))

module _ (count each : ℕ) (old turned : List ℕ) (h : ArePackedRows count each old) (is : all_pixels turned ≡ reverse (all_pixels old)) where
  turned_row : (row : ℕ) → row < count → all_pixels (row_bytes (bytes_for each) row turned)
      ≡ replicate ((8 - each % 8) % 8) 1 ++ reverse (take each (all_pixels (row_bytes (bytes_for each) (count - 1 - row) old)))
  turned_row row lt =
      let from = row_bytes (bytes_for each) (count - 1 - row) old in
      row_turned count (bytes_for each) row old turned h.enough is lt
      ∙ turned_parts (h.packed (count - 1 - row) (omega arith)) refl

  pub turned_begin_white : (row : ℕ) → row < count
      → take ((8 - each % 8) % 8) (all_pixels (row_bytes (bytes_for each) row turned)) ≡ replicate ((8 - each % 8) % 8) 1
  turned_begin_white row lt =
      let spare = (8 - each % 8) % 8 in
      let value = take each (all_pixels (row_bytes (bytes_for each) (count - 1 - row) old)) in
      ap (take spare) (turned_row row lt) ∙ take_at (replicate spare 1) (reverse value) spare (length-replicate spare 1)

  pub rows_turned : (new : List ℕ)
      → ((row : ℕ) → row < count → take each (all_pixels (row_bytes (bytes_for each) row new))
      ≡ drop ((8 - each % 8) % 8) (all_pixels (row_bytes (bytes_for each) row turned)))
      → rows_of_bytes count each new ≡ reverse (map reverse (rows_of_bytes count each old))
  rows_turned new moved =
      let rows = rows_of_bytes count each old in
      let many : length rows ≡ count = length_of_rows count each old in
      let mapped : length (map (λ (l : List ℕ). reverse l) rows) ≡ count = length-map rows (λ (l : List ℕ). reverse l) ∙ many in
      rows_are each new (reverse (map (λ (l : List ℕ). reverse l) rows)) (length-reverse (map (λ (l : List ℕ). reverse l) rows) ∙ mapped) (λ row lt.
      let k = count - 1 - row in
      let spare = (8 - each % 8) % 8 in
      let value = take each (all_pixels (row_bytes (bytes_for each) k old)) in
      let place : length (map (λ (l : List ℕ). reverse l) rows) - 1 - row ≡ k = omega (arith, mapped) in
      moved row lt ∙ ap (drop spare) (turned_row row lt) ∙ drop_at (replicate spare 1) (reverse value) spare (length-replicate spare 1)
      ∙ ap (λ (l : List ℕ). reverse l) (pixels_of_row count each k old (omega arith))
      ∙ sym (get_or-reverse (map (λ (l : List ℕ). reverse l) rows) row [] (omega (arith, mapped, lt))
      ∙ ap (λ (m : ℕ). get_or (map (λ (l : List ℕ). reverse l) rows) m []) place
      ∙ get_or-map (λ (l : List ℕ). reverse l) rows k [] [] (omega (arith, many, lt))))

-- ---- the samples of rows, one after another

concat_more : (rows : List (List ℕ)) (row : List ℕ) → concat (rows ++ row ∷ []) ≡ concat rows ++ row
concat_more [] row = append-nil row
concat_more (r ∷ rows) row = ap (λ (l : List ℕ). r ++ l) (concat_more rows row) ∙ sym (append_assoc r (concat rows) row)

-- a row more was stored, with its spare pixels behind it
pub samples_of_row_more : (count each row n : ℕ) (bytes buffer : List ℕ) {stored part : List ℕ} → row < count → part ≡ row_bytes (bytes_for each) row bytes
    → length bytes ≡ count * bytes_for each → row * each ≤ length buffer → take (row * each) buffer ≡ concat (take row (rows_of_bytes count each bytes))
    → stored ≡ all_pixels part → take ((row + 1) * each) (put_mid (row * each) n buffer stored) ≡ concat (take (row + 1) (rows_of_bytes count each bytes))
samples_of_row_more count each row n bytes buffer {stored} {part} lt is long room known pixels =
    let rows = rows_of_bytes count each bytes in
    let size = bytes_for each in
    let before = take (row * each) buffer in
    let rest = drop n (drop (row * each) buffer) in
    let whole : length before ≡ row * each = length-take-le (row * each) buffer room in
    let row_long = length_of_row_bytes size row bytes (row_within count size row (length bytes) long lt) in
    let enough : each ≤ length stored = omega (arith, ap length pixels, length-all_pixels part, ap length is, row_long) in
    let more : (row + 1) * each ≡ length before + each = omega (arith, whole) in
    ap (λ (m : ℕ). take m (before ++ (stored ++ rest))) more ∙ take-append-add before (stored ++ rest) each
    ∙ ap₂ (λ (a b : List ℕ). a ++ b) known
    (take-append-le each stored rest enough ∙ ap (take each) (pixels ∙ ap all_pixels is) ∙ pixels_of_row count each row bytes lt)
    ∙ sym (concat_more (take row rows) (get_or rows row [])) ∙ ap concat (sym (take_more rows row [] (omega (arith, lt, length_of_rows count each bytes))))

-- all of them
pub samples_of_all : (count each row total : ℕ) (bytes samples : List ℕ) → count ≤ row → row ≤ count → total ≡ count * each
    → take (row * each) samples ≡ concat (take row (rows_of_bytes count each bytes)) → take total samples ≡ concat (rows_of_bytes count each bytes)
samples_of_all count each row total bytes samples all most is known =
    let rows = rows_of_bytes count each bytes in
    let last : row ≡ count = omega (arith, all, most) in
    ap (λ (m : ℕ). take m samples) (is ∙ sym (ap (λ (m : ℕ). m * each) last)) ∙ known
    ∙ ap concat (take_all row rows (omega (arith, all, length_of_rows count each bytes)))

-- ---- rows that are filled one by one

-- this holds of the bytes of the rows that have passed
pub record AreFilled (Holds : ℕ → List ℕ → Type 0) (passed count size : ℕ) (bytes : List ℕ) : Type 0 where
  pub long : length bytes ≡ count * size
  pub rows : (row : ℕ) → row < passed → Holds row (row_bytes size row bytes)

-- a row more
pub one_more_filled : {Holds : ℕ → List ℕ → Type 0} {row count size : ℕ} {now : List ℕ} (part : List ℕ) {new : List ℕ} → AreFilled Holds row count size now
    → row < count → length part ≡ size → new ≡ put_mid (row * size) size now part → Holds row part → AreFilled Holds (row + 1) count size new
one_more_filled {Holds} {row} {count} {size} {now} part {new} known lt long is made =
    let within : row * size + size ≤ length now = row_within count size row (length now) known.long lt in
    let prefix = take (row * size) now in let rest = drop size (drop (row * size) now) in
    record {
      long = omega (
        arith,
        ap length is,
        length-append prefix (part ++ rest),
        length-append part rest,
        length-take-le (row * size) now (omega (arith, within)),
        length-drop size (drop (row * size) now),
        length-drop (row * size) now,
        within,
        long,
        known.long,
      );
      rows = λ k below. elim (cases_lt k row) [
        | inl before ↦ subst (Holds k) (sym (row_before size row k size now part before within is)) (known.rows k before)
        | inr after ↦
            let same : row ≡ k = omega (arith, below, after) in
            subst (λ (j : ℕ). Holds j (row_bytes size j new)) same (subst (Holds row) (sym (changed_row row now part refl long within is)) made)
      ];
    }

-- ---- rows that are packed one by one

-- they fit where their pixels do
pub packed_fit : (count each : ℕ) {size long : ℕ} → long ≡ count * each → size ≡ bytes_for each → count * size ≤ long
packed_fit count each {size} is fits =
    let most : count * size ≤ count * each = mul-le-mul {n₁ = count} {m₁ = size} {n₂ = count} {m₂ = each} (omega arith) (omega (arith, fits)) in
    omega (arith, most, is)

-- the bytes of a row of these pixels
abbrev pub IsPacked : ℕ → List ℕ → ℕ → List ℕ → Type 0
IsPacked each pixels row bytes = bytes ≡ packed_bytes (take each (drop (row * each) pixels))

module _ (count each passed : ℕ) (pixels bytes : List ℕ) (long : length pixels ≡ count * each) (fit : All (λ sample. sample ≤ 1) pixels) (all : count ≤ passed)
    (known : AreFilled (IsPacked each pixels) passed count (bytes_for each) bytes) where
  row_packed : (row : ℕ) → row < count → ArePacked each (row_bytes (bytes_for each) row bytes)
      × (take each (all_pixels (row_bytes (bytes_for each) row bytes)) ≡ take each (drop (row * each) pixels))
  row_packed row lt =
      let part = take each (drop (row * each) pixels) in
      let size = length_of_row_bytes each row pixels (row_within count each row (length pixels) long lt) in
      let packed = packed_again size (All-take (λ sample. sample ≤ 1) each (drop (row * each) pixels)
      (All-drop (λ sample. sample ≤ 1) (row * each) pixels fit)) in
      subst (λ (l : List ℕ). ArePacked each l × (take each (all_pixels l) ≡ part)) (sym (known.rows row (omega (arith, lt, all)))) packed

  pub rows_are_packed : ArePackedRows count each bytes
  rows_are_packed = record {
    enough = known.long;
    packed = λ row lt. (row_packed row lt).0;
  }

  pub rows_of_packed : rows_of_bytes count each bytes ≡ cut_rows count each pixels
  rows_of_packed = rows_are each bytes (cut_rows count each pixels) (length-cut_rows count each pixels) (λ row lt.
      (row_packed row lt).1 ∙ row_of_cut count each row pixels lt)

-- ---- rows that come together of others' bytes

-- the rows that have passed, each of so many bytes
pub record AreCopied (parts : ℕ → List ℕ) (passed size : ℕ) (bytes : List ℕ) : Type 0 where
  pub long : length bytes ≡ passed * size
  pub rows : (row : ℕ) → row < passed → row_bytes size row bytes ≡ parts row

-- a row more
pub one_more_copied : (parts : ℕ → List ℕ) (passed size : ℕ) (bytes part new : List ℕ) → AreCopied parts passed size bytes → part ≡ parts passed
    → length part ≡ size → new ≡ bytes ++ part → AreCopied parts (passed + 1) size new
one_more_copied parts passed size bytes part new known is long more = record {
  long = ap length more ∙ length-append bytes part ∙ ap₂ (λ (a b : ℕ). a + b) known.long long ∙ omega arith;
  rows = λ row lt. elim (cases_lt row passed) [
    | inl before ↦
        let within : row * size + size ≤ length bytes = row_within passed size row (length bytes) known.long before in
        ap (row_bytes size row) more ∙ ap (take size) (drop-append-le (row * size) bytes part (omega (arith, within)))
        ∙ take-append-le size (drop (row * size) bytes) part (omega (arith, within, length-drop (row * size) bytes)) ∙ known.rows row before
    | inr after ↦
        let same : passed ≡ row = omega (arith, lt, after) in
        subst (λ (j : ℕ). row_bytes size j new ≡ parts j) same
        (ap (row_bytes size passed) more ∙ ap (take size) (drop_at bytes part (passed * size) known.long) ∙ take_all size part (omega (arith, long)) ∙ is)
  ];
}

-- ---- a part of rows

-- the place of a row, and how long it is
pub row_of_rows : (held whole row : ℕ) (bytes : List ℕ) (rows : List (List ℕ)) → rows_of_bytes held whole bytes ≡ rows → length bytes ≡ held * bytes_for whole
    → row < length rows → (row < held) × (length (get_or rows row []) ≡ whole)
    × (take whole (all_pixels (row_bytes (bytes_for whole) row bytes)) ≡ get_or rows row [])
row_of_rows held whole row bytes rows is long lt =
    let below : row < held = omega (arith, lt, length_of_rows held whole bytes, ap length is) in
    let pixels = pixels_of_row held whole row bytes below ∙ ap (λ (l : List (List ℕ)). get_or l row []) is in
    let size = length_of_row_bytes (bytes_for whole) row bytes (row_within held (bytes_for whole) row (length bytes) long below) in
    let here = row_bytes (bytes_for whole) row bytes in (
      below,
      ap length (sym pixels) ∙ length-take-le whole (all_pixels here) (omega (arith, length-all_pixels here, size)),
      pixels,
    )

-- they have no more bytes
pub part_fits : (held whole top count left each : ℕ) (bytes : List ℕ) {rows : List (List ℕ)} → rows_of_bytes held whole bytes ≡ rows
    → length bytes ≡ held * bytes_for whole → top + count ≤ length rows → ((k : ℕ) → k < length rows → left + each ≤ length (get_or rows k []))
    → count * bytes_for each ≤ length bytes
part_fits held whole top zero left each bytes is long within inside = omega (arith, zero-mul (bytes_for each))
part_fits held whole top (suc count) left each bytes {rows} is long within inside =
    let row = row_of_rows held whole 0 bytes rows is long (omega (arith, within)) in
    let narrow : left + each ≤ length (get_or rows 0 []) = inside 0 (omega (arith, within)) in
    let fewer : suc count ≤ held = omega (arith, within, length_of_rows held whole bytes, ap length is) in
    let wide : bytes_for each ≤ bytes_for whole = omega (arith, narrow, row.1) in
    let most : suc count * bytes_for each ≤ held * bytes_for whole =
    mul-le-mul {n₁ = suc count} {m₁ = bytes_for each} {n₂ = held} {m₂ = bytes_for whole} fewer wide in
    omega (arith, most, long)

-- the bytes of a row of them
abbrev pub HasPixels : ℕ → (ℕ → List ℕ) → ℕ → List ℕ → Type 0
HasPixels each pixels row bytes = take each (all_pixels bytes) ≡ pixels row

-- all of them
pub part_is : (top count left each passed : ℕ) (bytes : List ℕ) (rows : List (List ℕ)) → top + count ≤ length rows → count ≤ passed
    → AreFilled (HasPixels each (λ (k : ℕ). take each (drop left (get_or rows (top + k) [])))) passed count (bytes_for each) bytes
    → rows_of_bytes count each bytes ≡ map (λ row. take each (drop left row)) (take count (drop top rows))
part_is top count left each passed bytes rows within all known =
    let those = take count (drop top rows) in
    let many : length those ≡ count = omega (arith, length-take count (drop top rows), length-drop top rows, within) in
    rows_are each bytes (map (λ (row : List ℕ). take each (drop left row)) those) (length-map those (λ (row : List ℕ). take each (drop left row)) ∙ many)
    (λ k lt. known.rows k (omega (arith, lt, all))
    ∙ ap (λ (row : List ℕ). take each (drop left row)) (sym (get_or-take count (drop top rows) k [] lt ∙ get_or-drop top rows k []))
    ∙ sym (get_or-map (λ (row : List ℕ). take each (drop left row)) those k [] [] (omega (arith, many, lt))))

-- ---- rows in the other order

module _ (count each : ℕ) (old new : List ℕ) (h : ArePackedRows count each old) (is : new ≡ last_first count (bytes_for each) old) where
  reversed_row : (row : ℕ) → row < count → row_bytes (bytes_for each) row new ≡ row_bytes (bytes_for each) (count - 1 - row) old
  reversed_row row lt = ap (row_bytes (bytes_for each) row) is ∙ row_of_last_first count (bytes_for each) row old h.enough lt

  pub reversed_are_packed : ArePackedRows count each new
  reversed_are_packed = record {
    enough = ap length is ∙ last_first_long count (bytes_for each) old h.enough;
    packed = λ row lt. subst (ArePacked each) (sym (reversed_row row lt)) (h.packed (count - 1 - row) (omega (arith, lt)));
  }

  pub rows_reversed : rows_of_bytes count each new ≡ reverse (rows_of_bytes count each old)
  rows_reversed =
      let rows = rows_of_bytes count each old in
      let many : length rows ≡ count = length_of_rows count each old in
      rows_are each new (reverse rows) (length-reverse rows ∙ many) (λ row lt.
      let place : length rows - 1 - row ≡ count - 1 - row = omega (arith, many) in
      ap (λ (l : List ℕ). take each (all_pixels l)) (reversed_row row lt) ∙ pixels_of_row count each (count - 1 - row) old (omega (arith, lt))
      ∙ sym (get_or-reverse rows row [] (omega (arith, many, lt)) ∙ ap (λ (m : ℕ). get_or rows m []) place))

-- ---- rows of which each pixel stands several times

drop_repeated : (times k : ℕ) (xs : List ℕ) → drop (k * times) (repeated times xs) ≡ repeated times (drop k xs)
drop_repeated times zero xs =
    let none : zero * times ≡ zero = omega arith in
    ap (λ (k : ℕ). drop k (repeated times xs)) none
drop_repeated times (suc k) [] = drop_all (suc k * times) [] (omega arith)
drop_repeated times (suc k) (x ∷ xs) =
    let more : suc k * times ≡ length (replicate times x) + k * times = omega (arith, length-replicate times x) in
    ap (λ (m : ℕ). drop m (replicate times x ++ repeated times xs)) more ∙ drop-append-add (replicate times x) (repeated times xs) (k * times)
    ∙ drop_repeated times k xs

product_of_three : (a b c : ℕ) → a * (b * c) ≡ a * b * c
product_of_three a b c = omega arith

-- a row of them, where each has the bytes of all its pixels
module _ (times count each apart : ℕ) (old wide : List ℕ) (is : all_pixels wide ≡ repeated times (all_pixels old))
    (bytes : apart ≡ bytes_for each * times) where
  wide_row : (row : ℕ) → take (each * times) (all_pixels (drop (row * apart) wide))
      ≡ repeated times (take each (all_pixels (drop (row * bytes_for each) old)))
  wide_row row =
      let place : 8 * (row * apart) ≡ 8 * (row * bytes_for each) * times =
      ap (λ (k : ℕ). 8 * (row * k)) bytes ∙ ap (λ (k : ℕ). 8 * k) (product_of_three row (bytes_for each) times)
      ∙ product_of_three 8 (row * bytes_for each) times in
      ap (take (each * times)) (sym (drop-all_pixels (row * apart) wide) ∙ ap (drop (8 * (row * apart))) is
      ∙ ap (λ (m : ℕ). drop m (repeated times (all_pixels old))) place ∙ drop_repeated times (8 * (row * bytes_for each)) (all_pixels old)
      ∙ ap (repeated times) (drop-all_pixels (row * bytes_for each) old))
      ∙ take_repeated times each (all_pixels (drop (row * bytes_for each) old))

  -- the first bytes of each are enough
  pub rows_widened : (new : List ℕ) → ((row : ℕ) → row < count → row_bytes (bytes_for (each * times)) row new
      ≡ take (bytes_for (each * times)) (drop (row * apart) wide))
      → rows_of_bytes count (each * times) new ≡ map (repeated times) (rows_of_bytes count each old)
  rows_widened new known =
      let rows = rows_of_bytes count each old in
      let size = bytes_for (each * times) in
      let many : length rows ≡ count = length_of_rows count each old in
      rows_are (each * times) new (map (repeated times) rows) (length-map rows (repeated times) ∙ many) (λ row lt.
      let here = drop (row * apart) wide in
      ap (λ (l : List ℕ). take (each * times) (all_pixels l)) (known row lt)
      ∙ ap (take (each * times)) (sym (take-all_pixels size here)) ∙ take-take (each * times) (8 * size) (all_pixels here) (omega arith)
      ∙ wide_row row ∙ ap (repeated times) (sym (row_lies count each row old lt))
      ∙ sym (get_or-map (repeated times) rows row [] [] (omega (arith, many, lt))))

length_of_repeated : (times : ℕ) (xs : List ℕ) → length (repeated times xs) ≡ length xs * times
length_of_repeated times [] = sym (zero-mul times)
length_of_repeated times (x ∷ xs) =
    omega (
      arith,
      length-append (replicate times x) (repeated times xs),
      length-replicate times x,
      length_of_repeated times xs,
      suc-mul (length xs) times,
    )

-- all pixels of bytes, each so many times
module _ (times n : ℕ) (bytes copied pixels value wide : List ℕ) (all : n ≡ length bytes * 8) (same : copied ≡ bytes)
    (held : pixels ≡ take n (all_pixels copied)) (made : value ≡ repeated times pixels)
    (is : value ≡ take (length value) (all_pixels wide)) (h : ArePacked (length value) wide) where
  those : value ≡ repeated times (all_pixels bytes)
  those = made ∙ ap (repeated times) (held ∙ ap (λ (l : List ℕ). take n (all_pixels l)) same
      ∙ take_all n (all_pixels bytes) (omega (arith, length-all_pixels bytes, all)))

  many : length value ≡ 8 * (length bytes * times)
  many = ap length those ∙ length_of_repeated times (all_pixels bytes) ∙ ap (λ (k : ℕ). k * times) (length-all_pixels bytes)
      ∙ sym (product_of_three 8 (length bytes) times)

  pub length_of_wide : length wide ≡ length bytes * times
  length_of_wide = omega (arith, h.enough, many)

  pub pixels_of_wide : all_pixels wide ≡ repeated times (all_pixels bytes)
  pixels_of_wide =
      sym (take_all (length value) (all_pixels wide) (omega (arith, length-all_pixels wide, length_of_wide, many))) ∙ sym is ∙ those

-- a row of them has no fewer bytes than its pixels need
pub wide_enough : (each times : ℕ) {apart size : ℕ} → apart ≡ bytes_for each * times → size ≡ bytes_for (each * times) → size ≤ apart
wide_enough each times is fits =
    let most : each * times ≤ 8 * bytes_for each * times =
    mul-le-mul {n₁ = each} {m₁ = times} {n₂ = 8 * bytes_for each} {m₂ = times} (omega arith) (omega arith) in
    omega (arith, most, sym (product_of_three 8 (bytes_for each) times), is, fits)

pub bytes_of_wide : (count each times : ℕ) {apart long : ℕ} → long ≡ count * bytes_for each → apart ≡ bytes_for each * times → long * times ≡ count * apart
bytes_of_wide count each times is of = ap (λ (k : ℕ). k * times) is ∙ sym (product_of_three count (bytes_for each) times) ∙ ap (λ (k : ℕ). count * k) (sym of)
