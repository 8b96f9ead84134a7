-- Rows: samples cut into rows, and rows joined into samples.
use Rattle.std.proofs.Common.{◌≡◌, ℕ, zero, suc, ◌*◌, ◌+◌, ◌≤◌, ◌<◌, List, [], ◌∷◌}
use Rattle.std.proofs.Common.{length, take, drop, All, refl, sym, ap, ◌∙◌, arith, zero-mul, suc-mul}
use Rattle.std.proofs.Math.Nat.{mul-le-mul_right}
use Rattle.std.specs.List.{AllByRecursion, concat}
use Rattle.std.proofs.lemmas.List.{take_at, drop_at, take-append-drop, length-take, length-drop, length-append, nil_from_length}
use Rattle.std.proofs.lemmas.List.Elements.{All-from_recursion, All-nil, All-append, All-take, All-drop, recursion_from_All}
use Rattle.pnm_samples.proofs.CutLaws.{length-cut_rows}
use Rattle.pnm_image.specs.declared.shape.Shape.{Shape}
use Rattle.pnm_image.specs.HeldRows.{AreRowsWithin}
use Rattle.pnm_image.specs.Heads.{HeadValue, IsHead, row_length}
use Rattle.pnm_image.specs.Places.{IsRowOf}
use Rattle.pnm_image.specs.Images.{Image, IsImage, cut_rows, rows_of}

-- each is a row of an image of this shape
abbrev pub AreRowsOf : Shape → List (List ℕ) → Type 0
AreRowsOf s rows = AllByRecursion (IsRowOf s) rows

-- rows of one length that are joined, and cut again, are the same rows
cut_rows-concat : (each : ℕ) (rows : List (List ℕ)) → AllByRecursion (λ row. length row ≡ each) rows → cut_rows (length rows) each (concat rows) ≡ rows
cut_rows-concat each [] h = refl
cut_rows-concat each (row ∷ rows) h = rw (take_at row (concat rows) each h.0, drop_at row (concat rows) each h.0, cut_rows-concat each rows h.1) refl

-- samples that are cut into rows, and joined again, are the same samples
pub concat-cut_rows : (count each : ℕ) (samples : List ℕ) → length samples ≡ count * each → concat (cut_rows count each samples) ≡ samples
concat-cut_rows zero each samples h = sym (nil_from_length samples (h ∙ zero-mul each))
concat-cut_rows (suc count) each samples h =
    let rest : length (drop each samples) ≡ count * each = omega (arith, length-drop each samples, suc-mul count each) in
    rw (concat-cut_rows count each (drop each samples) rest) (take-append-drop each samples)

-- rows that are cut have the length that they are cut to
pub lengths_of_cut_rows : (count each : ℕ) (samples : List ℕ) → length samples ≡ count * each
    → AllByRecursion (λ row. length row ≡ each) (cut_rows count each samples)
lengths_of_cut_rows zero each samples h = tt
lengths_of_cut_rows (suc count) each samples h =
    let first : length (take each samples) ≡ each = omega (arith, length-take each samples, suc-mul count each) in
    let rest : length (drop each samples) ≡ count * each = omega (arith, length-drop each samples, suc-mul count each) in
    (first, lengths_of_cut_rows count each (drop each samples) rest)

-- the rows that are cut from an image's samples are rows of its shape
pub AreRowsOf-cut_rows : (s : Shape) (count : ℕ) (samples : List ℕ) → length samples ≡ count * row_length s → All (λ sample. sample ≤ s.maxval) samples
    → AreRowsOf s (cut_rows count (row_length s) samples)
AreRowsOf-cut_rows s zero samples h range = tt
AreRowsOf-cut_rows s (suc count) samples h range =
    let each : ℕ = row_length s in
    let first : length (take each samples) ≡ each = omega (arith, length-take each samples, suc-mul count each) in
    let rest : length (drop each samples) ≡ count * each = omega (arith, length-drop each samples, suc-mul count each) in (
      record { count = first; range = All-take (λ sample. sample ≤ s.maxval) each samples range },
      AreRowsOf-cut_rows s count (drop each samples) rest (All-drop (λ sample. sample ≤ s.maxval) each samples range),
    )

-- rows of a shape have its row length
lengths_of_rows : (s : Shape) (rows : List (List ℕ)) → AreRowsOf s rows → AllByRecursion (λ row. length row ≡ row_length s) rows
lengths_of_rows s [] h = tt
lengths_of_rows s (row ∷ rows) h = (h.0.count, lengths_of_rows s rows h.1)

-- the samples of rows are as many as the rows' lengths together
length-concat : (each : ℕ) (rows : List (List ℕ)) → AllByRecursion (λ row. length row ≡ each) rows → length (concat rows) ≡ length rows * each
length-concat each [] h = sym (zero-mul each)
length-concat each (row ∷ rows) h = omega (arith, length-append row (concat rows), h.0, length-concat each rows h.1, suc-mul (length rows) each)

-- the samples of rows of a shape are up to its maxval
range-concat : (s : Shape) (rows : List (List ℕ)) → AreRowsOf s rows → All (λ sample. sample ≤ s.maxval) (concat rows)
range-concat s [] h = All-nil (λ sample. sample ≤ s.maxval)
range-concat s (row ∷ rows) h = All-append (λ sample. sample ≤ s.maxval) row (concat rows) h.0.range (range-concat s rows h.1)

-- the image of a head and rows
abbrev pub image_of : HeadValue → List (List ℕ) → Image
image_of head rows = record { head = head; samples = concat rows }

-- all rows of a head's shape make an image
pub IsImage-image_of : (head : HeadValue) (rows : List (List ℕ)) → IsHead head → length rows ≡ head.shape.height → AreRowsOf head.shape rows
    → IsImage (image_of head rows)
IsImage-image_of head rows h count are = record {
  head = h;
  count = length-concat (row_length head.shape) rows (lengths_of_rows head.shape rows are) ∙ ap (λ (n : ℕ). n * row_length head.shape) count;
  range = range-concat head.shape rows are;
}

-- the rows of the image of a head and rows are these rows
pub rows_of-image_of : (head : HeadValue) (rows : List (List ℕ)) → length rows ≡ head.shape.height → AreRowsOf head.shape rows
    → rows_of (image_of head rows) ≡ rows
rows_of-image_of head rows count are =
    ap (λ (n : ℕ). cut_rows n (row_length head.shape) (concat rows)) (sym count)
    ∙ cut_rows-concat (row_length head.shape) rows (lengths_of_rows head.shape rows are)

-- an image is the image of its head and its rows
pub image_of-rows_of : (i : Image) → IsImage i → image_of i.head (rows_of i) ≡ i
image_of-rows_of i h = ap (λ (samples : List ℕ). record { head = i.head; samples = samples })
    (concat-cut_rows i.head.shape.height (row_length i.head.shape) i.samples h.count)

-- the rows of an image are as many as its height
pub length-rows_of : (i : Image) → length (rows_of i) ≡ i.head.shape.height
length-rows_of i = length-cut_rows i.head.shape.height (row_length i.head.shape) i.samples

-- the rows of an image are rows of its shape
pub AreRowsOf-rows_of : (i : Image) → IsImage i → AreRowsOf i.head.shape (rows_of i)
AreRowsOf-rows_of i h = AreRowsOf-cut_rows i.head.shape i.head.shape.height i.samples h.count h.range

-- rows of a shape's row length are rows of it where no sample of them is above its maxval
pub known_rows : (s : Shape) (each : ℕ) (rows : List (List ℕ)) → All (λ row. length row ≡ each) rows → each ≡ row_length s → AreRowsWithin s.maxval rows
    → AreRowsOf s rows
known_rows s each rows long same range = recursion_from_All (IsRowOf s) rows (λ k d lt. record { count = long k d lt ∙ same; range = range k d lt })

-- and no other rows
pub rows_need : (s : Shape) (each : ℕ) (rows : List (List ℕ)) → 1 ≤ length rows → All (λ row. length row ≡ each) rows → AreRowsOf s rows
    → (each ≡ row_length s) × AreRowsWithin s.maxval rows
rows_need s each rows some long are =
    let all = All-from_recursion (IsRowOf s) rows are in
    let first : 0 < length rows = omega (arith, some) in
    (sym (long 0 [] first) ∙ (all 0 [] first).count, λ k d lt. (all k d lt).range)

-- a row of those that are cut lies within the samples
pub row_ends_within : (count each at : ℕ) → at < count → at * each + each ≤ count * each
row_ends_within count each at below =
    let next : suc at ≤ count = omega (arith, below) in
    omega (arith, mul-le-mul_right each next, suc-mul at each)
