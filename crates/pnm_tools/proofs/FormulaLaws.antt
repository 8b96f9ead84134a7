-- The rows of an image that is given by a formula.
use Rattle.pnm_tools.proofs.Words.{◌≡◌, ℕ, zero, suc, ◌+◌, ◌*◌, ◌<◌, ◌≤◌, List, ◌∷◌, ◌++◌, length, slice_index, take, drop, map, refl, sym, ap, ◌∙◌, arith}
use Rattle.pnm_tools.proofs.Words.{suc-mul, zero-mul, mul_assoc, mul-le-mul, flat_map, range_with_len, take_at, drop_at, drop-drop, map-append, length-map}
use Rattle.pnm_tools.proofs.Words.{length-take-le, length-drop, same_lists, get_or-take, get_or-drop, get_or-map, map-map, get_or-map-range_with_len}
use Rattle.pnm_tools.proofs.Words.{length-map-range_with_len, take-add, Shape, HeadValue, row_length, Image, IsImage, sample_at, cut_rows, rows_of, row_by}
use Rattle.pnm_tools.proofs.Words.{image_by}
use Rattle.pnm_tools.proofs.RangeLaws.{alike_from, length_of_equals}

-- so many columns from one on, each of so many planes
abbrev pub columns : ℕ → ℕ → ℕ → (ℕ → ℕ → ℕ) → List ℕ
columns from count depth sample = flat_map (λ x. map (λ p. sample x p) (range_with_len 0 depth)) (range_with_len from count)

length-columns : (from count depth : ℕ) (sample : ℕ → ℕ → ℕ) → length (columns from count depth sample) ≡ count * depth
length-columns from count depth sample = length_of_equals (λ x. map (λ p. sample x p) (range_with_len 0 depth)) depth from count
    (λ x. length-map-range_with_len (λ p. sample x p) 0 depth)

-- a row of a formula has its length
pub length-row_by : (s : Shape) (sample : ℕ → ℕ → ℕ) → length (row_by s sample) ≡ row_length s
length-row_by s sample = length-columns 0 s.width s.depth sample

-- an image of a formula has as many samples as its head says
pub length-image_by : (head : HeadValue) (sample : ℕ → ℕ → ℕ → ℕ) → length (image_by head sample).samples ≡ head.shape.height * row_length head.shape
length-image_by head sample =
    length_of_equals (λ y. row_by head.shape (λ x p. sample x y p)) (row_length head.shape) 0 head.shape.height
    (λ y. length-row_by head.shape (λ x p. sample x y p))

-- rows of one length, one after another, cut apart again
cut_again : (from count each : ℕ) (row : ℕ → List ℕ) → ((y : ℕ) → length (row y) ≡ each) → cut_rows count each (flat_map row (range_with_len from count))
    ≡ map row (range_with_len from count)
cut_again from zero each row long = refl
cut_again from (suc count) each row long =
    let others : List ℕ = flat_map row (range_with_len (from + 1) count) in
    ap (λ (l : List ℕ). l ∷ cut_rows count each (drop each (row from ++ others))) (take_at (row from) others each (long from))
    ∙ ap (λ (l : List ℕ). row from ∷ cut_rows count each l) (drop_at (row from) others each (long from))
    ∙ ap (λ (l : List (List ℕ)). row from ∷ l) (cut_again (from + 1) count each row long)

-- the rows of an image of a formula are those of the formula
pub rows_of-image_by : (head : HeadValue) (sample : ℕ → ℕ → ℕ → ℕ) → rows_of (image_by head sample) ≡ map (λ y. row_by head.shape (λ x p. sample x y p))
    (range_with_len 0 head.shape.height)
rows_of-image_by head sample = cut_again 0 head.shape.height (row_length head.shape) (λ y. row_by head.shape (λ x p. sample x y p))
    (λ y. length-row_by head.shape (λ x p. sample x y p))

-- ---- formulas that take each sample by itself

-- so many samples from one on, each changed
group_at : (g : ℕ → ℕ) (xs : List ℕ) (k d : ℕ) → k + d ≤ length xs → map (λ p. g (slice_index xs (k + p))) (range_with_len 0 d) ≡ map g (take d (drop k xs))
group_at g xs k d within =
    let part : List ℕ = take d (drop k xs) in
    let size : length part ≡ d = length-take-le d (drop k xs) (omega (arith, length-drop k xs)) in
    same_lists (map (λ p. g (slice_index xs (k + p))) (range_with_len 0 d)) (map g part) (length-map-range_with_len (λ p. g (slice_index xs (k + p))) 0 d
    ∙ sym size ∙ sym (length-map part g)) (λ i e lt.
    let below : i < d = omega (arith, length-map-range_with_len (λ p. g (slice_index xs (k + p))) 0 d) in
    get_or-map-range_with_len (λ p. g (slice_index xs (k + p))) 0 d i i e below (omega arith)
    ∙ sym (get_or-map g part i 0 e (omega arith) ∙ ap g (get_or-take d (drop k xs) i 0 below ∙ get_or-drop k xs i 0)))

-- columns of one row of samples, each sample changed
pub columns_at : (g : ℕ → ℕ) (xs : List ℕ) (base from count d : ℕ) → (base + from) * d + count * d ≤ length xs
    → columns from count d (λ x p. g (slice_index xs ((base + x) * d + p))) ≡ map g (take (count * d) (drop ((base + from) * d) xs))
columns_at g xs base from zero d within = ap (λ (n : ℕ). map g (take n (drop ((base + from) * d) xs))) (sym (zero-mul d))
columns_at g xs base from (suc count) d within =
    let k : ℕ = (base + from) * d in
    let each : suc count * d ≡ d + count * d = omega (arith, suc-mul count d) in
    let next : (base + (from + 1)) * d ≡ k + d = ap (λ (n : ℕ). n * d) (omega arith) ∙ suc-mul (base + from) d in
    let first = group_at g xs k d (omega (arith, each, within)) in
    let others = columns_at g xs base (from + 1) count d (omega (arith, each, within, next)) in
    let rest : drop ((base + (from + 1)) * d) xs ≡ drop d (drop k xs) = ap (λ (n : ℕ). drop n xs) next ∙ sym (drop-drop d k xs) in
    ap (λ (l : List ℕ). l ++ columns (from + 1) count d (λ x p. g (slice_index xs ((base + x) * d + p)))) first
    ∙ ap (λ (l : List ℕ). map g (take d (drop k xs)) ++ l) (others ∙ ap (λ (l : List ℕ). map g (take (count * d) l)) rest)
    ∙ sym (map-append g (take d (drop k xs)) (take (count * d) (drop d (drop k xs))))
    ∙ ap (map g) (sym (take-add d (count * d) (drop k xs)) ∙ ap (λ (n : ℕ). take n (drop k xs)) (sym each))

-- the rows of samples from one on
rows_from : (each : ℕ) (xs : List ℕ) (a n : ℕ) → cut_rows n each (drop (a * each) xs) ≡ map (λ y. take each (drop (y * each) xs)) (range_with_len a n)
rows_from each xs a zero = refl
rows_from each xs a (suc n) =
    let next : drop each (drop (a * each) xs) ≡ drop ((a + 1) * each) xs = drop-drop each (a * each) xs
    ∙ ap (λ (k : ℕ). drop k xs) (sym (suc-mul a each) ∙ ap (λ (k : ℕ). k * each) (omega arith)) in
    ap (λ (l : List (List ℕ)). take each (drop (a * each) xs) ∷ l) (ap (cut_rows n each) next ∙ rows_from each xs (a + 1) n)

-- a row of an image
abbrev pub row_at : Image → ℕ → List ℕ
row_at i y = take (row_length i.head.shape) (drop (y * row_length i.head.shape) i.samples)

-- the rows of an image by their numbers
pub rows_are : (i : Image) → rows_of i ≡ map (row_at i) (range_with_len 0 i.head.shape.height)
rows_are i =
    let each : ℕ = row_length i.head.shape in
    ap (λ (k : ℕ). cut_rows i.head.shape.height each (drop k i.samples)) (sym (zero-mul each)) ∙ rows_from each i.samples 0 i.head.shape.height

-- values that are alike at each number of a range
pub range_alike : {A : Type 0} (f g : ℕ → A) (a n : ℕ) → ((y : ℕ) → y < a + n → f y ≡ g y) → map f (range_with_len a n) ≡ map g (range_with_len a n)
range_alike f g a n same = alike_from f g a a n (λ i lt. same (a + i) (omega arith))

-- two shapes have the same sizes
pub record HasSizes (s t : Shape) : Type 0 where
  pub width : s.width ≡ t.width
  pub height : s.height ≡ t.height
  pub depth : s.depth ≡ t.depth

-- a row of a formula that takes each sample by itself
row_is : (g : ℕ → ℕ) (i : Image) (y : ℕ) → length i.samples ≡ i.head.shape.height * row_length i.head.shape → y < i.head.shape.height
    → columns 0 i.head.shape.width i.head.shape.depth (λ x p. g (sample_at i x y p))
    ≡ map g (take (row_length i.head.shape) (drop (y * row_length i.head.shape) i.samples))
row_is g i y count lt =
    let s : Shape = i.head.shape in
    let each : ℕ = row_length s in
    let at : (y * s.width + 0) * s.depth ≡ y * each = ap (λ (n : ℕ). n * s.depth) (omega arith) ∙ mul_assoc y s.width s.depth in
    let below : suc y * each ≤ s.height * each = mul-le-mul {n₁ = suc y} {m₁ = each} {n₂ = s.height} {m₂ = each} (omega arith) (omega arith) in
    columns_at g i.samples (y * s.width) 0 s.width s.depth (omega (arith, at, count, below, suc-mul y each))
    ∙ ap (λ (n : ℕ). map g (take each (drop n i.samples))) at

-- the rows of a formula that takes each sample by itself are those of the image, each sample changed
pub samplewise_rows : (g : ℕ → ℕ) (i : Image) (head : HeadValue) → IsImage i → HasSizes head.shape i.head.shape
    → rows_of (image_by head (λ x y p. g (sample_at i x y p))) ≡ map (map g) (rows_of i)
samplewise_rows g i head is sizes =
    let s : Shape = i.head.shape in
    let each : ℕ = row_length s in
    rows_of-image_by head (λ x y p. g (sample_at i x y p))
    ∙ ap (λ (h : ℕ). map (λ y. row_by head.shape (λ x p. g (sample_at i x y p))) (range_with_len 0 h)) sizes.height
    ∙ range_alike (λ y. row_by head.shape (λ x p. g (sample_at i x y p))) (λ y. map g (take each (drop (y * each) i.samples))) 0 s.height (λ y lt.
    ap (λ (w : ℕ). columns 0 w head.shape.depth (λ x p. g (sample_at i x y p))) sizes.width
    ∙ ap (λ (d : ℕ). columns 0 s.width d (λ x p. g (sample_at i x y p))) sizes.depth ∙ row_is g i y is.count (omega arith))
    ∙ sym (map-map (map g) (λ y. take each (drop (y * each) i.samples)) (range_with_len 0 s.height))
    ∙ ap (map (map g)) (sym (rows_are i))
