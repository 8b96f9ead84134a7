-- The samples of an image that is given by a formula, by column, row and plane.
use Rattle.pnm_tools.proofs.Words.{◌≡◌, ℕ, zero, suc, ◌+◌, ◌*◌, ◌<◌, ◌≤◌, List, ◌++◌, length, get_or, map, Ok, subst, ap, ◌∙◌, arith, add-mul, mul_assoc}
use Rattle.pnm_tools.proofs.Words.{mul-le-mul, suc-mul, zero-mul, flat_map, range_with_len, get_or_append_left, get_or-append-add, get_or-map-range_with_len}
use Rattle.pnm_tools.proofs.Words.{length-map-range_with_len, Shape, HeadValue, row_length, Image, sample_at, Tool, row_by, image_by, IsByTheFormula, applied}
use Rattle.pnm_tools.proofs.Words.{result_head, result_sample}
use Rattle.pnm_tools.proofs.FormulaLaws.{length-row_by, length-image_by}
use Rattle.pnm_tools.proofs.ImageLaws.{result_by_head}

-- an element of one of several lists of one length, one after another
in_piece : (f : ℕ → List ℕ) (each from count number index at : ℕ) → ((n : ℕ) → length (f n) ≡ each) → number < count → index < each → from + number ≡ at
    → get_or (flat_map f (range_with_len from count)) (number * each + index) 0 ≡ get_or (f at) index 0
in_piece f each from zero number index at long within below is = absurd (omega arith)
in_piece f each from (suc count) zero index at long within below is =
    let others : List ℕ = flat_map f (range_with_len (from + 1) count) in
    let here : zero * each + index ≡ index = omega (arith, zero-mul each) in
    let same : from ≡ at = omega arith in
    ap (λ (n : ℕ). get_or (f from ++ others) n 0) here
    ∙ get_or_append_left (f from) others 0 index (omega (arith, long from))
    ∙ ap (λ (n : ℕ). get_or (f n) index 0) same
in_piece f each from (suc count) (suc number) index at long within below is =
    let others : List ℕ = flat_map f (range_with_len (from + 1) count) in
    let there : suc number * each + index ≡ length (f from) + (number * each + index) = omega (arith, suc-mul number each, long from) in
    ap (λ (n : ℕ). get_or (f from ++ others) n 0) there
    ∙ get_or-append-add (f from) others (number * each + index) 0
    ∙ in_piece f each (from + 1) count number index at long (omega arith) below (omega arith)

-- the sample of an image of a formula
pub sample_at-image_by : (head : HeadValue) (sample : ℕ → ℕ → ℕ → ℕ) (x y p : ℕ) → x < head.shape.width → y < head.shape.height → p < head.shape.depth
    → sample_at (image_by head sample) x y p ≡ sample x y p
sample_at-image_by head sample x y p column row plane =
    let s : Shape = head.shape in
    let planes : ℕ → List ℕ = λ k. map (λ q. sample k y q) (range_with_len 0 s.depth) in
    let rows : ℕ → List ℕ = λ k. row_by s (λ c q. sample c k q) in
    let in_row : suc x * s.depth ≤ s.width * s.depth = mul-le-mul {n₁ = suc x} {m₁ = s.depth} {n₂ = s.width} {m₂ = s.depth} (omega arith) (omega arith) in
    let at : (y * s.width + x) * s.depth + p ≡ y * row_length s + (x * s.depth + p) =
    omega (arith, add-mul (y * s.width) x s.depth, mul_assoc y s.width s.depth) in
    ap (λ (n : ℕ). get_or (flat_map rows (range_with_len 0 s.height)) n 0) at
    ∙ in_piece rows (row_length s) 0 s.height y (x * s.depth + p) y (λ k. length-row_by s (λ c q. sample c k q)) row (omega (arith, in_row, suc-mul x s.depth))
    (omega arith)
    ∙ in_piece planes s.depth 0 s.width x p x (λ k. length-map-range_with_len (λ q. sample k y q) 0 s.depth) column plane (omega arith)
    ∙ get_or-map-range_with_len (λ q. sample x y q) 0 s.depth p p 0 plane (omega arith)

by_the_formula : (head : HeadValue) (sample : ℕ → ℕ → ℕ → ℕ) → IsByTheFormula (image_by head sample) sample
by_the_formula head sample = record { count = length-image_by head sample; samples = sample_at-image_by head sample }

-- the result of a tool has the head of its rule and the samples of its formula
pub result_is_by_the_formula : (tool : Tool) (i j : Image) → applied tool i ≡ Ok j → (result_head tool i.head ≡ Ok j.head)
    × IsByTheFormula j (result_sample tool i)
result_is_by_the_formula tool i j e =
    let made = result_by_head tool i j e in
    (made.head, subst (λ (k : Image). IsByTheFormula k (result_sample tool i)) made.whole (by_the_formula j.head (result_sample tool i)))
