-- An image that is given by a formula is an image, where its samples are in range.
use Rattle.pnm_tools.proofs.Words.{ℕ, zero, suc, ◌+◌, ◌*◌, ◌<◌, ◌≤◌, inl, inr, length, List, map, sym, subst, arith, All, flat_map, range_with_len, cases_lt}
use Rattle.pnm_tools.proofs.Words.{All-nil, All-append, All-from_get_or, get_or-map-range_with_len, length-map-range_with_len, get_or-eq_default, Shape}
use Rattle.pnm_tools.proofs.Words.{HeadValue, IsHead, Image, IsImage, sample_at, Tool, row_by, image_by, result_head, result_sample}
use Rattle.pnm_tools.proofs.FormulaLaws.{length-image_by}
use Rattle.pnm_tools.proofs.ImageLaws.{IsBy}

-- what holds of the samples of each row holds of all samples
all_rows : (P : ℕ → Type 0) (row : ℕ → List ℕ) (from count : ℕ) → ((y : ℕ) → y < from + count → All P (row y))
    → All P (flat_map row (range_with_len from count))
all_rows P row from zero each = All-nil P
all_rows P row from (suc count) each =
    All-append P (row from) (flat_map row (range_with_len (from + 1) count)) (each from (omega arith))
    (all_rows P row (from + 1) count (λ y lt. each y (omega arith)))

-- what holds of the sample of each plane holds of the samples of a pixel
all_planes : (P : ℕ → Type 0) (sample : ℕ → ℕ) (count : ℕ) → ((p : ℕ) → p < count → P (sample p)) → All P (map sample (range_with_len 0 count))
all_planes P sample count each =
    All-from_get_or P (map sample (range_with_len 0 count)) 0 (λ p lt.
    let below : p < count = omega (arith, length-map-range_with_len sample 0 count) in
    subst P (sym (get_or-map-range_with_len sample 0 count p p 0 below (omega arith))) (each p below))

-- an image of a head is one whose samples are in range
pub image_by_is_image : (head : HeadValue) (sample : ℕ → ℕ → ℕ → ℕ) → IsHead head
    → ((x y p : ℕ) → x < head.shape.width → y < head.shape.height → p < head.shape.depth → sample x y p ≤ head.shape.maxval) → IsImage (image_by head sample)
image_by_is_image head sample sound range =
    let s : Shape = head.shape in
    record {
      head = sound;
      count = length-image_by head sample;
      range = all_rows (λ v. v ≤ s.maxval) (λ y. row_by s (λ x p. sample x y p)) 0 s.height (λ y row.
          all_rows (λ v. v ≤ s.maxval) (λ x. map (λ p. sample x y p) (range_with_len 0 s.depth)) 0 s.width (λ x column.
          all_planes (λ v. v ≤ s.maxval) (λ p. sample x y p) s.depth (λ p plane. range x y p (omega arith) (omega arith) plane)));
    }

-- a sample of an image is in range
pub sample_in_range : (i : Image) (x y p : ℕ) → IsImage i → sample_at i x y p ≤ i.head.shape.maxval
sample_in_range i x y p is =
    let at : ℕ = (y * i.head.shape.width + x) * i.head.shape.depth + p in
    elim (cases_lt at (length i.samples)) [
      | inl lt ↦ is.range at 0 lt
      | inr beyond ↦ omega (arith, get_or-eq_default i.samples 0 beyond)
    ]

-- the result of a tool, where its head is one and its samples are in range
pub made_is_image : (tool : Tool) (i j : Image) → IsBy (result_head tool i.head) (result_sample tool i) j → IsHead j.head
    → ((x y p : ℕ) → result_sample tool i x y p ≤ j.head.shape.maxval) → IsImage j
made_is_image tool i j made sound range =
    subst IsImage made.whole (image_by_is_image j.head (result_sample tool i) sound (λ x y p column row plane. range x y p))
