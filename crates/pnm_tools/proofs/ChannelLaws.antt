-- The picked image is what the rows of an image, each picked, are the messages of.
use Rattle.pnm_tools.proofs.Words.{◌≡◌, ℕ, suc, ◌+◌, ◌*◌, ◌<◌, ◌≤◌, Bool, true, false, List, map, length, slice_index, take, drop, Ok, Err, refl, sym, ap}
use Rattle.pnm_tools.proofs.Words.{subst, ◌∙◌, arith, append-nil, mul_assoc, add-mul, mul-le-mul, suc-mul, All, slice_index_or, if◌then◌else◌, range_with_len}
use Rattle.pnm_tools.proofs.Words.{list_all, ltb-true, same_lists, length-map, get_or-map, get_or-take, get_or-drop, get_or-map-range_with_len}
use Rattle.pnm_tools.proofs.Words.{length-map-range_with_len, AllPass-from_list_all, map-map, Shape, HeadValue, is_too_large, Image, rows_of, ChannelOutside}
use Rattle.pnm_tools.proofs.Words.{Channel, image_by, within_limits, Picks, IsLawfulPick, HasPlanes, picked_head_value, picked_sample, picked_row}
use Rattle.std.specs.Prelude.{nat_lt}
use Rattle.pnm_tools.specs.Tools.{result_head, result_sample}
use Rattle.pnm_tools.proofs.FormulaLaws.{columns, row_at, rows_are, rows_of-image_by, range_alike}
use Rattle.pnm_tools.proofs.ImageLaws.{answers_to_rows, each_row_answered, result_by_head, answered_by_rows}
use Rattle.pnm_tools.proofs.RowLaws.{row_of_channel}
use Rattle.pnm_tools.proofs.AnsweringLaws.{AnswersImages}
use Rattle.pnm_tools.proofs.RangeLaws.{pieces_alike}
use Rattle.pnm_tools.proofs.WholeHeadLaws.{is_within}

-- ---- an image that isn't refused

pub record IsPicked (planes : Picks) (head result : HeadValue) : Type 0 where
  pub has_planes : HasPlanes planes head.shape
  pub limits : is_too_large result.shape ≡ false
  pub result_is : result ≡ picked_head_value planes head

picked_by : (all : Bool) (planes : Picks) (head result : HeadValue) → list_all (λ number. nat_lt number head.shape.depth) planes.numbers ≡ all
    → (if all then within_limits (picked_head_value planes head) else Err ChannelOutside) ≡ Ok result → IsPicked planes head result
picked_by true planes head result is e =
    let passed = AllPass-from_list_all (λ number. nat_lt number head.shape.depth) planes.numbers is in
    let within = is_within (picked_head_value planes head) result e in
    record {
      has_planes = λ k d lt. ltb-true (slice_index_or planes.numbers k d) head.shape.depth (passed k d lt);
      limits = subst (λ (h : HeadValue). is_too_large h.shape ≡ false) within.result_is within.limits;
      result_is = sym within.result_is;
    }
picked_by false planes head result is e = absurd cc

pub is_picked : (planes : Picks) (head result : HeadValue) → result_head (Channel planes) head ≡ Ok result → IsPicked planes head result
unfolding result_head
is_picked planes head result e = picked_by (list_all (λ number. nat_lt number head.shape.depth) planes.numbers) planes head result refl e

-- ---- one row

-- the planes of one column
planes_picked : (g h : ℕ → ℕ) (numbers : List ℕ) (d : ℕ) → All (λ number. number < d) numbers → ((n : ℕ) → n < d → g n ≡ h n)
    → map (λ p. g (slice_index numbers p)) (range_with_len 0 (length numbers)) ≡ map h numbers
planes_picked g h numbers d all same =
    let count : ℕ = length numbers in
    same_lists (map (λ p. g (slice_index numbers p)) (range_with_len 0 count)) (map h numbers)
    (length-map-range_with_len (λ p. g (slice_index numbers p)) 0 count ∙ sym (length-map numbers h)) (λ i e lt.
    let below : i < count = omega (arith, length-map-range_with_len (λ p. g (slice_index numbers p)) 0 count) in
    get_or-map-range_with_len (λ p. g (slice_index numbers p)) 0 count i i e below (omega arith)
    ∙ same (slice_index numbers i) (all i 0 below)
    ∙ sym (get_or-map h numbers i 0 e below))

-- a sample by its row
sample_of_row : (xs : List ℕ) (w d y x n : ℕ) → x < w → n < d → slice_index xs ((y * w + x) * d + n) ≡ slice_index (take (w * d) (drop (y * (w * d)) xs))
    (x * d + n)
sample_of_row xs w d y x n column plane =
    let each : ℕ = w * d in
    let below : suc x * d ≤ w * d = mul-le-mul {n₁ = suc x} {m₁ = d} {n₂ = w} {m₂ = d} (omega arith) (omega arith) in
    let at : (y * w + x) * d + n ≡ y * each + (x * d + n) = omega (arith, add-mul (y * w) x d, mul_assoc y w d) in
    ap (slice_index xs) at
    ∙ sym (get_or-take each (drop (y * each) xs) (x * d + n) 0 (omega (arith, below, suc-mul x d)) ∙ get_or-drop (y * each) xs (x * d + n) 0)

row_picked : (planes : Picks) (i : Image) (y : ℕ) → HasPlanes planes i.head.shape
    → columns 0 i.head.shape.width (length planes.numbers) (λ x p. picked_sample planes i x y p) ≡ picked_row planes i.head.shape (row_at i y)
row_picked planes i y has =
    let s : Shape = i.head.shape in
    pieces_alike (λ x. map (λ p. picked_sample planes i x y p) (range_with_len 0 (length planes.numbers)))
    (λ x. map (λ number. slice_index (row_at i y) (x * s.depth + number)) planes.numbers) 0 s.width (λ x lt.
    planes_picked (λ n. slice_index i.samples ((y * s.width + x) * s.depth + n)) (λ n. slice_index (row_at i y) (x * s.depth + n)) planes.numbers s.depth has
    (λ n below. sample_of_row i.samples s.width s.depth y x n (omega arith) below))

-- ---- the whole image

picked_rows : (planes : Picks) (i : Image) → HasPlanes planes i.head.shape → rows_of (image_by (picked_head_value planes i.head) (picked_sample planes i))
    ≡ map (picked_row planes i.head.shape) (rows_of i)
picked_rows planes i has =
    let s : Shape = i.head.shape in
    rows_of-image_by (picked_head_value planes i.head) (picked_sample planes i)
    ∙ range_alike (λ y. columns 0 s.width (length planes.numbers) (λ x p. picked_sample planes i x y p)) (λ y. picked_row planes s (row_at i y)) 0 s.height
    (λ y lt. row_picked planes i y has)
    ∙ sym (map-map (picked_row planes s) (row_at i) (range_with_len 0 s.height))
    ∙ ap (map (picked_row planes s)) (sym (rows_are i))

answer_is : (planes : Picks) (i : Image) (result : HeadValue) → IsPicked planes i.head result
    → map (picked_row planes i.head.shape) (rows_of i) ≡ rows_of (image_by result (result_sample (Channel planes) i))
unfolding result_sample
answer_is planes i result picked = sym (picked_rows planes i picked.has_planes) ∙ ap (λ (h : HeadValue). rows_of (image_by h (picked_sample planes i)))
    (sym picked.result_is)

pub channel_answers_images : (planes : Picks) → IsLawfulPick planes → AnswersImages (Channel planes)
channel_answers_images planes lawful i j is e =
    let picked = is_picked planes i.head j.head (result_by_head (Channel planes) i j e).head in
    answered_by_rows (Channel planes) i j e (
    append-nil (answers_to_rows (Channel planes) i.head.shape 0 (rows_of i))
    ∙ each_row_answered (Channel planes) i.head.shape (picked_row planes i.head.shape) (λ y row. row_of_channel planes i.head.shape y row) 0 (rows_of i)
    ∙ answer_is planes i j.head picked
    )
