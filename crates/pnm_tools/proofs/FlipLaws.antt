-- The flipped image is what the rows and the end of an image, flipped, are the messages of.
use Rattle.pnm_tools.proofs.Words.{◌≡◌, ℕ, ◌+◌, ◌-◌, Bool, true, false, List, [], ◌∷◌, ◌++◌, map, Ok, refl, sym, ap, ◌∙◌, arith, append-nil, if◌then◌else◌}
use Rattle.pnm_tools.proofs.Words.{range_with_len, map-id, flat_map-map, map-map, Shape, HeadValue, Image, IsImage, sample_at, rows_of, FlipWay, Transform}
use Rattle.pnm_tools.proofs.Words.{Flip, image_by, pixel_of, transform, transform_of, transformed_row, transformed_at_end, moves_rows, in_order}
use Rattle.pnm_tools.proofs.Words.{transformed_sample, transformed_head_value, mirrored_row, place_in, column_of, transposed_head_value, result_head}
use Rattle.pnm_tools.proofs.Words.{end_answer}
use Rattle.pnm_tools.specs.Tools.{result_sample}
use Rattle.pnm_tools.proofs.FormulaLaws.{columns as side_by_side, row_at, rows_are, rows_of-image_by, range_alike}
use Rattle.pnm_tools.proofs.ImageLaws.{result_by_head, answered_by_rows, answers_to_rows, each_row_answered}
use Rattle.pnm_tools.proofs.AnsweringLaws.{AnswersImages}
use Rattle.pnm_tools.proofs.PixelLaws.{pixel_at, rows_by_pixels, rows_by_rows}
use Rattle.pnm_tools.proofs.RangeLaws.{pieces_alike}
use Rattle.pnm_tools.proofs.TransformLaws.{flipped_is_transformed, place_within, in_order_by_places, row_moved, row_stays}
use Rattle.pnm_tools.proofs.WholeHeadLaws.{is_transformed}

-- ---- the answers to rows

-- where rows don't stay in their places no row is answered before the end, and else each by itself, mirrored or not
answers_by : (b : Bool) (way : FlipWay) (s : Shape) (y : ℕ) (rows : List (List ℕ)) → moves_rows (transform_of way) ≡ b
    → answers_to_rows (Flip way) s y rows ≡ (if b then [] else map (transformed_row (transform_of way) s) rows)
answers_by true way s y [] e = refl
answers_by true way s y (row ∷ rows) e =
    ap (λ (l : List (List ℕ)). l ++ answers_to_rows (Flip way) s (y + 1) rows) (row_moved way s y row e) ∙ answers_by true way s (y + 1) rows e
answers_by false way s y rows e = each_row_answered (Flip way) s (transformed_row (transform_of way) s) (λ z row. row_stays way s z row e) y rows

-- ---- the rows of the results

-- the rows of an image, in either order
ordered_rows : (b : Bool) (i : Image) → in_order b (rows_of i) ≡ map (λ y. row_at i (place_in b i.head.shape.height y)) (range_with_len 0 i.head.shape.height)
ordered_rows b i = ap (in_order b) (rows_are i) ∙ in_order_by_places b (row_at i) i.head.shape.height

-- the rows of the image, where they stay rows
rows_transformed : (columns rows : Bool) (i : Image) → IsImage i
    → map (transformed_row (transform columns rows false) i.head.shape) (in_order rows (rows_of i))
    ≡ rows_of (image_by i.head (transformed_sample (transform columns rows false) i))
rows_transformed true rows i is =
    let s : Shape = i.head.shape in
    let line : ℕ → ℕ = place_in rows s.height in
    ap (map (mirrored_row s)) (ordered_rows rows i)
    ∙ map-map (mirrored_row s) (λ y. row_at i (line y)) (range_with_len 0 s.height)
    ∙ sym (rows_by_pixels i s.width s.height (λ x. s.width - 1 - x) line is (λ x lt. omega arith) (λ y lt. place_within rows s.height y lt))
rows_transformed false rows i is =
    let s : Shape = i.head.shape in
    let line : ℕ → ℕ = place_in rows s.height in
    map-id (in_order rows (rows_of i))
    ∙ ordered_rows rows i
    ∙ sym (rows_by_rows i s.height line is (λ y lt. place_within rows s.height y lt))

-- the columns of the image, where they become rows
columns_transformed : (columns rows : Bool) (i : Image) → IsImage i
    → in_order columns (map (column_of i.head.shape.depth (in_order rows (rows_of i))) (range_with_len 0 i.head.shape.width))
    ≡ rows_of (image_by (transposed_head_value i.head) (transformed_sample (transform columns rows true) i))
columns_transformed columns rows i is =
    let s : Shape = i.head.shape in
    let d : ℕ = s.depth in
    let column : ℕ → ℕ = place_in columns s.width in
    let line : ℕ → ℕ = place_in rows s.height in
    in_order_by_places columns (column_of d (in_order rows (rows_of i))) s.width
    ∙ range_alike (λ y. column_of d (in_order rows (rows_of i)) (column y)) (λ y. side_by_side 0 s.height d (λ x p. sample_at i (column y) (line x) p)) 0
    s.width (λ y lt.
    ap (λ (l : List (List ℕ)). column_of d l (column y)) (ordered_rows rows i)
    ∙ flat_map-map (λ row. pixel_of d row (column y)) (λ x. row_at i (line x)) (range_with_len 0 s.height)
    ∙ sym (pieces_alike (λ x. map (λ p. sample_at i (column y) (line x) p) (range_with_len 0 d)) (λ x. pixel_of d (row_at i (line x)) (column y)) 0 s.height
    (λ x row.
    pixel_at i (column y) (line x) is (place_within columns s.width y (omega arith)) (place_within rows s.height x (omega arith)))))
    ∙ sym (rows_of-image_by (transposed_head_value i.head) (transformed_sample (transform columns rows true) i))

-- ---- the whole image

-- what answers the rows and the end of an image is the rows of the result
answers_transformed : (columns rows exchanged : Bool) (i : Image) → IsImage i
    → (if moves_rows (transform columns rows exchanged) then [] else map (transformed_row (transform columns rows exchanged) i.head.shape) (rows_of i))
    ++ transformed_at_end
    (transform columns rows exchanged) i.head.shape (rows_of i)
    ≡ rows_of (image_by (transformed_head_value (transform columns rows exchanged) i.head) (transformed_sample (transform columns rows exchanged) i))
answers_transformed columns rows true i is = columns_transformed columns rows i is
answers_transformed columns true false i is = rows_transformed columns true i is
answers_transformed columns false false i is = append-nil (map (transformed_row (transform columns false false) i.head.shape) (rows_of i))
    ∙ rows_transformed columns false i is

answer_is : (way : FlipWay) (i : Image) (result : HeadValue) → IsImage i → result_head (Flip way) i.head ≡ Ok result
    → answers_to_rows (Flip way) i.head.shape 0 (rows_of i) ++ end_answer (Flip way) i.head.shape (rows_of i)
    ≡ rows_of (image_by result (result_sample (Flip way) i))
unfolding result_sample
answer_is way i result is e =
    let t : Transform = transform_of way in
    ap (λ (l : List (List ℕ)). l ++ transformed_at_end t i.head.shape (rows_of i)) (answers_by (moves_rows t) way i.head.shape 0 (rows_of i) refl)
    ∙ answers_transformed t.columns_reversed t.rows_reversed t.exchanged i is
    ∙ ap (λ (h : HeadValue). rows_of (image_by h (transformed_sample t i))) (is_transformed way i.head result e).result_is
    ∙ ap (λ (sample : ℕ → ℕ → ℕ → ℕ). rows_of (image_by result sample)) (sym (flipped_is_transformed way i))

-- a whole image that isn't refused is answered by the flipped image
pub flip_answers_images : (way : FlipWay) → AnswersImages (Flip way)
flip_answers_images way i j is e = answered_by_rows (Flip way) i j e (answer_is way i j.head is (result_by_head (Flip way) i j e).head)
