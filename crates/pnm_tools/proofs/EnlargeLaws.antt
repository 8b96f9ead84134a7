-- The enlarged image is what the rows of an image, each enlarged, are the messages of.
use Rattle.pnm_tools.proofs.Words.{◌≡◌, ℕ, ◌+◌, ◌*◌, ◌/◌, ◌≤◌, List, [], ◌∷◌, ◌++◌, Ok, refl, sym, ap, ◌∙◌, append-nil, flat_map, range_with_len, flat_map-map}
use Rattle.pnm_tools.proofs.Words.{div_below, Shape, HeadValue, Image, IsImage, rows_of, Enlarge, image_by, pixel_of, enlarged_head_value, enlarged_sample}
use Rattle.pnm_tools.proofs.Words.{enlarged_row, enlarged_rows, result_head}
use Rattle.pnm_tools.specs.Tools.{result_sample, row_answer}
use Rattle.pnm_tools.proofs.FormulaLaws.{row_at, rows_are, range_alike}
use Rattle.pnm_tools.proofs.ImageLaws.{result_by_head, answered_by_rows, answers_to_rows}
use Rattle.pnm_tools.proofs.AnsweringLaws.{AnswersImages}
use Rattle.pnm_tools.proofs.PixelLaws.{rows_by_pixels}
use Rattle.pnm_tools.proofs.RangeLaws.{each_repeated, each_replicated}
use Rattle.pnm_tools.proofs.WholeHeadLaws.{is_enlarged}

-- the answers to rows
rows_enlarged : (across down : ℕ) (s : Shape) (y : ℕ) (rows : List (List ℕ))
    → answers_to_rows (Enlarge across down) s y rows ≡ flat_map (enlarged_rows across down s) rows
unfolding row_answer
rows_enlarged across down s y [] = refl
rows_enlarged across down s y (row ∷ rows) = ap (λ (l : List (List ℕ)). enlarged_rows across down s row ++ l) (rows_enlarged across down s (y + 1) rows)

-- the rows of the result
rows_are_enlarged : (across down : ℕ) (i : Image) → 1 ≤ across → 1 ≤ down → IsImage i
    → flat_map (enlarged_rows across down i.head.shape) (rows_of i)
    ≡ rows_of (image_by (enlarged_head_value across down i.head) (enlarged_sample across down i))
rows_are_enlarged across down i wide high is =
    let s : Shape = i.head.shape in
    let row : ℕ → List ℕ = λ y. enlarged_row across s (row_at i y) in
    ap (flat_map (enlarged_rows across down s)) (rows_are i)
    ∙ flat_map-map (enlarged_rows across down s) (row_at i) (range_with_len 0 s.height)
    ∙ sym (each_replicated row down s.height)
    ∙ range_alike (λ y. row (y / down)) (λ y. flat_map (λ x. pixel_of s.depth (row_at i (y / down)) (x / across)) (range_with_len 0 (s.width * across))) 0
    (s.height * down) (λ y lt.
    sym (each_repeated (λ x. pixel_of s.depth (row_at i (y / down)) x) across s.width))
    ∙ sym (rows_by_pixels i (s.width * across) (s.height * down) (λ x. x / across) (λ y. y / down) is (λ x lt. div_below x across s.width wide lt)
    (λ y lt. div_below y down s.height high lt))

-- the answers are the rows of the result
answer_is : (across down : ℕ) (i : Image) (result : HeadValue) → 1 ≤ across → 1 ≤ down → IsImage i → result_head (Enlarge across down) i.head ≡ Ok result
    → answers_to_rows (Enlarge across down) i.head.shape 0 (rows_of i) ++ [] ≡ rows_of (image_by result (result_sample (Enlarge across down) i))
unfolding result_sample
answer_is across down i result wide high is e =
    append-nil (answers_to_rows (Enlarge across down) i.head.shape 0 (rows_of i))
    ∙ rows_enlarged across down i.head.shape 0 (rows_of i)
    ∙ rows_are_enlarged across down i wide high is
    ∙ ap (λ (h : HeadValue). rows_of (image_by h (enlarged_sample across down i))) (is_enlarged across down i.head result e).result_is

-- a whole image that isn't refused is answered by the enlarged image
pub enlarge_answers_images : (across down : ℕ) → 1 ≤ across → 1 ≤ down → AnswersImages (Enlarge across down)
enlarge_answers_images across down wide high i j is e =
    answered_by_rows (Enlarge across down) i j e (answer_is across down i j.head wide high is (result_by_head (Enlarge across down) i j e).head)
