-- The tiled image is what the end of an image, tiled, is the messages of.
use Rattle.pnm_tools.proofs.Words.{◌≡◌, ℕ, ◌+◌, ◌%◌, ◌<◌, List, [], ◌∷◌, ◌++◌, Ok, refl, sym, ap, ◌∙◌, arith, slice_index_or, mod-lt, get_or-map-range_with_len}
use Rattle.pnm_tools.proofs.Words.{Shape, HeadValue, Image, IsImage, rows_of, Tile, image_by, tiled_head_value, tiled_sample, tiled_row, tiled_at_end}
use Rattle.pnm_tools.proofs.Words.{result_head}
use Rattle.pnm_tools.specs.Tools.{result_sample, row_answer}
use Rattle.pnm_tools.proofs.FormulaLaws.{row_at, rows_are, range_alike}
use Rattle.pnm_tools.proofs.ImageLaws.{result_by_head, answered_by_rows, answers_to_rows}
use Rattle.pnm_tools.proofs.AnsweringLaws.{AnswersImages}
use Rattle.pnm_tools.proofs.PixelLaws.{rows_by_pixels}
use Rattle.pnm_tools.proofs.WholeHeadLaws.{is_tiled}

-- no row is answered before the end
none_before_end : (across down : ℕ) (s : Shape) (y : ℕ) (rows : List (List ℕ)) → answers_to_rows (Tile across down) s y rows ≡ []
unfolding row_answer
none_before_end across down s y [] = refl
none_before_end across down s y (row ∷ rows) = none_before_end across down s (y + 1) rows

-- a row of an image by its number
row_is : (i : Image) (y : ℕ) → y < i.head.shape.height → slice_index_or (rows_of i) y [] ≡ row_at i y
row_is i y lt = ap (λ (rows : List (List ℕ)). slice_index_or rows y []) (rows_are i) ∙ get_or-map-range_with_len (row_at i) 0 i.head.shape.height y y [] lt
    (omega arith)

-- the rows of the result
rows_are_tiled : (across down : ℕ) (i : Image) → 0 < i.head.shape.height → IsImage i
    → tiled_at_end across down i.head.shape (rows_of i) ≡ rows_of (image_by (tiled_head_value across down i.head) (tiled_sample i))
rows_are_tiled across down i high is =
    let s : Shape = i.head.shape in
    range_alike (λ y. tiled_row across s.width s.depth (slice_index_or (rows_of i) (y % s.height) []))
    (λ y. tiled_row across s.width s.depth (row_at i (y % s.height))) 0 down (λ y lt.
    ap (tiled_row across s.width s.depth) (row_is i (y % s.height) (mod-lt y high)))
    ∙ sym (rows_by_pixels i across down (λ x. x % s.width) (λ y. y % s.height) is (λ x lt. mod-lt x is.head.limits.width_low) (λ y lt. mod-lt y high))

-- the answers are the rows of the result
answer_is : (across down : ℕ) (i : Image) (result : HeadValue) → IsImage i → result_head (Tile across down) i.head ≡ Ok result
    → answers_to_rows (Tile across down) i.head.shape 0 (rows_of i) ++ tiled_at_end across down i.head.shape (rows_of i)
    ≡ rows_of (image_by result (result_sample (Tile across down) i))
unfolding result_sample
answer_is across down i result is e =
    let whole = is_tiled across down i.head result e in
    ap (λ (rows : List (List ℕ)). rows ++ tiled_at_end across down i.head.shape (rows_of i)) (none_before_end across down i.head.shape 0 (rows_of i))
    ∙ rows_are_tiled across down i whole.some_rows is
    ∙ ap (λ (h : HeadValue). rows_of (image_by h (tiled_sample i))) whole.within.result_is

-- a whole image that isn't refused is answered by the tiled image
pub tile_answers_images : (across down : ℕ) → AnswersImages (Tile across down)
tile_answers_images across down i j is e =
    answered_by_rows (Tile across down) i j e (answer_is across down i j.head is (result_by_head (Tile across down) i j e).head)
