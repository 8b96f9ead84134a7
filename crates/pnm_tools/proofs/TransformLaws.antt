-- Each way is its rule, and what a rule says of orders and of rows.
use Rattle.pnm_tools.proofs.Words.{◌≡◌, ℕ, ◌<◌, Bool, true, false, ◌||◌, List, [], ◌∷◌, map, refl, sym, ap, ◌∙◌, arith, if◌then◌else◌, range_with_len, Shape}
use Rattle.pnm_tools.proofs.Words.{Image, FlipWay, Null, LeftRight, TopBottom, Transpose, Rotate90, Rotate180, Rotate270, Transform, Flip, flipped_sample}
use Rattle.pnm_tools.proofs.Words.{transform_of, in_order, moves_rows, transformed_row, transformed_sample, place_in, ReversesRows, row_answer}
use Rattle.pnm_tools.proofs.RangeLaws.{downward}
use Rattle.pnm_tools.proofs.RowLaws.{row_of_flip}

-- the formula of a way is that of its rule
pub flipped_is_transformed : (way : FlipWay) (i : Image) → flipped_sample way i ≡ transformed_sample (transform_of way) i
flipped_is_transformed Null i = refl
flipped_is_transformed LeftRight i = refl
flipped_is_transformed TopBottom i = refl
flipped_is_transformed Transpose i = refl
flipped_is_transformed Rotate90 i = refl
flipped_is_transformed Rotate180 i = refl
flipped_is_transformed Rotate270 i = refl

-- ---- orders

-- a place is one of as many
pub place_within : (b : Bool) (n k : ℕ) → k < n → place_in b n k < n
place_within true n k lt = omega arith
place_within false n k lt = lt

-- what is made of each number of a range, in either order
pub in_order_by_places : {A : Type 0} (b : Bool) (f : ℕ → A) (n : ℕ) → in_order b (map f (range_with_len 0 n)) ≡ map (λ k. f (place_in b n k))
    (range_with_len 0 n)
in_order_by_places true f n = sym (downward f n)
in_order_by_places false f n = refl

pub in_order_nil : {A : Type 0} (b : Bool) → in_order {X = A} b [] ≡ []
in_order_nil true = refl
in_order_nil false = refl

-- ---- rows that don't stay in their places

pub exchanged_moves : (t : Transform) → t.exchanged ≡ true → moves_rows t ≡ true
exchanged_moves t e = ap (λ (b : Bool). b || t.rows_reversed) e

pub reversed_moves : (t : Transform) → ReversesRows t → moves_rows t ≡ true
reversed_moves t h = ap (λ (b : Bool). b || t.rows_reversed) h.stay_rows ∙ h.reversed

-- they are answered by none
pub row_moved : (way : FlipWay) (s : Shape) (y : ℕ) (row : List ℕ) → moves_rows (transform_of way) ≡ true → row_answer (Flip way) s y row ≡ []
row_moved way s y row moves = row_of_flip way s y row ∙ ap (λ (b : Bool). if b then [] else transformed_row (transform_of way) s row ∷ []) moves

-- where they stay each is answered by itself, mirrored or not
pub row_stays : (way : FlipWay) (s : Shape) (y : ℕ) (row : List ℕ) → moves_rows (transform_of way) ≡ false
    → row_answer (Flip way) s y row ≡ transformed_row (transform_of way) s row ∷ []
row_stays way s y row stays = row_of_flip way s y row ∙ ap (λ (b : Bool). if b then [] else transformed_row (transform_of way) s row ∷ []) stays
