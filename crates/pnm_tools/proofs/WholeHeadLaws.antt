-- The heads of the results of tools that see whole images.
use Rattle.pnm_tools.proofs.Words.{◌≡◌, ℕ, ◌<◌, Bool, true, false, not, ◌&&◌, Ok, Err, Result, refl, pos_of_ne-zero, ◌==◌, if◌then◌else◌, eqb-false, HeadValue}
use Rattle.pnm_tools.proofs.Words.{is_too_large, ToolFault, OutOfOrder, TooLarge, FlipWay, Transform, Enlarge, Flip, Tile, within_limits, enlarged_head_value}
use Rattle.pnm_tools.proofs.Words.{transform, transform_of, transformed_head, transposed_head_value, transformed_head_value, tiled_head_value}
use Rattle.pnm_tools.specs.Tools.{result_head}

-- a head within the limits is the result's
pub record IsWithin (head result : HeadValue) : Type 0 where
  pub limits : is_too_large head.shape ≡ false
  pub result_is : head ≡ result

-- what the test of the limits has found
within_by : (too_large : Bool) (head result : HeadValue) → is_too_large head.shape ≡ too_large
    → ◌≡◌ {A = Result HeadValue ToolFault} (if too_large then Err TooLarge else Ok head) (Ok result) → IsWithin head result
within_by true head result is e = absurd cc
within_by false head result is e = record { limits = is; result_is = cc }

-- a head that the limits let pass is within them
pub is_within : (head result : HeadValue) → within_limits head ≡ Ok result → IsWithin head result
is_within head result e = within_by (is_too_large head.shape) head result refl e

-- what isn't out of order
pub record InOrder (out : Bool) (r : Result HeadValue ToolFault) (result : HeadValue) : Type 0 where
  pub in_order : out ≡ false
  pub same : r ≡ Ok result

-- what is answered where an image out of order is refused first
in_order : (out : Bool) (r : Result HeadValue ToolFault) (result : HeadValue) → (if out then Err OutOfOrder else r) ≡ Ok result → InOrder out r result
in_order true r result e = absurd cc
in_order false r result e = record { in_order = refl; same = e }

-- the head of an enlarged image
pub is_enlarged : (across down : ℕ) (head result : HeadValue) → result_head (Enlarge across down) head ≡ Ok result
    → IsWithin (enlarged_head_value across down head) result
unfolding result_head
is_enlarged across down head result e =
    is_within (enlarged_head_value across down head) result
    (in_order (not (down == 1) && (head.shape.height == 0)) (within_limits (enlarged_head_value across down head)) result e).same

-- an image with rows, whose result has a head within the limits
pub record IsWhole (head made result : HeadValue) : Type 0 where
  pub some_rows : 0 < head.shape.height
  pub within : IsWithin made result

-- the head of a tiled image
pub is_tiled : (across down : ℕ) (head result : HeadValue) → result_head (Tile across down) head ≡ Ok result
    → IsWhole head (tiled_head_value across down head) result
unfolding result_head
is_tiled across down head result e =
    let order = in_order (head.shape.height == 0) (within_limits (tiled_head_value across down head)) result e in
    record {
      some_rows = pos_of_ne-zero (eqb-false head.shape.height 0 order.in_order);
      within = is_within (tiled_head_value across down head) result order.same;
    }

-- the head of a flipped image is what the rule makes of the head; where columns and rows are exchanged the image has rows,
-- and the result is within the limits
pub record IsTransformed (t : Transform) (head result : HeadValue) : Type 0 where
  pub result_is : transformed_head_value t head ≡ result
  pub some_rows : t.exchanged ≡ true → 0 < head.shape.height
  pub limits : t.exchanged ≡ true → is_too_large (transposed_head_value head).shape ≡ false

transformed_by : (columns rows exchanged : Bool) (head result : HeadValue) → transformed_head (transform columns rows exchanged) head ≡ Ok result
    → IsTransformed (transform columns rows exchanged) head result
transformed_by columns rows true head result e =
    let order = in_order (head.shape.height == 0) (within_limits (transposed_head_value head)) result e in
    let within = is_within (transposed_head_value head) result order.same in
    record {
      result_is = within.result_is;
      some_rows = λ _. pos_of_ne-zero (eqb-false head.shape.height 0 order.in_order);
      limits = λ _. within.limits;
    }
transformed_by columns rows false head result e =
    let same = (in_order (rows && (head.shape.height == 0)) (Ok head) result e).same in
    record { result_is = cc; some_rows = λ exchanged. absurd cc; limits = λ exchanged. absurd cc }

pub transformed_is : (t : Transform) (head result : HeadValue) → transformed_head t head ≡ Ok result → IsTransformed t head result
transformed_is t head result e = transformed_by t.columns_reversed t.rows_reversed t.exchanged head result e

pub is_transformed : (way : FlipWay) (head result : HeadValue) → result_head (Flip way) head ≡ Ok result → IsTransformed (transform_of way) head result
unfolding result_head
is_transformed way head result e = transformed_is (transform_of way) head result e
