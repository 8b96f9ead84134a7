-- The flipped image, from pamflip(1): the same, flipped left for right, flipped top for bottom, transposed, columns and
-- rows exchanged, or turned counterclockwise by one, two or three quarters. Each way is a rule as well: which orders
-- are reversed, and whether columns and rows are exchanged then.
use Rattle.std.specs.Prelude.{◌≡◌, ℕ, ◌-◌, ◌==◌, List, [], ◌∷◌, map, reverse, Result, Ok, Err, if◌then◌else◌, Bool}
use Rattle.std.specs.Prelude.{true, false, not, ◌&&◌, ◌||◌}
use Rattle.std.specs.List.{flat_map, range_with_len}
use Rattle.pnm_image.specs.declared.shape.Shape.{Shape}
use Rattle.pnm_image.specs.Heads.{HeadValue}
use Rattle.pnm_image.specs.Images.{Image, sample_at}
use Rattle.pnm_tools.specs.declared.fault.ToolFault.{ToolFault}
use Rattle.pnm_tools.specs.declared.fault.ToolFault.TheVariants.{OutOfOrder}
use Rattle.pnm_tools.specs.declared.flip.FlipWay.{FlipWay}
use Rattle.pnm_tools.specs.declared.flip.FlipWay.TheVariants.{Null, LeftRight, TopBottom, Transpose, Rotate90}
use Rattle.pnm_tools.specs.declared.flip.FlipWay.TheVariants.{Rotate180, Rotate270}
use Rattle.pnm_tools.specs.declared.flip.Transform.{Transform}
use Rattle.pnm_tools.specs.ToolLimits.{within_limits}
use Rattle.pnm_tools.specs.PixelSamples.{pixel_of}
use Rattle.pnm_tools.specs.Meaning.{Meaning, RowRule}

-- ---- the ways

-- the sample of the result in a column, a row and a plane
abbrev pub flipped_sample : FlipWay → Image → ℕ → ℕ → ℕ → ℕ
flipped_sample Null i x y p = sample_at i x y p
flipped_sample LeftRight i x y p = sample_at i (i.head.shape.width - 1 - x) y p
flipped_sample TopBottom i x y p = sample_at i x (i.head.shape.height - 1 - y) p
flipped_sample Transpose i x y p = sample_at i y x p
flipped_sample Rotate90 i x y p = sample_at i (i.head.shape.width - 1 - y) x p
flipped_sample Rotate180 i x y p = sample_at i (i.head.shape.width - 1 - x) (i.head.shape.height - 1 - y) p
flipped_sample Rotate270 i x y p = sample_at i y (i.head.shape.height - 1 - x) p

-- a rule: the order of the columns is reversed or not, and that of the rows, and then columns and rows are exchanged or
-- not
abbrev pub transform : Bool → Bool → Bool → Transform
transform columns_reversed rows_reversed exchanged =
    record { columns_reversed = columns_reversed; rows_reversed = rows_reversed; exchanged = exchanged }

-- the rule of each way
abbrev pub transform_of : FlipWay → Transform
transform_of Null = transform false false false
transform_of LeftRight = transform true false false
transform_of TopBottom = transform false true false
transform_of Transpose = transform false false true
transform_of Rotate90 = transform true false true
transform_of Rotate180 = transform true true false
transform_of Rotate270 = transform false true true

-- ---- what a rule makes of an image

-- rows don't stay in their places
abbrev pub moves_rows : Transform → Bool
moves_rows t = t.exchanged || t.rows_reversed

abbrev pub transposed_head_value : HeadValue → HeadValue
transposed_head_value head =
    record head { shape = record head.shape { width = head.shape.height; height = head.shape.width } }

-- where rows change places the tool isn't row-wise, so that a height of 0 is out of order
abbrev pub transformed_head : Transform → HeadValue → Result HeadValue ToolFault
transformed_head t head =
    if moves_rows t && (head.shape.height == 0) then Err OutOfOrder
    else if t.exchanged then within_limits (transposed_head_value head)
    else Ok head

-- a list, last first or not
abbrev pub in_order : {X : Type 0} → Bool → List X → List X
in_order reversed xs = if reversed then reverse xs else xs

-- a row of an image of this shape, the last pixel first
abbrev pub mirrored_row : {X : Type 0} → Shape → List X → List X
mirrored_row s row = flat_map (λ x. pixel_of s.depth row (s.width - 1 - x)) (range_with_len 0 s.width)

abbrev pub transformed_row : Transform → Shape → List ℕ → List ℕ
transformed_row t s row = if t.columns_reversed then mirrored_row s row else row

-- a column of the rows of an image of so many planes
abbrev pub column_of : {X : Type 0} → ℕ → List (List X) → ℕ → List X
column_of depth rows x = flat_map (λ row. pixel_of depth row x) rows

-- the rows that answer a row
abbrev pub transformed_rows : Transform → Shape → List ℕ → List (List ℕ)
transformed_rows t s row = if moves_rows t then [] else transformed_row t s row ∷ []

-- the rows of the result, where they are others than those of an image of this shape and of these rows
abbrev pub moved_rows : Transform → Shape → List (List ℕ) → List (List ℕ)
moved_rows t s rows =
    if t.exchanged then in_order t.columns_reversed
    (map (column_of s.depth (in_order t.rows_reversed rows)) (range_with_len 0 s.width))
    else map (transformed_row t s) (reverse rows)

-- the rows that answer the end of the image
abbrev pub transformed_at_end : Transform → Shape → List (List ℕ) → List (List ℕ)
transformed_at_end t s rows = if moves_rows t then moved_rows t s rows else []

-- the order of the rows is reversed, and they stay rows
pub record ReversesRows (t : Transform) : Type 0 where
  pub reversed : t.rows_reversed ≡ true
  pub stay_rows : t.exchanged ≡ false

abbrev pub flipping : FlipWay → Meaning
flipping way = record {
  lawful = Unit {0};
  row_wise = not (moves_rows (transform_of way));
  head = transformed_head (transform_of way);
  sample = flipped_sample way;
}

abbrev pub flipped_row_rule : FlipWay → RowRule
flipped_row_rule way =
    record {
      row_answer = λ s y row. transformed_rows (transform_of way) s row;
      end_answer = transformed_at_end
          (transform_of way);
    }
