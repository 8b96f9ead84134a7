-- Rows of an image that came together and are still to be enlarged.
use Rattle.std.specs.Prelude.{ℕ, ◌*◌, ◌≤◌, List, [], map, replicate, Option, Some, None}
use Rattle.std.specs.List.{flat_map}
use Rattle.pnm_image.specs.declared.limits.TheConstants.{MAX_ROW_LENGTH, MAX_SIDE}
use Rattle.pnm_image.specs.declared.shape.Shape.{Shape}
use Rattle.pnm_image.specs.Heads.{IsWithinLimits}
use Rattle.pnm_tools.specs.Enlarge.{enlarged_row}

-- for images of a shape that stays within the limits with its pixels repeated
pub record IsEnlarging (across : ℕ) (s : Shape) : Type 0 where
  pub limits : IsWithinLimits s
  pub width : s.width * across ≤ MAX_SIDE
  pub row : s.width * across * s.depth ≤ MAX_ROW_LENGTH

-- how many times each pixel is to stand across and each row down, the shape of the image, and the rows
pub record ToEnlarge : Type 0 where
  pub across : ℕ
  pub down : ℕ
  pub shape : Shape
  pub rows : List (List ℕ)

-- the rows of the result that rows of an image of this shape make
abbrev pub larger_rows : ℕ → ℕ → Shape → List (List ℕ) → List (List ℕ)
larger_rows across down s rows = flat_map (replicate down) (map (enlarged_row across s) rows)

-- those that rows make which wait, if some do
abbrev pub waiting_due : Option ToEnlarge → List (List ℕ)
waiting_due None = []
waiting_due (Some w) = larger_rows w.across w.down w.shape w.rows

-- the rows that wait
abbrev pub waiting_rows : Option ToEnlarge → List (List ℕ)
waiting_rows None = []
waiting_rows (Some w) = w.rows
