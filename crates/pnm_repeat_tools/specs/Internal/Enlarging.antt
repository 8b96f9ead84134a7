-- Between functions: rows of an image that came together and are still to be enlarged.
use Rattle.std.specs.Prelude.{ℕ, ◌<◌, List, length}
use Rattle.std.specs.List.{AllByRecursion}
use Rattle.pnm_image.specs.declared.shape.Shape.{Shape}
use Rattle.pnm_image.specs.Places.{IsRowOf}
use Rattle.pnm_tools.specs.ToolLimits.{IsExtent}
use Rattle.pnm_repeat_tools.specs.Enlarging.{IsEnlarging, ToEnlarge}

abbrev pub to_enlarge : ℕ → ℕ → Shape → List (List ℕ) → ToEnlarge
to_enlarge across down shape rows = record { across = across; down = down; shape = shape; rows = rows }

-- there are some, they are rows of the image, and so many times as large they stay within the limits
pub record CanBeEnlarged (w : ToEnlarge) : Type 0 where
  pub across : IsExtent w.across
  pub down : IsExtent w.down
  pub ready : IsEnlarging w.across w.shape
  pub some : 0 < length w.rows
  pub rows : AllByRecursion (IsRowOf w.shape) w.rows
