-- What tools that repeat keep while the rows of an image come, and the rows of the result that they still give.
use Rattle.std.specs.Prelude.{◌≡◌, ℕ, ◌-◌, ◌*◌, ◌<◌, ◌≤◌, ◌%◌, List, []}
use Rattle.std.specs.Prelude.{map, length, min, take}
use Rattle.std.specs.Prelude.{slice_index_or, All}
use Rattle.std.specs.List.{range_with_len}
use Rattle.pnm_image.specs.declared.limits.TheConstants.{MAX_ROW_LENGTH}
use Rattle.pnm_image.specs.declared.shape.Shape.{Shape}
use Rattle.pnm_image.specs.Heads.{IsWithinLimits, row_length}
use Rattle.pnm_repeat_tools.specs.declared.enlarge.Enlarger.{Enlarger}
use Rattle.pnm_repeat_tools.specs.Enlarging.{waiting_due, waiting_rows}
use Rattle.pnm_tools.specs.Tile.{tiled_row}

-- ---- pamenlarge: copies of a row, and the rows that wait behind it

abbrev pub across_of : Enlarger → ℕ
across_of w = w.across

abbrev pub down_of : Enlarger → ℕ
down_of w = w.down

abbrev pub enlarged_due : Enlarger → List (List ℕ)
enlarged_due w = waiting_due w.waiting

abbrev pub kept_rows : Enlarger → List (List ℕ)
kept_rows w = waiting_rows w.waiting

-- ---- pnmtile: what the result shows of the rows, the next one first

-- the columns of a row that so many columns show, from the first one on
abbrev pub shown_row : ℕ → Shape → List ℕ → List ℕ
shown_row width s row = take (min width s.width * s.depth) row

-- so many columns and rows to fill; the columns that are kept, and the planes of the image; how many rows are still to
-- be given
pub record Tiled : Type 0 where
  pub width : ℕ
  pub height : ℕ
  pub image_width : ℕ
  pub depth : ℕ
  pub rows : List (List ℕ)
  pub left : ℕ

abbrev pub tiled : ℕ → ℕ → ℕ → ℕ → List (List ℕ) → ℕ → Tiled
tiled width height image_width depth rows left =
    record { width = width; height = height; image_width = image_width; depth = depth; rows = rows; left = left }

-- no sample of these rows is above the maxval
abbrev pub AreWithin : ℕ → List (List ℕ) → Type 0
AreWithin maxval rows = All (λ row. All (λ sample. sample ≤ maxval) row) rows

pub record IsTiling (w : Tiled) (s : Shape) (come : List (List ℕ)) : Type 0 where
  pub limits : IsWithinLimits s
  pub some : 0 < s.height
  pub filled : w.width * s.depth ≤ MAX_ROW_LENGTH
  pub rows : w.rows ≡ map (shown_row w.width s) (take w.height come)
  pub lengths : All (λ row. length row ≡ row_length s) come
  pub range : AreWithin s.maxval come
  pub none_given : w.left ≡ 0

-- a row of the result, by its number: so many columns, of rows of so many columns and planes
abbrev pub row_of_tiles : ℕ → ℕ → ℕ → List (List ℕ) → ℕ → List ℕ
row_of_tiles width image_width depth rows y =
    tiled_row width image_width depth (slice_index_or rows (y % length rows) [])

-- those that are left are the last ones
abbrev pub tiled_due : Tiled → List (List ℕ)
tiled_due w = map (row_of_tiles w.width w.image_width w.depth w.rows) (range_with_len (w.height - w.left) w.left)
