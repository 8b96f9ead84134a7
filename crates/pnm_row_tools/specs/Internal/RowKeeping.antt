-- Between functions: what tools keep while the rows of an image come, and the rows of the result that they still
-- give.
use Rattle.std.specs.Prelude.{ℕ, ◌*◌, List, All, Option, Some, None}
use Rattle.pnm_image.specs.declared.shape.Shape.{Shape}
use Rattle.pnm_image.specs.Heads.{IsWithinLimits}
use Rattle.pnm_image.specs.Places.{IsRowOf}
use Rattle.pnm_row_tools.specs.declared.cut.Parts.{Parts}
use Rattle.pnm_tools.specs.declared.cut.Span.{Span}
use Rattle.pnm_tools.specs.Cut.{span_count}
use Rattle.pnm_tools.specs.Flip.{ReversesRows, transform_of}
use Rattle.pnm_row_tools.specs.RowKeeping.{Reversed}

-- ---- pamcut: the columns and the rows that are kept of an image

-- what is kept of these of the rows of so many samples, where these columns of so many planes are
abbrev pub parts_kept : Span → Span → ℕ → ℕ → Parts
parts_kept columns among depth row_length = record {
  top = among.first;
  count = span_count among;
  row_length = row_length;
  first = columns.first * depth;
  kept = span_count columns * depth;
}

-- ---- pamchannel

-- the shape with so many columns, as that of one long row of all pixels
abbrev pub as_wide : ℕ → Shape → Shape
as_wide width s = record s { width = width }

-- ---- pamflip where the order of rows is reversed: all rows

-- they are rows of an image that has ended
abbrev pub AreRowsOf : Option Shape → List (List ℕ) → Type 0
AreRowsOf None rows = Unit {0}
AreRowsOf (Some s) rows = IsWithinLimits s × All (IsRowOf s) rows

pub record CanReverse (w : Reversed) : Type 0 where
  pub way : ReversesRows (transform_of w.way)
  pub rows : AreRowsOf w.ended w.rows
