-- The cut image, from pamcut(1): a rectangle of the image. The options name its edges, the first and the last column
-- and the first and the last row that are kept, or in place of one of two edges its width or its height. An edge is
-- counted from the left or the top, from 0; a negative one from the right or the bottom, so that -1 is the last column
-- or row.
use Rattle.std.specs.Prelude.{◌≤◌, ℕ, suc, ◌+◌, ◌-◌, ◌*◌, ℤ, pos, negsuc, ◌+ℤ◌, ◌-ℤ◌, unsigned_abs, Option, Some, None}
use Rattle.std.specs.Prelude.{IfSome, IsSome, List, [], ◌∷◌, take, drop, Result, Ok, Err, nat_le, nat_lt, ◌==◌}
use Rattle.std.specs.Prelude.{◌&&◌, if◌then◌else◌, false}
use Rattle.pnm_tools.specs.declared.limits.TheConstants.{MAX_EXTENT}
use Rattle.pnm_image.specs.declared.shape.Shape.{Shape}
use Rattle.pnm_image.specs.Heads.{HeadValue}
use Rattle.pnm_image.specs.Images.{Image, sample_at}
use Rattle.pnm_tools.specs.declared.cut.CutBox.{CutBox}
use Rattle.pnm_tools.specs.declared.cut.Span.{Span}
use Rattle.pnm_tools.specs.declared.fault.ToolFault.{ToolFault}
use Rattle.pnm_tools.specs.declared.fault.ToolFault.TheVariants.{CutOutside, OutOfOrder}
use Rattle.pnm_tools.specs.ToolLimits.{IsExtent}
use Rattle.pnm_tools.specs.Meaning.{Meaning, RowRule}

-- an edge lies as far as the greatest extent from either end
abbrev pub IsEdge : ℤ → Type 0
IsEdge edge = unsigned_abs edge ≤ MAX_EXTENT

-- the options of one axis: both edges and the size don't stand together
pub record IsLawfulAxis (start end : Option ℤ) (size : Option ℕ) : Type 0 where
  pub start_edge : IfSome start IsEdge
  pub end_edge : IfSome end IsEdge
  pub one_size : IfSome size IsExtent
  pub one_free : IsSome start × IsSome end × IsSome size → ⊥

pub record IsLawfulBox (box : CutBox) : Type 0 where
  pub columns : IsLawfulAxis box.left box.right box.width
  pub rows : IsLawfulAxis box.top box.bottom box.height

-- a column or a row of so many, by its number; a negative one counts from the end
abbrev pub edge_of : ℕ → ℤ → ℤ
edge_of count (pos n) = pos n
edge_of count (negsuc n) = pos count -ℤ pos (suc n)

-- the first and the last column or row that is kept
abbrev pub first_kept : ℕ → Option ℤ → Option ℤ → Option ℕ → ℤ
first_kept count (Some start) end size = edge_of count start
first_kept count None (Some end) (Some size) = (edge_of count end -ℤ pos size) +ℤ pos 1
first_kept count None (Some end) None = pos 0
first_kept count None None size = pos 0

abbrev pub last_kept : ℕ → Option ℤ → Option ℤ → Option ℕ → ℤ
last_kept count start (Some end) size = edge_of count end
last_kept count (Some start) None (Some size) = (edge_of count start +ℤ pos size) -ℤ pos 1
last_kept count None None (Some size) = pos size -ℤ pos 1
last_kept count start None None = pos count -ℤ pos 1

-- the span of what is kept; none where it lies outside the image, or the last before the first
abbrev pub span_within : ℕ → ℤ → ℤ → Option Span
span_within count (pos first) (pos last) =
    if nat_le first last && nat_lt last count then Some (record { first = first; last = last }) else None
span_within count (pos first) (negsuc last) = None
span_within count (negsuc first) last = None

abbrev pub span_of : ℕ → Option ℤ → Option ℤ → Option ℕ → Option Span
span_of count start end size = span_within count (first_kept count start end size) (last_kept count start end size)

abbrev pub columns_kept : CutBox → Shape → Option Span
columns_kept box s = span_of s.width box.left box.right box.width

abbrev pub rows_kept : CutBox → Shape → Option Span
rows_kept box s = span_of s.height box.top box.bottom box.height

abbrev pub span_count : Span → ℕ
span_count span = (span.last + 1) - span.first

-- the head of the columns and rows that are kept; the tool sees whole images alone, so that a height of 0 is out of
-- order
abbrev pub head_of_spans : HeadValue → Option Span → Option Span → Result HeadValue ToolFault
head_of_spans head (Some columns) (Some rows) =
    Ok (record head { shape = record head.shape { width = span_count columns; height = span_count rows } })
head_of_spans head (Some columns) None = Err CutOutside
head_of_spans head None rows = Err CutOutside

abbrev pub cut_head : CutBox → HeadValue → Result HeadValue ToolFault
cut_head box head = if head.shape.height == 0 then Err OutOfOrder else head_of_spans head (columns_kept box head.shape)
    (rows_kept box head.shape)

-- the first of what is kept, from 0
abbrev pub first_of : Option Span → ℕ
first_of (Some span) = span.first
first_of None = 0

abbrev pub cut_sample : CutBox → Image → ℕ → ℕ → ℕ → ℕ
cut_sample box i x y p =
    sample_at i (x + first_of (columns_kept box i.head.shape)) (y + first_of (rows_kept box i.head.shape)) p

-- the columns of a row that are kept
abbrev pub columns_of_row : {X : Type 0} → Span → ℕ → List X → List X
columns_of_row columns depth row = take (span_count columns * depth) (drop (columns.first * depth) row)

-- the rows that answer row y
abbrev pub rows_of_spans : Option Span → Option Span → ℕ → ℕ → List ℕ → List (List ℕ)
rows_of_spans (Some columns) (Some rows) depth y row =
    if nat_le rows.first y && nat_le y rows.last then columns_of_row columns depth row ∷ [] else []
rows_of_spans (Some columns) None depth y row = []
rows_of_spans None rows depth y row = []

abbrev pub cut_rows_of : CutBox → Shape → ℕ → List ℕ → List (List ℕ)
cut_rows_of box s y row = rows_of_spans (columns_kept box s) (rows_kept box s) s.depth y row

abbrev pub cutting : CutBox → Meaning
cutting box = record {
  lawful = IsLawfulBox box;
  row_wise = false;
  head = cut_head box;
  sample = cut_sample box;
}

abbrev pub cut_row_rule : CutBox → RowRule
cut_row_rule box = record { row_answer = cut_rows_of box; end_answer = λ s rows. [] }
