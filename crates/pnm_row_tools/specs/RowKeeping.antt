-- What tools keep while the rows of an image come, and the rows of the result that they still give.
use Rattle.std.specs.Prelude.{◌≡◌, ℕ, ◌+◌, false, List, [], map, reverse, All, Option, Some, None}
use Rattle.std.specs.List.{flat_map, range_with_len}
use Rattle.pnm_image.specs.declared.shape.Shape.{Shape}
use Rattle.pnm_image.specs.Heads.{IsWithinLimits}
use Rattle.pnm_image.specs.Places.{IsRowOf}
use Rattle.pnm_row_tools.specs.declared.cut.Cutter.{Cutter}
use Rattle.pnm_row_tools.specs.declared.samplewise.Samplewise.{Samplewise}
use Rattle.pnm_row_tools.specs.declared.samplewise.Table.{Table}
use Rattle.pnm_row_tools.specs.declared.samplewise.Table.TheVariants.{Absent, Words}
use Rattle.pnm_tools.specs.declared.cut.CutBox.{CutBox}
use Rattle.pnm_tools.specs.declared.flip.FlipWay.{FlipWay}
use Rattle.pnm_tools.specs.Cut.{columns_kept, rows_kept}
use Rattle.pnm_tools.specs.Samplewise.{SampleRule}
use Rattle.pnm_tools.specs.Flip.{transform_of, moves_rows, transformed_row}

-- ---- tools that make rows of rows

-- the tool is ready for the next row of an image of this shape, whichever rows have come; proofs about all tools read
-- this as one fact
unfoldable pub IsReadyForRows : {W : Type 0} → (W → Shape → Type 0) → W → Shape → List (List ℕ) → Type 0
IsReadyForRows ready work s rows = ready work s

-- ---- pamcut: the columns and the rows that are kept of an image

abbrev pub cut_of : Cutter → CutBox
cut_of w = w.cut

pub record HasSpans (w : Cutter) (s : Shape) : Type 0 where
  pub columns : columns_kept w.cut s ≡ Some w.columns
  pub rows : rows_kept w.cut s ≡ Some w.rows

-- ---- tools that change each sample by itself: a table of them, or none, where each is computed

-- what becomes of each sample from 0 to the maxval
abbrev pub IsTable : (ℕ → ℕ) → ℕ → Table → Type 0
IsTable changed maxval Absent = Unit {0}
IsTable changed maxval (Words words) = words.items ≡ map changed (range_with_len 0 (maxval + 1))

-- the tool, which follows this rule, has the table for an image of this shape
pub record HasTable {T : Type 0} (rule : T → SampleRule) (w : Samplewise T) (s : Shape) : Type 0 where
  pub limits : IsWithinLimits s
  pub table : IsTable ((rule w.tool).sample s.maxval) s.maxval w.table

-- ---- pamflip where rows stay in their places

abbrev pub KeepsRows : FlipWay → Type 0
KeepsRows way = moves_rows (transform_of way) ≡ false

-- rows of a shape within the limits stay in their places
pub record FlipsInRows (way : FlipWay) (s : Shape) : Type 0 where
  pub limits : IsWithinLimits s
  pub stays : KeepsRows way

-- ---- pamflip where the order of rows is reversed: all rows

-- rows that were handed over together, one after another
abbrev pub flattened : List (List (List ℕ)) → List (List ℕ)
flattened blocks = flat_map (λ rows. rows) blocks

-- the way, the rows that are kept, and once the image has ended its shape
pub record Reversed : Type 0 where
  pub way : FlipWay
  pub rows : List (List ℕ)
  pub ended : Option Shape

abbrev pub reversed : FlipWay → List (List ℕ) → Option Shape → Reversed
reversed way rows ended = record { way = way; rows = rows; ended = ended }

pub record IsReversingRows (w : Reversed) (s : Shape) (come : List (List ℕ)) : Type 0 where
  pub limits : IsWithinLimits s
  pub rows : w.rows ≡ come
  pub each : All (IsRowOf s) come
  pub none_given : w.ended ≡ None

-- the last row first, each the last pixel first or as it is
abbrev pub reversed_due : Reversed → List (List ℕ)
reversed_due w = elim w.ended [
  | None ↦ []
  | Some s ↦ map (transformed_row (transform_of w.way) s) (reverse w.rows)
]
