-- What a transposer keeps while the rows of an image come, and the rows of the result that it still gives.
use Rattle.std.specs.Prelude.{◌≡◌, ℕ, ◌-◌, ◌*◌, ◌<◌, ◌≤◌, List, [], ◌++◌}
use Rattle.std.specs.Prelude.{map, length, reverse}
use Rattle.std.specs.List.{range_with_len}
use Rattle.pnm_image.specs.declared.limits.TheConstants.{MAX_ROW_LENGTH}
use Rattle.pnm_image.specs.declared.sample_width.SampleWidth.{SampleWidth}
use Rattle.pnm_image.specs.declared.shape.Shape.{Shape}
use Rattle.pnm_image.specs.Heads.{IsWithinLimits}
use Rattle.pnm_tools.specs.declared.flip.FlipWay.{FlipWay}
use Rattle.pnm_tools.specs.Flip.{transform_of, in_order, column_of}
use Rattle.pnm_transpose.specs.SampleRows.{SuitsShape}
use Rattle.pnm_transpose.specs.Strips.{HaveSizes, coming_column, kept_column, kept_count}

-- the way, the planes of the image, how its rows are held, the strips and the rows after them; the batch, whose last
-- row is given next; and of all the columns, which become the rows of the result, those from `next` up to `columns`
-- aren't in a batch yet
pub record Transposed : Type 0 where
  pub way : FlipWay
  pub depth : ℕ
  pub sample_width : SampleWidth
  pub strips : List (List ℕ)
  pub rows : List (List ℕ)
  pub batch : List (List ℕ)
  pub next : ℕ
  pub columns : ℕ

abbrev pub transposed : FlipWay → ℕ → SampleWidth → List (List ℕ) → List (List ℕ) → List (List ℕ) → ℕ → ℕ → Transposed
transposed way depth sample_width strips rows batch next columns =
    record {
      way = way;
      depth = depth;
      sample_width = sample_width;
      strips = strips;
      rows = rows;
      batch = batch;
      next = next;
      columns = columns;
    }

pub record IsTransposing (w : Transposed) (s : Shape) (come : List (List ℕ)) : Type 0 where
  pub limits : IsWithinLimits s
  pub column : s.height * s.depth ≤ MAX_ROW_LENGTH
  pub sample_width : SuitsShape w.sample_width s
  pub count : kept_count w.strips w.rows ≡ length come
  pub same : (x : ℕ) → x < s.width → coming_column (transform_of w.way).rows_reversed s.depth w.strips w.rows x
      ≡ column_of s.depth (in_order (transform_of w.way).rows_reversed come) x
  pub sizes : HaveSizes s.width s.depth w.strips w.rows
  pub none_made : (w.batch ≡ []) × (w.next ≡ 0) × (w.columns ≡ 0)

abbrev pub transposed_due : Transposed → List (List ℕ)
transposed_due w =
    reverse w.batch ++ in_order (transform_of w.way).columns_reversed
    (map (kept_column (transform_of w.way).rows_reversed w.depth w.strips w.rows)
    (range_with_len w.next (w.columns - w.next)))
