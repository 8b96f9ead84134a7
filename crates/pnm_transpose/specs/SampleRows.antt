-- Rows of one width of samples, and which columns of them are made side by side.
use Rattle.std.specs.Prelude.{◌≡◌, ℕ, ◌≤◌, List, []}
use Rattle.pnm_image.specs.declared.sample_width.SampleWidth.{SampleWidth}
use Rattle.pnm_image.specs.declared.sample_width.SampleWidth.TheVariants.{Bits as OfBits, Bytes as OfBytes}
use Rattle.pnm_image.specs.declared.sample_width.SampleWidth.TheVariants.{Words as OfWords}
use Rattle.pnm_image.specs.declared.shape.Shape.{Shape}
use Rattle.pnm_transpose.specs.declared.sample_rows.SampleRows.{SampleRows}
use Rattle.pnm_transpose.specs.declared.sample_rows.SampleRows.TheVariants.{Bits, Bytes, Words}

-- the samples of each row that stands in no strip
abbrev pub row_lists : SampleRows → List (List ℕ)
row_lists (Bits rows) = rows
row_lists (Bytes kept) = kept.rows
row_lists (Words kept) = kept.rows

-- the samples of each strip
abbrev pub strip_lists : SampleRows → List (List ℕ)
strip_lists (Bits rows) = []
strip_lists (Bytes kept) = kept.strips.items
strip_lists (Words kept) = kept.strips.items

-- how wide they are held
abbrev pub rows_width : SampleRows → SampleWidth
rows_width (Bits rows) = OfBits
rows_width (Bytes rows) = OfBytes
rows_width (Words rows) = OfWords

-- each row of an image of this shape can be held so, and packed pixels have one plane
abbrev pub SuitsShape : SampleWidth → Shape → Type 0
SuitsShape OfBits s = (s.maxval ≤ 1) × (s.depth ≡ 1)
SuitsShape OfBytes s = s.maxval ≤ 255
SuitsShape OfWords s = Unit {0}
