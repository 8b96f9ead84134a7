-- Between functions: the bytes of images and of messages in either form.
use Rattle.std.specs.Prelude.{◌≡◌, ℕ, ◌%◌, List}
use Rattle.std.specs.List.{flat_map}
use Rattle.pnm_image.specs.declared.shape.Shape.{Shape}
use Rattle.pnm_image.specs.declared.format.Form.{Form}
use Rattle.pnm_image.specs.declared.sample_width.SampleWidth.{SampleWidth}
use Rattle.pnm_image.specs.declared.sample_width.SampleWidth.TheVariants.{Bits, Bytes, Words}
use Rattle.pnm_write.specs.Encoding.{row_bytes}

-- ---- rows

-- the bytes of rows, one after another
abbrev pub rows_bytes : Form → Shape → List (List ℕ) → List ℕ
rows_bytes form s rows = flat_map (row_bytes form s) rows

-- rows of so many samples are whole bytes: the bytes of each begin where those of the one before it end
abbrev pub AreWholeBytes : SampleWidth → ℕ → Type 0
AreWholeBytes Bits row_length = row_length % 8 ≡ 0
AreWholeBytes Bytes row_length = Unit {0}
AreWholeBytes Words row_length = Unit {0}
