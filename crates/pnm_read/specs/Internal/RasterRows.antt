-- Rows of a raster that are taken together.
use Rattle.std.specs.Prelude.{◌≡◌, ℕ, zero, suc, ◌*◌, ◌-◌, ◌≤◌, ◌⊎◌, List, [], ◌∷◌, ◌++◌, take, drop, length}
use Rattle.std.specs.Prelude.{Result, Ok, Err}
use Rattle.pnm_samples.specs.PixelRows.{bytes_for}
use Rattle.pnm_image.specs.declared.shape.Shape.{Shape}
use Rattle.pnm_image.specs.declared.shape.Kind.{Kind}
use Rattle.pnm_image.specs.declared.shape.Kind.TheVariants.{Bit, Gray, Color, Pam}
use Rattle.pnm_image.specs.Rows.{row_messages}
use Rattle.pnm_read.specs.declared.fault.InputFault.{InputFault}
use Rattle.pnm_read.specs.Said.{IsOutsideFault}
use Rattle.pnm_image.specs.declared.sample_width.SampleWidth.{SampleWidth}
use Rattle.pnm_image.specs.declared.sample_width.SampleWidth.TheVariants.{Bits, Bytes, Words}
use Rattle.pnm_image.specs.Heads.{row_length}
use Rattle.pnm_read.specs.declared.raster.Raster.{Raster}
use Rattle.pnm_read.specs.Said.{Said, in_turn, units_in_row, raw_row, rows_said, later_said, says_fault}
use Rattle.pnm_read.specs.Said.{after_messages}
use Rattle.pnm_read.specs.Items.{plain_sample}
use Rattle.pnm_read.specs.Internal.Units.{AreBytesWithin, samples_of_bytes}

-- a row is the first samples of its bytes, and has no byte more; none is of two bytes
abbrev pub FitsBytes : SampleWidth → Shape → Type 0
FitsBytes Bits s = bytes_for (row_length s) ≡ units_in_row Bits s
FitsBytes Bytes s = Unit {0}
FitsBytes Words s = ⊥

-- so many rows lie in these bytes, none of their samples above the maxval
pub record AreHeld (raster : Raster) (count : ℕ) (bytes : List ℕ) : Type 0 where
  pub fits : FitsBytes raster.sample_width raster.shape
  pub long : count * raster.units ≤ length bytes
  pub within : AreBytesWithin raster.sample_width raster.shape.maxval (take (count * raster.units) bytes)

-- so many rows of samples of two bytes lie in these bytes
pub record AreHeldWide (raster : Raster) (count : ℕ) (bytes : List ℕ) : Type 0 where
  pub sample_width : raster.sample_width ≡ Words
  pub long : count * raster.units * 2 ≤ length bytes

-- so many rows, each the samples of its bytes, without those of spare bits
abbrev pub rows_held : SampleWidth → Shape → ℕ → List ℕ → List (List ℕ)
rows_held p s zero bytes = []
rows_held p s (suc count) bytes =
    take (row_length s) (samples_of_bytes p (take (units_in_row p s) bytes))
    ∷ rows_held p s count (drop (units_in_row p s) bytes)

-- whatever comes after these bytes, so many rows in turn are these, and leave what is left of the bytes
abbrev pub TakesRows : Shape → ℕ → List (List ℕ) → List ℕ → List ℕ → Type 0
TakesRows s count rows before after = (rest : List ℕ)
    → in_turn (raw_row s) count (before ++ rest) ≡ Ok (rows, after ++ rest)

-- what is still to be said of a raster, and of what follows it, after so many more rows
abbrev pub due_after : ℕ → Raster → List ℕ → Said
due_after count raster text =
    rows_said later_said raster.format raster.shape (raster.shape.height - raster.y - count) text

-- Rows come next of the raster, and these bytes are left after them; or the first of them is at fault.
abbrev pub FindsRows : Raster → Result (List (List ℕ)) InputFault → List ℕ → List ℕ → Type 0
FindsRows raster (Ok rows) before after =
    (1 ≤ length rows) × (length rows ≤ raster.shape.height - raster.y)
    × (rows_said later_said raster.format raster.shape (raster.shape.height - raster.y) before
    ≡ after_messages (row_messages rows) (due_after (length rows) raster after))
FindsRows raster (Err fault) before after =
    (rows_said later_said raster.format raster.shape (raster.shape.height - raster.y) before ≡ says_fault fault)
    ⊎ IsOutsideFault fault

-- whatever comes after these bytes, the samples of so many plain rows are read in turn, and were appended
pub record TakesPlain (s : Shape) (count : ℕ) (before after old new : List ℕ) : Type 0 where
  pub samples : List ℕ
  pub appended : new ≡ old ++ samples
  pub read : (rest : List ℕ) → in_turn (plain_sample s.kind s.maxval) (count * row_length s) (before ++ rest)
      ≡ Ok (samples, after ++ rest)

-- the greatest sample that an image of this kind and maxval may have
abbrev pub greatest_in : Kind → ℕ → ℕ
greatest_in Bit maxval = 1
greatest_in Gray maxval = maxval
greatest_in Color maxval = maxval
greatest_in Pam maxval = maxval
