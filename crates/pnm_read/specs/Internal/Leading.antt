-- The samples that bytes of a plain raster begin with, whatever follows these bytes.
use Rattle.std.specs.Prelude.{◌≡◌, ℕ, ◌<◌, ◌≤◌, true, List, ◌++◌, length, take, drop, slice_index, Result, Ok}
use Rattle.pnm_image.specs.Texts.{is_white}
use Rattle.pnm_read.specs.declared.fault.InputFault.{InputFault}
use Rattle.pnm_read.specs.Rasters.{SpellsDecimal}
use Rattle.pnm_read.specs.Said.{in_turn}

-- the first so many bytes spell the number, and white space comes after them
pub record IsNumberFirst (bytes : List ℕ) (number count : ℕ) : Type 0 where
  pub within : count < length bytes
  pub spells : SpellsDecimal (take count bytes) number
  pub follows : is_white (slice_index bytes count) ≡ true

-- whatever follows the bytes, a sample is read by this item, and so many of the bytes are taken
pub record IsSampleFirst (item : List ℕ → Result (ℕ × List ℕ) InputFault) (bytes : List ℕ)
    (sample count : ℕ) : Type 0 where
  pub within : count ≤ length bytes
  pub read : (rest : List ℕ) → item (bytes ++ rest) ≡ Ok (sample, drop count bytes ++ rest)

-- whatever follows the bytes, samples are read in turn, which were appended, and so many of the bytes are taken
pub record TakesSamples (item : List ℕ → Result (ℕ × List ℕ) InputFault) (bytes old new : List ℕ)
    (taken : ℕ) : Type 0 where
  pub samples : List ℕ
  pub within : taken ≤ length bytes
  pub appended : new ≡ old ++ samples
  pub read : (rest : List ℕ) → in_turn item (length samples) (bytes ++ rest) ≡ Ok (samples, drop taken bytes ++ rest)
