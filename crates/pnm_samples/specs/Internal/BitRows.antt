-- Rows of packed pixels that are held one after another, each from a byte's start on, with white spare bits.
use Rattle.std.specs.Prelude.{◌≡◌, ℕ, ◌+◌, ◌*◌, ◌<◌, List, length, take, drop}
use Rattle.pnm_samples.specs.PixelRows.{bytes_for}
use Rattle.pnm_samples.specs.Pixels.{all_pixels, ArePacked}

-- the bytes of a row, where each has so many
abbrev pub row_bytes : ℕ → ℕ → List ℕ → List ℕ
row_bytes size row bytes = take size (drop (row * size) bytes)

-- the bytes hold so many rows of so many pixels, and no byte more; spare bits are white
pub record ArePackedRows (count each : ℕ) (bytes : List ℕ) : Type 0 where
  pub enough : length bytes ≡ count * bytes_for each
  pub packed : (row : ℕ) → row < count → ArePacked each (row_bytes (bytes_for each) row bytes)

-- so many pixels that came after so many from a byte on stand at the start of a byte; the other bytes are as they were
pub record IsMovedRun (from to skipped count : ℕ) (old new : List ℕ) : Type 0 where
  pub long : length new ≡ length old
  pub before : take to new ≡ take to old
  pub behind : drop (to + bytes_for count) new ≡ drop (to + bytes_for count) old
  pub run : take count (all_pixels (drop to new)) ≡ take count (drop skipped (all_pixels (drop from old)))
