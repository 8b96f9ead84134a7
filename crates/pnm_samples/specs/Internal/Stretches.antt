-- Pixels that stand several times, of the halves of a byte.
use Rattle.std.specs.Prelude.{◌≡◌, ℕ, ◌+◌, ◌*◌, ◌/◌, ◌<◌, ◌≤◌, List, length, take, drop, replicate}
use Rattle.std.specs.List.{flat_map}
use Rattle.pnm_samples.specs.Pixels.{pixels, all_pixels}

-- in how many bytes a stretched byte is held
abbrev pub stride : ℕ → ℕ
stride times = 16 * ((times + 15) / 16)

-- the bytes begin with the stretched bytes of so many multiples of a unit, from none on, each at its multiple of the
-- stride
pub record AreStretched (times unit count : ℕ) (bytes : List ℕ) : Type 0 where
  pub enough : count * stride times ≤ length bytes
  pub each : (v : ℕ) → v < count → take (8 * times) (all_pixels (drop (v * stride times) bytes))
      ≡ flat_map (λ s. replicate times s) (pixels (v * unit))
