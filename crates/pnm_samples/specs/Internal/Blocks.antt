-- Bits of several bytes, and sixteen rows of sixteen bytes.
use Rattle.std.specs.Prelude.{◌≡◌, ℕ, ◌+◌, ◌*◌, ◌<◌, List, [], ◌∷◌, get_or, length}
use Rattle.std.specs.Int.{bit_at}

-- the bits of this place, as a number, that of the first byte lowest
abbrev pub bits_of : ℕ → List ℕ → ℕ
bits_of place [] = 0
bits_of place (byte ∷ bytes) = bit_at byte place + 2 * bits_of place bytes

-- sixteen rows of sixteen lanes each
pub record IsSquare (rows : List (List ℕ)) : Type 0 where
  pub many : length rows ≡ 16
  pub each : (r : ℕ) → r < 16 → length (get_or rows r []) ≡ 16

-- a lane of a row
abbrev pub lane_at : List (List ℕ) → ℕ → ℕ → ℕ
lane_at rows r c = get_or (get_or rows r []) c 0
