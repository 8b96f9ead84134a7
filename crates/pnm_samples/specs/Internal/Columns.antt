-- Between functions: columns of rows of pixels.
use Rattle.std.specs.Prelude.{◌≡◌, ℕ, ◌+◌, ◌-◌, ◌*◌, ◌/◌, ◌%◌, ◌<◌, ◌≤◌, List, [], get_or, length, Vec}
use denote.Ref.{Bor}
use Rattle.std.specs.Global.{Global}
use Rattle.pnm_samples.specs.Pixels.{pixel_at}

-- a byte holds the pixels of a row that lie in the byte of this number, as many as there are
abbrev pub HoldsPixels : ℕ → List ℕ → ℕ → Type 0
HoldsPixels byte row held = (k : ℕ) → k < 8 → 8 * byte + k < length row
    → pixel_at (7 - k) held ≡ get_or row (8 * byte + k) 0

-- bytes hold the pixels of a row from the byte of this number on, as many as there are
abbrev pub HoldsFrom : ℕ → List ℕ → List ℕ → Type 0
HoldsFrom byte row bytes = (n : ℕ) → HoldsPixels (byte + n) row (get_or bytes n 0)

-- which of sixteen rows comes in a place: of each eight the last one first
abbrev pub row_in_place : ℕ → ℕ
row_in_place i = 8 * (i / 8) + (7 - i % 8)

-- sixteen slices hold the pixels of the rows from one on, where there are as many, in these places
abbrev pub HoldSixteen : ℕ → ℕ → List (List ℕ) → List (Bor (List ℕ)) → Type 0
HoldSixteen byte first rows slices = (i : ℕ) (d : Bor (List ℕ)) → i < 16 → first + row_in_place i < length rows
    → HoldsFrom byte (get_or rows (first + row_in_place i) []) (get_or slices i d).now

-- so many columns of so many bytes each
pub record AreLong (count long : ℕ) (columns : List (Vec ℕ Global)) : Type 0 where
  pub many : length columns ≡ count
  pub each : (k : ℕ) (d : Vec ℕ Global) → k < count → length (get_or columns k d).items ≡ long

-- two bytes are those of a number, the low one first, and those before them are as they were
pub record HasPair (at pair : ℕ) (old new : List ℕ) : Type 0 where
  pub count : length new ≡ length old
  pub low : get_or new at 0 ≡ pair % 256
  pub high : get_or new (at + 1) 0 ≡ pair / 256
  pub before : (i : ℕ) → i < at → get_or new i 0 ≡ get_or old i 0

-- so many columns, from this one on, have got two bytes each, and the others are as they were
pub record HavePairs (count first at : ℕ) (pairs : List ℕ) (old new : List (Vec ℕ Global)) : Type 0 where
  pub many : length new ≡ length old
  pub put : (k : ℕ) (d : Vec ℕ Global) → k < count
      → HasPair at (get_or pairs k 0) (get_or old (first + k) d).items (get_or new (first + k) d).items
  pub before : (k : ℕ) (d : Vec ℕ Global) → k < first → get_or new k d ≡ get_or old k d
  pub behind : (k : ℕ) (d : Vec ℕ Global) → first + count ≤ k → get_or new k d ≡ get_or old k d

-- so many columns of rows, from the one in the highest bit of this byte of each row on: of each eight rows a byte
pub record HoldColumns (byte count : ℕ) (rows : List (List ℕ)) (columns : List (Vec ℕ Global)) : Type 0 where
  pub many : length columns ≡ count
  pub enough : (k : ℕ) (d : Vec ℕ Global) → k < count → (length rows + 7) / 8 ≤ length (get_or columns k d).items
  pub pixels :
      (r k : ℕ) (d : Vec ℕ Global) → r < length rows → k < count → 8 * byte + k < length (get_or rows r [])
      → pixel_at (7 - r % 8) (get_or (get_or columns k d).items (r / 8) 0) ≡ get_or (get_or rows r [])
      (8 * byte + k) 0
