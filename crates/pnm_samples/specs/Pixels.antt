-- Pixels of one bit in bytes: eight a byte, the most significant bit leftmost; 1 is black, which is sample 0.
use Rattle.std.specs.Prelude.{◌≡◌, ℕ, ◌+◌, ◌-◌, ◌*◌, ◌/◌, List, [], ◌∷◌, length, map, drop, replicate}
use Rattle.std.specs.List.{flat_map}
use Rattle.pnm_samples.specs.Cuts.{cut_rows}
use Rattle.std.specs.Int.{bit_at}

-- the pixel in a bit of a byte, the bit counted from the right
abbrev pub pixel_at : ℕ → ℕ → ℕ
pixel_at bit byte = 1 - bit_at byte bit

-- the pixels of a byte
unfoldable pub pixels : ℕ → List ℕ
pixels byte =
    pixel_at 7 byte ∷ pixel_at 6 byte ∷ pixel_at 5 byte ∷ pixel_at 4 byte ∷ pixel_at 3 byte ∷ pixel_at 2 byte
    ∷ pixel_at 1 byte ∷ pixel_at 0 byte ∷ []

-- the pixels of bytes
abbrev pub all_pixels : List ℕ → List ℕ
all_pixels bytes = flat_map pixels bytes

-- the bytes hold so many pixels, and no byte more; spare bits of the last one are white, which is bit 0
pub record ArePacked (count : ℕ) (bytes : List ℕ) : Type 0 where
  pub enough : length bytes ≡ (count + 7) / 8
  pub spare : drop count (all_pixels bytes) ≡ replicate (8 * length bytes - count) 1

-- ---- the bytes of pixels

-- The number of pixels as bits, the first in the bit of this weight, each next one in the bit to its right.
-- Black, which is sample 0, is 1. Bits without a pixel are 0.
abbrev pub pixel_bits : ℕ → List ℕ → ℕ
pixel_bits weight [] = 0
pixel_bits weight (sample ∷ samples) = weight * (1 - sample) + pixel_bits (weight / 2) samples

-- the byte of up to eight pixels, the most significant bit leftmost
abbrev pub packed_byte : List ℕ → ℕ
packed_byte pixels = pixel_bits 128 pixels

-- eight pixels a byte; the last byte may have spare bits
abbrev pub packed_bytes : List ℕ → List ℕ
packed_bytes samples = map packed_byte (cut_rows ((length samples + 7) / 8) 8 samples)
