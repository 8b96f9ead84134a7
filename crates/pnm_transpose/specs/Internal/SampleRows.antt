-- Between functions: rows of one width of samples, and which columns of them are made side by side.
use Rattle.std.specs.Prelude.{◌≡◌, ℕ, ◌%◌, ◌<◌, ◌≤◌, List, All}
use Rattle.pnm_image.specs.declared.sample_width.SampleWidth.{SampleWidth}
use Rattle.pnm_image.specs.declared.sample_width.SampleWidth.TheVariants.{Bits as OfBits, Bytes as OfBytes}
use Rattle.pnm_image.specs.declared.sample_width.SampleWidth.TheVariants.{Words as OfWords}

-- a row can be held so wide
abbrev pub FitsWidth : SampleWidth → List ℕ → Type 0
FitsWidth OfBits row = All (λ sample. sample ≤ 1) row
FitsWidth OfBytes row = All (λ sample. sample ≤ 255) row
FitsWidth OfWords row = Unit {0}

-- how many columns are made side by side
abbrev pub batch_length : SampleWidth → ℕ
batch_length OfBits = 256
batch_length OfBytes = 64
batch_length OfWords = 64

-- so many columns of packed pixels, the first of which is the first pixel of a byte
pub record IsBatchOfBits (first count depth : ℕ) : Type 0 where
  pub one_plane : depth ≡ 1
  pub at_byte : first % 8 ≡ 0
  pub some : 0 < count
  pub most : count ≤ 256
