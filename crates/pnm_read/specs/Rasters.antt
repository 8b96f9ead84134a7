-- How a raster is spelled. From pbm(5), pgm(5), ppm(5) and pam(5), 'The layout', and of the plain formats 'Plain PBM'
-- and so on. There is no plain PAM: what is said of it under 'plain' means nothing.
use Rattle.std.specs.Prelude.{◌≡◌, ℕ, ◌+◌, ◌*◌, ◌-◌, ◌/◌, ◌<◌, ◌≤◌, true, false, List, [], ◌∷◌, ◌++◌, length, take, map}
use Rattle.std.specs.Prelude.{flat_map}
use Rattle.std.specs.List.{AllPass}
use Rattle.std.specs.Str.{byte}
pub use Rattle.pnm_samples.specs.Pixels.{pixel_at}
unfoldable pub use Rattle.pnm_samples.specs.Pixels.{pixels}
use Rattle.pnm_image.specs.declared.shape.Shape.{Shape}
use Rattle.pnm_image.specs.declared.shape.Kind.{Kind}
use Rattle.pnm_image.specs.declared.shape.Kind.TheVariants.{Bit, Gray, Color, Pam}
use Rattle.pnm_image.specs.Heads.{row_length}
use Rattle.pnm_image.specs.SampleWidths.{sample_width_of}
use Rattle.pnm_image.specs.Images.{Image, IsImage, cut_rows, rows_of}
use Rattle.pnm_image.specs.declared.sample_width.SampleWidth.TheVariants.{Bits, Bytes, Words}
use Rattle.pnm_read.specs.HeaderTexts.{begins_apart, ends_in_comment, uncommented}
use Rattle.pnm_image.specs.Texts.{is_white, is_digit, decimal_value}
use Rattle.pnm_read.specs.declared.decimal.TheConstants.{GAP_LIMIT}

-- ---- raw

-- the bytes of a raw row
abbrev pub bytes_in_row : Shape → ℕ
bytes_in_row s = elim (sample_width_of s.kind s.maxval) [
  | Bits ↦ (s.width + 7) / 8
  | Bytes ↦ row_length s
  | Words ↦ 2 * row_length s
]

-- samples of two bytes, the most significant first
unfoldable pub wide_samples : List ℕ → List ℕ
wide_samples [] = []
wide_samples (high ∷ []) = []
wide_samples (high ∷ low ∷ bytes) = (256 * high + low) ∷ wide_samples bytes

-- the samples in the bytes of a raw row; spare bits of the last byte of PBM mean nothing
abbrev pub raw_samples : Shape → List ℕ → List ℕ
raw_samples s bytes = elim (sample_width_of s.kind s.maxval) [
  | Bits ↦ take s.width (flat_map pixels bytes)
  | Bytes ↦ bytes
  | Words ↦ wide_samples bytes
]

-- the rows of bytes, top to bottom, with nothing between or after them
pub record SpellsRaw (text : List ℕ) (image : Image) : Type 0 where
  pub sound : IsImage image
  pub count : length text ≡ image.head.shape.height * bytes_in_row image.head.shape
  pub rows : rows_of image ≡ map (raw_samples image.head.shape)
      (cut_rows image.head.shape.height (bytes_in_row image.head.shape) text)

-- ---- plain

-- white space, each comment counted as white space; it doesn't end inside a comment
pub record IsGap (text : List ℕ) : Type 0 where
  pub white : AllPass is_white (uncommented text)
  pub outside : ends_in_comment text ≡ false

-- the text of a pixel: the character 1 is black
abbrev pub SpellsPixel : List ℕ → ℕ → Type 0
SpellsPixel text sample = (sample ≤ 1) × (text ≡ (byte "1" - sample) ∷ [])

-- the text of a decimal number
pub record SpellsDecimal (text : List ℕ) (number : ℕ) : Type 0 where
  pub some : 0 < length text
  pub digits : AllPass is_digit text
  pub value : decimal_value text ≡ number

-- the text of a sample
abbrev pub SpellsSample : Kind → List ℕ → ℕ → Type 0
SpellsSample Bit text sample = SpellsPixel text sample
SpellsSample Gray text sample = SpellsDecimal text sample
SpellsSample Color text sample = SpellsDecimal text sample
SpellsSample Pam text sample = SpellsDecimal text sample

-- a sample and the gap before it, together within the limit
pub record SpellsPiece (kind : Kind) (text : List ℕ) (sample : ℕ) : Type 0 where
  pub gap : List ℕ
  pub digits : List ℕ
  pub whole : text ≡ gap ++ digits
  pub gap_is : IsGap gap
  pub digits_are : SpellsSample kind digits sample
  pub short : length text ≤ GAP_LIMIT

-- what may follow a sample: after a number its digits have ended; after a pixel anything
abbrev pub MayFollowSample : Kind → List ℕ → Type 0
MayFollowSample Bit rest = Unit {0}
MayFollowSample Gray rest = begins_apart rest ≡ true
MayFollowSample Color rest = begins_apart rest ≡ true
MayFollowSample Pam rest = begins_apart rest ≡ true

-- the samples in order, through the last sample's last digit
abbrev pub SpellsPlainSamples : Kind → List ℕ → List ℕ → Type 0
SpellsPlainSamples kind text [] = text ≡ []
SpellsPlainSamples kind text (sample ∷ samples) =
    (piece : List ℕ) × (rest : List ℕ) × (text ≡ piece ++ rest) × SpellsPiece kind piece sample
    × MayFollowSample kind rest × SpellsPlainSamples kind rest samples

pub record SpellsPlain (text : List ℕ) (image : Image) : Type 0 where
  pub sound : IsImage image
  pub samples : SpellsPlainSamples image.head.shape.kind text image.samples
