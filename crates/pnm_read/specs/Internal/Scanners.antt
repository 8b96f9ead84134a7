-- What the scanners of headers and of plain samples hold after the bytes of a piece.
use Rattle.std.specs.Prelude.{◌≡◌, ℕ, ◌+◌, ◌-◌, ◌<◌, ◌≤◌, Bool, true, false, not, ◌==◌, ◌&&◌, ◌||◌, if◌then◌else◌, List}
use Rattle.std.specs.Prelude.{[], ◌∷◌, length, map, drop, slice_index}
use Rattle.std.specs.List.{AllPass}
use Rattle.std.specs.Str.{byte}
use Rattle.pnm_read.specs.declared.scan_status.ScanStatus.{ScanStatus}
use Rattle.pnm_read.specs.declared.header.HeaderScanner.{HeaderScanner}
use Rattle.pnm_read.specs.declared.decimal.DecimalScanner.{DecimalScanner}
use Rattle.pnm_read.specs.declared.pixel.PixelScanner.{PixelScanner}
use Rattle.pnm_read.specs.HeaderTexts.{is_apart, commented, ends_in_comment, uncommented, ends_in_word}
use Rattle.pnm_read.specs.HeaderTexts.{numbers_in, number_in}
use Rattle.pnm_image.specs.Texts.{is_white, is_digit}
use Rattle.pnm_read.specs.Internal.Saturation.{saturate_u32, with_digit, IsNumbers}
use Rattle.pnm_read.specs.Items.{header_item, decimal_item, pixel_item, ends_in_digit, pixel_in}

-- ---- headers

pub record IsHeaderFresh (wanted : ℕ) (s : HeaderScanner) : Type 0 where
  pub wanted_is : s.wanted ≡ wanted
  pub found : s.found ≡ 0
  pub length_is : s.length ≡ 0
  pub word : s.in_number ≡ false
  pub comment : s.in_comment ≡ false

-- these bytes have come after the magic, and the header goes on
pub record IsHeaderAfter (s : HeaderScanner) (before : List ℕ) : Type 0 where
  pub length_is : s.length ≡ length before
  pub comment : s.in_comment ≡ ends_in_comment before
  pub word : s.in_number ≡ ends_in_word (uncommented before)
  pub decimal : AllPass (λ b. is_digit b || is_white b) (uncommented before)
  pub found : s.found ≡ length (numbers_in before)
  pub most : s.found ≤ s.wanted
  pub more : s.in_number ≡ false → s.found < s.wanted
  pub three : s.wanted ≤ 3
  pub last : drop (3 - s.found) s.numbers ≡ map saturate_u32 (numbers_in before)

-- the header has ended
abbrev pub IsHeaderWhole : HeaderScanner → List ℕ → Type 0
IsHeaderWhole s piece = IsNumbers s.wanted (numbers_in piece) s.numbers

abbrev pub JudgesHeader : HeaderScanner → ℕ → ScanStatus → Type 0
JudgesHeader s b scan_status = (before : List ℕ) → IsHeaderAfter s before
    → scan_status ≡ header_item s.wanted before b

-- this byte can't stand after them
abbrev pub is_bad_after : HeaderScanner → ℕ → Bool
is_bad_after s b =
    ((s.length == 0) && not (is_apart b)) || (not s.in_comment && not (is_digit b || is_apart b))

-- the last three numbers with a digit more: the next of a number, or the first of one
abbrev pub numbers_with_digit : Bool → List ℕ → ℕ → List ℕ
numbers_with_digit true held digit = slice_index held 0 ∷ slice_index held 1 ∷ with_digit (slice_index held 2) digit
    ∷ []
numbers_with_digit false held digit = slice_index held 1 ∷ slice_index held 2 ∷ with_digit 0 digit ∷ []

-- a digit was taken
pub record PushesDigit (old : HeaderScanner) (digit : ℕ) (new : HeaderScanner) : Type 0 where
  pub wanted : new.wanted ≡ old.wanted
  pub length_is : new.length ≡ old.length
  pub comment : new.in_comment ≡ old.in_comment
  pub word : new.in_number ≡ true
  pub found : new.found ≡ (if old.in_number then old.found else old.found + 1)
  pub numbers : new.numbers ≡ numbers_with_digit old.in_number old.numbers digit

-- a byte of a number outside comments
abbrev pub is_numeral_byte : Bool → ℕ → Bool
is_numeral_byte in_comment b = not in_comment && is_digit b

-- a byte was taken
pub record PushesHeader (old : HeaderScanner) (b : ℕ) (new : HeaderScanner) : Type 0 where
  pub wanted : new.wanted ≡ old.wanted
  pub length_is : new.length ≡ old.length + 1
  pub comment : new.in_comment ≡ commented old.in_comment b
  pub word : new.in_number
      ≡ (if is_numeral_byte old.in_comment b then true else if not old.in_comment && is_white
      b then false else old.in_number)
  pub found : new.found
      ≡ (if is_numeral_byte old.in_comment b && not old.in_number then old.found + 1 else old.found)
  pub numbers : new.numbers
      ≡ (if is_numeral_byte old.in_comment b then numbers_with_digit old.in_number old.numbers
      (b - byte "0") else old.numbers)

-- ---- numbers of a plain raster

pub record IsDecimalAfter (s : DecimalScanner) (before : List ℕ) : Type 0 where
  pub length_is : s.length ≡ length before
  pub comment : s.in_comment ≡ ends_in_comment before
  pub digit : s.in_number ≡ ends_in_digit before
  pub value : s.value ≡ saturate_u32 (number_in before)

abbrev pub IsDecimalWhole : DecimalScanner → List ℕ → Type 0
IsDecimalWhole s piece = s.value ≡ saturate_u32 (number_in piece)

abbrev pub JudgesDecimal : DecimalScanner → ℕ → ScanStatus → Type 0
JudgesDecimal s b scan_status = (before : List ℕ) → IsDecimalAfter s before → scan_status ≡ decimal_item before b

pub record PushesDecimal (old : DecimalScanner) (b : ℕ) (new : DecimalScanner) : Type 0 where
  pub length_is : new.length ≡ old.length + 1
  pub comment : new.in_comment ≡ commented old.in_comment b
  pub digit : new.in_number ≡ is_numeral_byte old.in_comment b
  pub value : new.value
      ≡ (if is_numeral_byte old.in_comment b then with_digit old.value (b - byte "0") else old.value)

-- ---- pixels of a plain raster

pub record IsPixelAfter (s : PixelScanner) (before : List ℕ) : Type 0 where
  pub length_is : s.length ≡ length before
  pub comment : s.in_comment ≡ ends_in_comment before

abbrev pub IsPixelWhole : PixelScanner → List ℕ → Type 0
IsPixelWhole s piece = s.pixel ≡ pixel_in piece

abbrev pub JudgesPixel : PixelScanner → ℕ → ScanStatus → Type 0
JudgesPixel s b scan_status = (before : List ℕ) → IsPixelAfter s before → scan_status ≡ pixel_item before b
