-- The items that a text is cut into, and the faults of each in their order. A byte of a header, and of a
-- plain raster, is judged by the bytes before it in the same piece: of a header those after the magic (of
-- PAM after its LF), of a plain raster those since the last digit of the sample before.
use Rattle.std.specs.Prelude.{ℕ, Bool, not, ◌==◌, nat_le, nat_lt, ◌*◌, ◌+◌, ◌-◌, ◌&&◌, ◌||◌, if◌then◌else◌, List, []}
use Rattle.std.specs.Prelude.{◌∷◌, ◌++◌, length, slice_index, Option, Some, None, Result, Ok, Err}
use Rattle.std.specs.List.{list_all, list_any}
use Rattle.std.specs.Str.{byte}
use Rattle.pnm_image.specs.declared.shape.Shape.{Shape}
use Rattle.pnm_image.specs.declared.shape.Kind.{Kind}
use Rattle.pnm_image.specs.declared.shape.Kind.TheVariants.{Bit, Gray, Color, Pam}
use Rattle.pnm_image.specs.declared.head.HeadFault.{HeadFault}
use Rattle.pnm_image.specs.declared.head.HeadFault.TheVariants as heads
use Rattle.pnm_image.specs.Heads.{HeadValue, shape_fault}
use Rattle.pnm_read.specs.declared.fault.InputFault.{InputFault}
use Rattle.pnm_read.specs.declared.fault.InputFault.TheVariants.{EmptyInput, BadMagic, HeaderCut, TooLong, BadNumber}
use Rattle.pnm_read.specs.declared.fault.InputFault.TheVariants.{ZeroSize, TooLarge, BadMaxval, BadPamLine}
use Rattle.pnm_read.specs.declared.fault.InputFault.TheVariants.{DuplicateField, MissingField, RasterCut}
use Rattle.pnm_read.specs.declared.fault.InputFault.TheVariants.{SampleAboveMaxval, BadSample, PlainInStream, Memory}
use Rattle.pnm_image.specs.declared.format.Format.{Format}
use Rattle.pnm_read.specs.declared.line.Field.{Field}
use Rattle.pnm_read.specs.declared.line.Field.TheVariants.{Width, Height, Depth, Maxval}
use Rattle.pnm_read.specs.declared.line.LineKind.TheVariants.{Nothing, Number, TupleType, End, Unknown}
use Rattle.pnm_image.specs.declared.sample_width.SampleWidth.{SampleWidth}
use Rattle.pnm_image.specs.declared.sample_width.SampleWidth.TheVariants.{Bits, Bytes, Words}
use Rattle.pnm_read.specs.declared.scan_status.ScanStatus.{ScanStatus}
use Rattle.pnm_read.specs.declared.scan_status.ScanStatus.TheVariants.{GoesOn, EndsWith, EndsBefore, Fails}
use Rattle.pnm_read.specs.HeaderTexts.{is_apart, begins_apart, ends_by, ends_in_comment, number_in, numbers_in}
use Rattle.pnm_image.specs.Texts.{is_white, is_digit}
use Rattle.pnm_image.specs.Formats.{format_of, is_plain_form}
use Rattle.pnm_read.specs.HeaderNumbers.{shape_of}
use Rattle.pnm_read.specs.PamLines.{ended_lines, last_line, second_token, line_kind, field_values, tuple_type_in}
use Rattle.pnm_read.specs.Rasters.{pixels}
use Rattle.pnm_image.specs.declared.limits.TheConstants.{MAX_TUPLE_TYPE_LENGTH}
use Rattle.pnm_read.specs.declared.decimal.TheConstants.{GAP_LIMIT}
use Rattle.pnm_read.specs.declared.header.TheConstants.{MAX_HEADER_LENGTH}

infixl 10 ◌>>=◌
abbrev pub ◌>>=◌ : {A B : Type 0} → Result A InputFault → (A → Result B InputFault) → Result B InputFault
(Ok x) >>= f = f x
(Err e) >>= f = Err e

-- ---- items that make up a piece

-- the piece that a text begins with, and the rest: its bytes are judged in turn, each by those before it;
-- where the text ends first, at_end tells the fault, if that is one
unfoldable pub piece_from : (List ℕ → ℕ → ScanStatus) → (List ℕ → Option InputFault) → List ℕ → List ℕ
    → Result (List ℕ × List ℕ) InputFault
piece_from item at_end before [] = elim (at_end before) [
  | Some fault ↦ Err fault
  | None ↦ Ok (before, [])
]
piece_from item at_end before (b ∷ text) = elim (item before b) [
  | Fails fault ↦ Err fault
  | EndsWith ↦ Ok (before ++ b ∷ [], text)
  | EndsBefore ↦ Ok (before, b ∷ text)
  | GoesOn ↦ piece_from item at_end (before ++ b ∷ []) text
]

-- ---- the magic

-- the second byte of a magic; a plain image can't come after another image
unfoldable pub second_magic_item : Bool → List ℕ → Result (Format × List ℕ) InputFault
second_magic_item is_first [] = Err HeaderCut
second_magic_item is_first (b ∷ text) = elim (format_of b) [
  | Some format ↦ if is_plain_form format.form && not is_first then Err PlainInStream else Ok (format, text)
  | None ↦ Err BadMagic
]

-- the start of an image, and the first byte of its magic; after a raw image it isn't asked for where no byte is left
unfoldable pub first_magic_item : List ℕ → Result (List ℕ) InputFault
first_magic_item [] = Err EmptyInput
first_magic_item (b ∷ text) = if b == byte "P" then Ok text else Err BadMagic

-- ---- the header of PBM, PGM and PPM

-- the bytes of a header after the magic, at most
abbrev pub header_limit : ℕ
header_limit = MAX_HEADER_LENGTH - 2

-- a byte of a header that can't stand there: right after the magic what is neither white space nor #, and later,
-- outside comments, what is neither that nor a digit
abbrev pub is_bad_in_header : List ℕ → ℕ → Bool
is_bad_in_header before b =
    ((length before == 0) && not (is_apart b)) || (not (ends_in_comment before) && not (is_digit b || is_apart b))

-- the header ends with the first white space outside comments after the digits of its last number
abbrev pub is_delimiter : ℕ → List ℕ → ℕ → Bool
is_delimiter count before b = not (ends_in_comment before) && is_white b && (length (numbers_in before) == count)

-- a byte of a header of so many numbers
unfoldable pub header_item : ℕ → List ℕ → ℕ → ScanStatus
header_item count before b =
    if nat_le header_limit (length before) then Fails TooLong
    else if is_bad_in_header before b then Fails BadNumber
    else if is_delimiter count before b then EndsWith
    else GoesOn

abbrev pub header_end : List ℕ → Option InputFault
header_end before = Some HeaderCut

abbrev pub fault_of_head : HeadFault → InputFault
fault_of_head heads.ZeroSize = ZeroSize
fault_of_head heads.TooLarge = TooLarge
fault_of_head heads.BadMaxval = BadMaxval
fault_of_head heads.Memory = Memory

-- the end of a header: its numbers together
unfoldable pub numbers_item : Kind → List ℕ → Result HeadValue InputFault
numbers_item kind numbers = elim (shape_fault (shape_of kind numbers)) [
  | Some fault ↦ Err (fault_of_head fault)
  | None ↦ Ok (record { shape = shape_of kind numbers; tuple_type = [] })
]

-- ---- the header of PAM

-- the byte after the magic
unfoldable pub line_feed_item : List ℕ → Result (List ℕ) InputFault
line_feed_item [] = Err HeaderCut
line_feed_item (b ∷ text) = if b == byte "\n" then Ok text else Err BadPamLine

-- the bytes of a header after the magic and its LF, at most
abbrev pub pam_limit : ℕ
pam_limit = MAX_HEADER_LENGTH - 3

-- the line of a number, after these lines
abbrev pub number_item : List (List ℕ) → Field → List ℕ → ScanStatus
number_item lines field line =
    if length (second_token line) == 0 then Fails BadPamLine
    else if not (list_all is_digit (second_token line)) then Fails BadNumber
    else if not (length (field_values field lines) == 0) then Fails DuplicateField
    else GoesOn

-- a tuple type is beyond the limit
abbrev pub is_type_too_long : List ℕ → Bool
is_type_too_long tuple_type = nat_lt MAX_TUPLE_TYPE_LENGTH (length tuple_type)

-- a line of the tuple type
abbrev pub tuple_type_item : List (List ℕ) → List ℕ → ScanStatus
tuple_type_item lines line = if is_type_too_long (tuple_type_in (lines ++ line ∷ [])) then Fails TooLong else GoesOn

-- a line, after its LF; ENDHDR is the last
abbrev pub line_item : List (List ℕ) → List ℕ → ScanStatus
line_item lines line = elim (line_kind line) [
  | Nothing ↦ GoesOn
  | Number field ↦ number_item lines field line
  | TupleType ↦ tuple_type_item lines line
  | End ↦ EndsWith
  | Unknown ↦ Fails BadPamLine
]

-- a byte of a header of PAM
unfoldable pub pam_item : List ℕ → ℕ → ScanStatus
pam_item before b =
    if nat_le pam_limit (length before) then Fails TooLong
    else if b == byte "\n" then line_item (ended_lines before) (last_line before)
    else GoesOn

-- the shape that the lines make
abbrev pub shape_in : List (List ℕ) → Shape
shape_in lines =
    record {
      kind = Pam;
      width = slice_index (field_values Width lines) 0;
      height = slice_index (field_values Height lines) 0;
      depth = slice_index (field_values Depth lines) 0;
      maxval = slice_index (field_values Maxval lines) 0;
    }

-- the end of a header: the lines together; none of the four numbers may be missing
unfoldable pub lines_item : List (List ℕ) → Result HeadValue InputFault
lines_item lines =
    if list_any (λ field. length (field_values field lines) == 0) (Width ∷ Height ∷ Depth ∷ Maxval ∷ [])
    then Err MissingField
    else elim (shape_fault (shape_in lines)) [
      | Some fault ↦ Err (fault_of_head fault)
      | None ↦ Ok (record { shape = shape_in lines; tuple_type = tuple_type_in lines })
    ]

-- ---- raw rasters

-- a sample after its last byte, or a byte of eight pixels
unfoldable pub raw_item : SampleWidth → ℕ → List ℕ → Result (List ℕ × List ℕ) InputFault
raw_item sample_width maxval [] = Err RasterCut
raw_item Bits maxval (b ∷ text) = Ok (pixels b, text)
raw_item Bytes maxval (b ∷ text) = if nat_le b maxval then Ok (b ∷ [], text) else Err SampleAboveMaxval
raw_item Words maxval (b ∷ []) = Err RasterCut
raw_item Words maxval (b ∷ c ∷ text) =
    if nat_le (256 * b + c) maxval then Ok ((256 * b + c) ∷ [], text) else Err SampleAboveMaxval

-- ---- plain rasters

-- the last byte is a digit outside comments
abbrev pub ends_in_digit : List ℕ → Bool
ends_in_digit before = not (ends_in_comment before) && ends_by is_digit before

-- the awaited number's last digit is before this byte
abbrev pub is_complete : List ℕ → ℕ → Bool
is_complete before b = ends_in_digit before && not (is_digit b)

-- a byte of a number, or of the gap before it
unfoldable pub decimal_item : List ℕ → ℕ → ScanStatus
decimal_item before b =
    if nat_le GAP_LIMIT (length before) && not (is_complete before b) then Fails TooLong
    else if not (ends_in_comment before) && not (is_digit b || is_apart b) then Fails BadSample
    else if is_complete before b then EndsBefore
    else GoesOn

abbrev pub decimal_end : List ℕ → Option InputFault
decimal_end before = if ends_in_digit before then None else Some RasterCut

abbrev pub is_pixel : ℕ → Bool
is_pixel b = (b == byte "0") || (b == byte "1")

-- a pixel, or a byte of the gap before it
unfoldable pub pixel_item : List ℕ → ℕ → ScanStatus
pixel_item before b =
    if nat_le GAP_LIMIT (length before) then Fails TooLong
    else if not (ends_in_comment before) && not (is_pixel b || is_apart b) then Fails BadSample
    else if not (ends_in_comment before) && is_pixel b then EndsWith
    else GoesOn

abbrev pub pixel_end : List ℕ → Option InputFault
pixel_end before = Some RasterCut

-- the sample that a pixel's character spells; 1 is black, which is sample 0
abbrev pub pixel_in : List ℕ → ℕ
pixel_in piece = if ends_by (λ b. b == byte "1") piece then 0 else 1

-- a pixel: 1 is black, which is sample 0
unfoldable pub plain_pixel : List ℕ → Result (ℕ × List ℕ) InputFault
plain_pixel text = do
  piece ← piece_from pixel_item pixel_end [] text
  Ok (pixel_in piece.0, piece.1)

-- the end of a number
abbrev pub sample_item : ℕ → ℕ → Result ℕ InputFault
sample_item maxval sample = if nat_le sample maxval then Ok sample else Err SampleAboveMaxval

-- a sample, which is a number
unfoldable pub plain_decimal : ℕ → List ℕ → Result (ℕ × List ℕ) InputFault
plain_decimal maxval text = do
  piece ← piece_from decimal_item decimal_end [] text
  sample ← sample_item maxval (number_in piece.0)
  Ok (sample, piece.1)

-- a sample of this kind; there is no plain PAM, so what this says of it means nothing
abbrev pub plain_sample : Kind → ℕ → List ℕ → Result (ℕ × List ℕ) InputFault
plain_sample Bit maxval text = plain_pixel text
plain_sample Gray maxval text = plain_decimal maxval text
plain_sample Color maxval text = plain_decimal maxval text
plain_sample Pam maxval text = plain_decimal maxval text

-- the byte after the last sample of a plain image
unfoldable pub after_last_item : List ℕ → Result (List ℕ) InputFault
after_last_item text = if begins_apart text then Ok text else Err BadSample
