-- What is said of a text: the messages of its images, and then the end or the first fault. The fault is that
-- of the first item that has one.
use Rattle.pnm_image.specs.Formats.{is_plain_form}
use Rattle.std.specs.Prelude.{◌≡◌, ◌⊎◌, ℕ, zero, suc, ◌+◌, ◌/◌, Bool, true, false, if◌then◌else◌, List, [], ◌∷◌, length}
use Rattle.std.specs.Prelude.{take, Option, Some, None, Result, Ok, Err}
use Rattle.std.specs.List.{concat}
use Rattle.pnm_image.specs.declared.shape.Kind.{Kind}
use Rattle.pnm_image.specs.declared.shape.Kind.TheVariants.{Bit, Gray, Color, Pam}
use Rattle.pnm_image.specs.declared.shape.Shape.{Shape}
use Rattle.pnm_image.specs.declared.message.Message.{Message}
use Rattle.pnm_image.specs.declared.message.Message.TheVariants.{Begin, Row, ImageEnd, StreamEnd}
use Rattle.pnm_image.specs.Heads.{HeadValue, row_length}
use Rattle.pnm_image.specs.Images.{Image, AreImages, messages_of_stream}
use Rattle.pnm_read.specs.declared.fault.InputFault.{InputFault}
use Rattle.pnm_read.specs.declared.fault.InputFault.TheVariants.{ReadFailed, Memory}
use Rattle.pnm_image.specs.declared.format.Format.{Format}
use Rattle.pnm_image.specs.declared.sample_width.SampleWidth.{SampleWidth}
use Rattle.pnm_image.specs.declared.sample_width.SampleWidth.TheVariants.{Bits, Bytes, Words}
use Rattle.pnm_read.specs.HeaderTexts.{numbers_in}
use Rattle.pnm_read.specs.HeaderNumbers.{number_count}
use Rattle.pnm_image.specs.SampleWidths.{sample_width_of}
use Rattle.pnm_read.specs.PamLines.{ended_lines}
use Rattle.pnm_read.specs.Items.{◌>>=◌, piece_from, first_magic_item, second_magic_item, header_item}
use Rattle.pnm_read.specs.Items.{header_end, numbers_item, line_feed_item, pam_item, lines_item, raw_item, plain_sample}
use Rattle.pnm_read.specs.Items.{after_last_item}

-- so many items in turn
unfoldable pub in_turn : {A : Type 0} → (List ℕ → Result (A × List ℕ) InputFault) → ℕ → List ℕ
    → Result (List A × List ℕ) InputFault
in_turn item zero text = Ok ([], text)
in_turn item (suc n) text = do
  first ← item text
  more ← in_turn item n first.1
  Ok (first.0 ∷ more.0, more.1)

-- the format, the head and the raster of an image
unfoldable pub format_at : Bool → List ℕ → Result (Format × List ℕ) InputFault
format_at is_first text = do
  rest ← first_magic_item text
  second_magic_item is_first rest

unfoldable pub pnm_head_at : Kind → List ℕ → Result (HeadValue × List ℕ) InputFault
pnm_head_at kind text = do
  piece ← piece_from (header_item (number_count kind)) header_end [] text
  head ← numbers_item kind (numbers_in piece.0)
  Ok (head, piece.1)

unfoldable pub pam_head_at : List ℕ → Result (HeadValue × List ℕ) InputFault
pam_head_at text = do
  rest ← line_feed_item text
  piece ← piece_from pam_item header_end [] rest
  head ← lines_item (ended_lines piece.0)
  Ok (head, piece.1)

abbrev pub head_by : Kind → List ℕ → Result (HeadValue × List ℕ) InputFault
head_by Bit text = pnm_head_at Bit text
head_by Gray text = pnm_head_at Gray text
head_by Color text = pnm_head_at Color text
head_by Pam text = pam_head_at text

abbrev pub head_at : Format → List ℕ → Result (HeadValue × List ℕ) InputFault
head_at format text = head_by format.kind text

-- ---- rows

-- the items of a raw row: its samples, or its bytes of eight pixels
abbrev pub units_in_row : SampleWidth → Shape → ℕ
units_in_row Bits s = (s.width + 7) / 8
units_in_row Bytes s = row_length s
units_in_row Words s = row_length s

abbrev pub units_at : Shape → List ℕ → Result (List (List ℕ) × List ℕ) InputFault
units_at s text =
    in_turn (raw_item (sample_width_of s.kind s.maxval) s.maxval) (units_in_row (sample_width_of s.kind s.maxval) s)
    text

-- a raw row; spare bits of the last byte of PBM mean nothing
unfoldable pub raw_row : Shape → List ℕ → Result (List ℕ × List ℕ) InputFault
raw_row s text = do
  units ← units_at s text
  Ok (take (row_length s) (concat units.0), units.1)

-- a plain row before the last
unfoldable pub plain_row : Shape → List ℕ → Result (List ℕ × List ℕ) InputFault
plain_row s text = in_turn (plain_sample s.kind s.maxval) (row_length s) text

-- the last row of a plain image, with the byte after it
unfoldable pub last_plain_row : Shape → List ℕ → Result (List ℕ × List ℕ) InputFault
last_plain_row s text = do
  row ← plain_row s text
  rest ← after_last_item row.1
  Ok (row.0, rest)

-- a row after which so many others are to come
abbrev pub row_in_form : Bool → Shape → ℕ → List ℕ → Result (List ℕ × List ℕ) InputFault
row_in_form false s more text = raw_row s text
row_in_form true s zero text = last_plain_row s text
row_in_form true s (suc more) text = plain_row s text

abbrev pub row_at : Format → Shape → ℕ → List ℕ → Result (List ℕ × List ℕ) InputFault
row_at format s more text = row_in_form (is_plain_form format.form) s more text

-- ---- messages, and how they end

-- messages, and the fault that comes after them, if one does
pub record Said : Type 0 where
  pub messages : List Message
  pub fault : Option InputFault

abbrev pub then_said : Message → Said → Said
then_said m s = record { messages = m ∷ s.messages; fault = s.fault }

-- messages, and then what is said
abbrev pub after_messages : List Message → Said → Said
after_messages [] s = s
after_messages (m ∷ ms) s = then_said m (after_messages ms s)

abbrev pub says_fault : InputFault → Said
says_fault fault = record { messages = []; fault = Some fault }

abbrev pub says_nothing : Said
says_nothing = record { messages = []; fault = None }

abbrev pub ends_stream : Said
ends_stream = record { messages = StreamEnd ∷ []; fault = None }

-- so many rows, the end of the image, and what is said of the text after a raw image; what follows a plain one is
-- ignored
unfoldable pub rows_said : (List ℕ → Said) → Format → Shape → ℕ → List ℕ → Said
rows_said later format s zero text = then_said ImageEnd (if is_plain_form format.form then ends_stream else later text)
rows_said later format s (suc more) text = elim (row_at format s more text) [
  | Err fault ↦ says_fault fault
  | Ok row ↦ then_said (Row row.0) (rows_said later format s more row.1)
]

abbrev pub head_said : (List ℕ → Said) → Format → Result (HeadValue × List ℕ) InputFault → Said
head_said later format (Err fault) = says_fault fault
head_said later format (Ok found) =
    then_said (Begin found.0) (rows_said later format found.0.shape found.0.shape.height found.1)

abbrev pub format_said : (List ℕ → Said) → Result (Format × List ℕ) InputFault → Said
format_said later (Err fault) = says_fault fault
format_said later (Ok found) = head_said later found.0 (head_at found.0 found.1)

-- an image, and what comes after a raw one
unfoldable pub image_said : (List ℕ → Said) → Bool → List ℕ → Said
image_said later is_first text = format_said later (format_at is_first text)

-- after a raw image: the end of the stream where no byte is left, else the next image; so many images at most, and
-- what it says of more means nothing
unfoldable pub later_said_in : ℕ → List ℕ → Said
later_said_in most [] = ends_stream
later_said_in zero (b ∷ text) = ends_stream
later_said_in (suc most) (b ∷ text) = image_said (later_said_in most) false (b ∷ text)

-- what is said after a raw image; no text has more images than bytes
unfoldable pub later_said : List ℕ → Said
later_said text = later_said_in (length text) text

-- what is said of a whole text
unfoldable pub text_said : List ℕ → Said
text_said text = image_said later_said true text

-- what is said before the fault, or before the end
abbrev pub said_of : List ℕ → List Message
said_of text = (text_said text).messages

-- the fault of a text, if it has one
abbrev pub fault_of : List ℕ → Option InputFault
fault_of text = (text_said text).fault

-- a fault that no text has: the reader failed, or memory ran out
abbrev pub IsOutsideFault : InputFault → Type 0
IsOutsideFault fault = (fault ≡ ReadFailed) ⊎ (fault ≡ Memory)

-- ---- images

-- the text has no fault, and the messages of these images are said of it: they are the images that it spells (`Spells`)
pub record AreSaid (text : List ℕ) (images : List Image) : Type 0 where
  pub sound : fault_of text ≡ None
  pub images_are : AreImages images
  pub messages : said_of text ≡ messages_of_stream images
