-- What the first bytes of an image tell of its size.
use Rattle.std.specs.Prelude.{◌≡◌, ◌⊎◌, ℕ, ◌+◌, ◌*◌, ◌≤◌, Bool, false, List, ◌++◌, take, drop, length}
use Rattle.std.specs.Prelude.{Option, Some, None}
use Rattle.pnm_image.specs.Formats.{is_plain_form}
use Rattle.pnm_image.specs.Heads.{HeadValue}
use Rattle.pnm_image.specs.declared.format.Format.{Format}
use Rattle.pnm_image.specs.declared.message.Message.{Message}
use Rattle.pnm_read.specs.declared.fault.InputFault.{InputFault}
use Rattle.pnm_read.specs.declared.fault.InputFault.TheVariants.{EmptyInput, HeaderCut as CutFault}
use Rattle.pnm_read.specs.Headers.{SpellsHeader}
use Rattle.pnm_read.specs.Rasters.{bytes_in_row}
use Rattle.pnm_read.specs.Said.{Said, says_fault, says_nothing, image_said, later_said}

-- the bytes begin with the header of an image, plain or raw
pub record BeginsWithHeader (is_plain : Bool) (bytes : List ℕ) : Type 0 where
  pub format : Format
  pub head : HeadValue
  pub header : List ℕ
  pub rest : List ℕ
  pub form : is_plain_form format.form ≡ is_plain
  pub whole : bytes ≡ header ++ rest
  pub header_is : SpellsHeader header format head

-- the bytes begin with the header of a raw image, which has so many bytes with the raster that it calls for
pub record HasRawSize (bytes : List ℕ) (size : ℕ) : Type 0 where
  pub begins : BeginsWithHeader false bytes
  pub size_is : size ≡ length begins.header + begins.head.shape.height * bytes_in_row begins.head.shape

-- a text of these bytes alone ends before or in its header
abbrev pub IsCutInHeader : Bool → List ℕ → Type 0
IsCutInHeader is_first bytes = (image_said later_said is_first bytes ≡ says_fault EmptyInput)
    ⊎ (image_said later_said is_first bytes ≡ says_fault CutFault)

-- nothing but this fault is said of a text that begins with these bytes, whatever follows them
abbrev pub IsFaultOfAll : Bool → List ℕ → InputFault → Type 0
IsFaultOfAll is_first bytes fault = (rest : List ℕ) → image_said later_said is_first (bytes ++ rest) ≡ says_fault fault

-- ---- an image by itself

-- what is said first, and where that has no fault, what is said after it
abbrev pub joined : List Message → Option InputFault → Said → Said
joined messages (Some fault) next = record { messages = messages; fault = Some fault }
joined messages None next = record { messages = messages ++ next.messages; fault = next.fault }

abbrev pub followed_by : Said → Said → Said
followed_by first next = joined first.messages first.fault next

-- Of a text that begins with the header of a raw image and has all bytes of its raster, what is said of the image alone
-- is said, and then, if that has no fault, what is said of what follows it.
abbrev pub FirstImageStandsAlone : Type 0
FirstImageStandsAlone =
    (text : List ℕ) (size : ℕ) (is_first : Bool) → HasRawSize text size → size ≤ length text
    → image_said later_said is_first text
    ≡ followed_by (image_said (λ rest. says_nothing) is_first (take size text)) (later_said (drop size text))
