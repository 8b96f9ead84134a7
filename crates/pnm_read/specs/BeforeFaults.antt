-- What a text spells before its fault: the images that ended, which are raw, and of the image that begins after them,
-- if one does, the header and the first rows. That image doesn't end: the text lacks a row of it, or has after a row
-- what may not follow one.
use Rattle.pnm_image.specs.Formats.{is_plain_form}
use Rattle.std.specs.Prelude.{◌≡◌, ◌⊎◌, ℕ, zero, suc, ◌+◌, ◌<◌, ◌≤◌, Bool, true, false, List, [], ◌∷◌, ◌++◌, map}
use Rattle.std.specs.Prelude.{flat_map}
use Rattle.pnm_image.specs.declared.shape.Kind.{Kind}
use Rattle.pnm_image.specs.declared.message.Message.{Message}
use Rattle.pnm_image.specs.declared.message.Message.TheVariants.{Begin, Row}
use Rattle.pnm_image.specs.Heads.{HeadValue, with_height}
use Rattle.pnm_image.specs.Images.{Image, rows_of, messages_of_image}
use Rattle.pnm_image.specs.declared.format.Format.{Format}
use Rattle.pnm_read.specs.HeaderTexts.{begins_apart}
use Rattle.pnm_read.specs.Headers.{SpellsHeader}
use Rattle.pnm_read.specs.Rasters.{MayFollowSample}
use Rattle.pnm_read.specs.Spelling.{SpellsRaster, SpellsRawImages}

-- ---- the first rows of a raster

-- What may follow rows of a raster, by whether it is plain, how many rows they are and how many more it has. After raw
-- rows anything may. After the last row of a plain image come nothing, or white space or # and then anything; after
-- another row what may follow its last sample.
abbrev pub MayFollowRows : Bool → Kind → ℕ → ℕ → List ℕ → Type 0
MayFollowRows false kind rows more rest = Unit {0}
MayFollowRows true kind zero more rest = Unit {0}
MayFollowRows true kind (suc rows) zero rest = begins_apart rest ≡ true
MayFollowRows true kind (suc rows) (suc more) rest = MayFollowSample kind rest

-- The text begins with the first rows of a raster of this head. They are spelled as the raster of an image of as many
-- rows; the head has so many more.
pub record BeginsWithRows (text : List ℕ) (format : Format) (head : HeadValue) (first : Image) : Type 0 where
  pub raster : List ℕ
  pub rest : List ℕ
  pub more : ℕ
  pub whole : text ≡ raster ++ rest
  pub raster_is : SpellsRaster format raster first
  pub head_is : head ≡ with_height first.head (first.head.shape.height + more)
  pub follows : MayFollowRows (is_plain_form format.form) head.shape.kind first.head.shape.height more rest

-- ---- an image that doesn't end

-- The text begins with the header of an image and with its first rows: as many as are spelled there, and not all.
pub record BeginsImage (text : List ℕ) (format : Format) (head : HeadValue) (first : Image) : Type 0 where
  pub header : List ℕ
  pub rest : List ℕ
  pub whole : text ≡ header ++ rest
  pub header_is : SpellsHeader header format head
  pub rows_are : BeginsWithRows rest format head first
  pub most : (others : Image) → BeginsWithRows rest format head others
      → others.head.shape.height ≤ first.head.shape.height
  pub unended : first.head.shape.height < head.shape.height

-- an image of this format may begin: a plain one as the first of a text alone
abbrev pub MayBegin : Bool → Format → Type 0
MayBegin is_first format = is_plain_form format.form ≡ true → is_first ≡ true

-- an image begins, and its head and its first rows are said
pub record SaysFirstRows (is_first : Bool) (text : List ℕ) (messages : List Message) : Type 0 where
  pub format : Format
  pub head : HeadValue
  pub first : Image
  pub may_begin : MayBegin is_first format
  pub begins : BeginsImage text format head first
  pub said : messages ≡ Begin head ∷ map Row (rows_of first)

-- the text begins with no header of an image that may begin, and nothing is said
pub record SaysNoImage (is_first : Bool) (text : List ℕ) (messages : List Message) : Type 0 where
  pub said : messages ≡ []
  pub no_header : (header rest : List ℕ) (format : Format) (head : HeadValue) → MayBegin is_first format
      → text ≡ header ++ rest → SpellsHeader header format head → ⊥

-- what is said of the rest of a text: of an image that begins and doesn't end, or nothing
abbrev pub SaysUnended : Bool → List ℕ → List Message → Type 0
SaysUnended is_first text messages = SaysFirstRows is_first text messages ⊎ SaysNoImage is_first text messages

-- ---- a text

-- there are no images, and what comes after them is the first of the text
abbrev pub are_none : List Image → Bool
are_none [] = true
are_none (image ∷ images) = false

-- The text is a prefix that spells the images that ended, and a rest. The messages are those of these images, and then
-- what is said of an image that begins in the rest and doesn't end.
pub record SpellsUpToFault (text : List ℕ) (messages : List Message) : Type 0 where
  pub images : List Image
  pub prefix : List ℕ
  pub rest : List ℕ
  pub last : List Message
  pub whole : text ≡ prefix ++ rest
  pub ended : SpellsRawImages prefix images
  pub said : messages ≡ flat_map messages_of_image images ++ last
  pub unended : SaysUnended (are_none images) rest last
