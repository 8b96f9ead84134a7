-- What a text spells: raw images, or one plain image.
use Rattle.pnm_image.specs.Formats.{is_plain_form}
use Rattle.std.specs.Prelude.{◌≡◌, ◌⊎◌, ℕ, ◌<◌, Bool, true, false, List, [], ◌∷◌, ◌++◌, length}
use Rattle.pnm_image.specs.Images.{Image}
use Rattle.pnm_image.specs.declared.format.Format.{Format}
use Rattle.pnm_read.specs.HeaderTexts.{begins_apart}
use Rattle.pnm_read.specs.Headers.{SpellsHeader}
use Rattle.pnm_read.specs.Rasters.{SpellsRaw, SpellsPlain}

abbrev pub SpellsRasterBy : Bool → List ℕ → Image → Type 0
SpellsRasterBy true text image = SpellsPlain text image
SpellsRasterBy false text image = SpellsRaw text image

abbrev pub SpellsRaster : Format → List ℕ → Image → Type 0
SpellsRaster format text image = SpellsRasterBy (is_plain_form format.form) text image

-- the text is the header and the raster of one image
pub record SpellsImage (text : List ℕ) (format : Format) (image : Image) : Type 0 where
  pub header : List ℕ
  pub raster : List ℕ
  pub whole : text ≡ header ++ raster
  pub header_is : SpellsHeader header format image.head
  pub raster_is : SpellsRaster format raster image

-- an image whose samples are written as bytes, or as text
abbrev pub SpellsRawImage : List ℕ → Image → Type 0
SpellsRawImage text image = (format : Format) × (is_plain_form format.form ≡ false) × SpellsImage text format image

abbrev pub SpellsPlainImage : List ℕ → Image → Type 0
SpellsPlainImage text image = (format : Format) × (is_plain_form format.form ≡ true) × SpellsImage text format image

-- raw images in turn, of any kinds, with nothing before, between or after them
abbrev pub SpellsRawImages : List ℕ → List Image → Type 0
SpellsRawImages text [] = text ≡ []
SpellsRawImages text (image ∷ images) =
    (first : List ℕ) × (rest : List ℕ) × (text ≡ first ++ rest) × SpellsRawImage first image
    × SpellsRawImages rest images

-- one plain image, and after it nothing, or white space or # and then anything
pub record SpellsPlainAlone (text : List ℕ) (images : List Image) : Type 0 where
  pub image : Image
  pub first : List ℕ
  pub rest : List ℕ
  pub one : images ≡ image ∷ []
  pub whole : text ≡ first ++ rest
  pub image_is : SpellsPlainImage first image
  pub rest_is : begins_apart rest ≡ true

-- one or more raw images, or one plain image
abbrev pub Spells : List ℕ → List Image → Type 0
Spells text images = ((0 < length images) × SpellsRawImages text images) ⊎ SpellsPlainAlone text images
