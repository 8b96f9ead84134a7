-- Between functions: what the first bytes of an image tell of its size.
use Rattle.std.specs.Prelude.{◌≡◌, ◌⊎◌, ℕ, ◌+◌, ◌*◌, ◌≤◌, Bool, true, false, List, ◌++◌, drop, length}
use Rattle.std.specs.Prelude.{Option, Some, None, Result, Ok, Err}
use Rattle.pnm_image.specs.Formats.{is_plain_form}
use Rattle.pnm_image.specs.Heads.{HeadValue}
use Rattle.pnm_image.specs.declared.format.Format.{Format}
use Rattle.pnm_read.specs.declared.fault.InputFault.{InputFault}
use Rattle.pnm_read.specs.declared.fault.InputFault.TheVariants.{HeaderCut as CutFault, Memory}
use Rattle.pnm_read.specs.declared.sizes.ImageSize.{ImageSize}
use Rattle.pnm_read.specs.declared.sizes.ImageSize.TheVariants.{HeaderCut, Raw, Plain}
use Rattle.pnm_read.specs.Rasters.{bytes_in_row}
use Rattle.pnm_read.specs.Said.{head_at}
use Rattle.pnm_read.specs.ImageSizes.{BeginsWithHeader, HasRawSize, IsCutInHeader, IsFaultOfAll}

-- what is told of the size of an image, the first of a stream or a later one
abbrev pub TellsSize : Bool → List ℕ → Result ImageSize InputFault → Type 0
TellsSize is_first bytes (Ok HeaderCut) = IsCutInHeader is_first bytes
TellsSize is_first bytes (Ok (Raw size)) = HasRawSize bytes size
TellsSize is_first bytes (Ok Plain) = (is_first ≡ true) × BeginsWithHeader true bytes
TellsSize is_first bytes (Err fault) = IsFaultOfAll is_first bytes fault ⊎ (fault ≡ Memory)

-- ---- steps

-- What a reading finds in these bytes, and how many it takes, it finds whatever follows them, and so it does a fault;
-- or these bytes alone end in their header.
abbrev pub FindsIn : {X : Type 0} → (List ℕ → Result (X × List ℕ) InputFault) → List ℕ
    → Result (Option (X × ℕ)) InputFault → Type 0
FindsIn reading bytes (Ok (Some found)) = (found.1 ≤ length bytes)
    × ((rest : List ℕ) → reading (bytes ++ rest) ≡ Ok (found.0, drop found.1 bytes ++ rest))
FindsIn reading bytes (Ok None) = reading bytes ≡ Err CutFault
FindsIn reading bytes (Err fault) = ((rest : List ℕ) → reading (bytes ++ rest) ≡ Err fault) ⊎ (fault ≡ Memory)

-- the bytes begin with a header after its magic, plain or raw, of which so many were taken
pub record FindsHead (is_plain : Bool) (format : Format) (bytes : List ℕ) : Type 0 where
  pub head : HeadValue
  pub taken : ℕ
  pub form : is_plain_form format.form ≡ is_plain
  pub found : FindsIn (head_at format) bytes (Ok (Some (head, taken)))

-- so many bytes are taken by the magic, the header and the raster
pub record FindsRaw (format : Format) (bytes : List ℕ) (size : ℕ) : Type 0 where
  pub head_is : FindsHead false format bytes
  pub size_is : size ≡ 2 + head_is.taken + head_is.head.shape.height * bytes_in_row head_is.head.shape

-- what the bytes after the magic tell
abbrev pub TellsSizeAfter : Format → List ℕ → Result ImageSize InputFault → Type 0
TellsSizeAfter format bytes (Ok HeaderCut) = head_at format bytes ≡ Err CutFault
TellsSizeAfter format bytes (Ok (Raw size)) = FindsRaw format bytes size
TellsSizeAfter format bytes (Ok Plain) = FindsHead true format bytes
TellsSizeAfter format bytes (Err fault) = ((rest : List ℕ) → head_at format (bytes ++ rest) ≡ Err fault)
    ⊎ (fault ≡ Memory)
