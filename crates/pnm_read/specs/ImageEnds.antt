-- What is told of where the first image of a text ends, of which more may follow.
use Rattle.std.specs.Prelude.{◌≡◌, ◌⊎◌, ℕ, ◌+◌, ◌<◌, ◌≤◌, Bool, true, List, ◌++◌, length, Result, Ok, Err}
use Rattle.pnm_read.specs.declared.fault.InputFault.{InputFault}
use Rattle.pnm_read.specs.declared.fault.InputFault.TheVariants.{Memory}
use Rattle.pnm_read.specs.Said.{said_of, fault_of}
use Rattle.pnm_read.specs.ImageSizes.{BeginsWithHeader, HasRawSize, IsCutInHeader, IsFaultOfAll}

-- the same is said of each text that begins with this one, whatever follows
abbrev pub IsDecided : List ℕ → Type 0
IsDecided text = (more : List ℕ) → (said_of (text ++ more) ≡ said_of text) × (fault_of (text ++ more) ≡ fault_of text)

-- the first image of a stream is plain
abbrev pub IsPlainFirst : Bool → List ℕ → Type 0
IsPlainFirst is_first text = (is_first ≡ true) × BeginsWithHeader true text

-- the image ends there: it is raw and its header and raster have so many bytes, or plain, and of a stream that begins
-- with the text nothing else is said
abbrev pub EndsAt : Bool → List ℕ → ℕ → Type 0
EndsAt is_first text end = HasRawSize text end
    ⊎ (IsPlainFirst is_first text × (end ≡ length text) × IsDecided text)

-- the image needs so many bytes: it is raw and has so many; or a byte more, since the header isn't whole, or the image
-- is plain
abbrev pub NeedsBytes : Bool → List ℕ → ℕ → Type 0
NeedsBytes is_first text wanted = HasRawSize text wanted
    ⊎ ((wanted ≡ length text + 1) × (IsCutInHeader is_first text ⊎ IsPlainFirst is_first text))

-- the end, or more bytes that are needed; or the header's fault, unless memory ran out
abbrev pub TellsEnd : Bool → List ℕ → Result ℕ InputFault → Type 0
TellsEnd is_first text (Ok end) = (end ≤ length text → EndsAt is_first text end)
    × (length text < end → NeedsBytes is_first text end)
TellsEnd is_first text (Err fault) = IsFaultOfAll is_first text fault ⊎ (fault ≡ Memory)
