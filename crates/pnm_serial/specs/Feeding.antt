-- What has passed from the source through the stages to the sink of a run.
use Rattle.std.specs.Prelude.{◌≡◌, ◌⊎◌, ℕ, ◌<◌, List, [], ◌∷◌, Option, Some, None, Result, Ok, Err}
use Rattle.pnm_image.specs.declared.message.Message.{Message}
use Rattle.pnm_image.specs.Completion.{IsPrefixOf}
use Rattle.pnm_read.specs.declared.fault.InputFault.{InputFault}
use Rattle.pnm_read.specs.declared.fault.InputFault.TheVariants.{ReadFailed}
use Rattle.pnm_read.specs.Said.{said_of, fault_of}
use Rattle.pnm_read.specs.Said.{IsOutsideFault}
use Rattle.pnm_serial.specs.Runs.{Change}
use Rattle.pnm_serial.specs.SerialRuns.{HasMostMessages}

-- the reader failed: its count rose, or fewer messages came than a run takes
abbrev pub IsReadFailure : Result (Unit {0}) InputFault → Change → Type 0
IsReadFailure input reader = (input ≡ Err ReadFailed)
    × ((reader.failures_old < reader.failures_new) ⊎ (HasMostMessages reader.old reader.new → ⊥))

-- a byte is left, as far as is known
abbrev pub HasMore : Option (List ℕ) → Type 0
HasMore None = ⊥
HasMore (Some []) = ⊥
HasMore (Some (byte ∷ more)) = Unit {0}

-- what may come after the bytes that were read (`MayFollow`), by how the source ended
abbrev pub MayFollowRead : Result (Unit {0}) InputFault → Change → List ℕ → Type 0
MayFollowRead input reader rest = (rest ≡ []) ⊎ HasMore reader.new ⊎ IsReadFailure input reader

-- the messages that were given are all that is said of the text, and then its end or its fault; before a
-- fault from outside they are a prefix of it
abbrev pub IsSaidOf : List ℕ → List Message → Result (Unit {0}) InputFault → Type 0
IsSaidOf text given (Ok _) = (said_of text ≡ given) × (fault_of text ≡ None)
IsSaidOf text given (Err fault) = ((said_of text ≡ given) × (fault_of text ≡ Some fault))
    ⊎ (IsOutsideFault fault × IsPrefixOf given (said_of text))
