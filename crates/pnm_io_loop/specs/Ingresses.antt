-- What the source of a run has given, and what was sent of it into the ring before the first tool.
use Rattle.std.specs.Prelude.{◌≡◌, ◌<◌, ◌⊎◌, ℕ, Bool, true, false, List, [], ◌∷◌, ◌++◌, length, Option, Some, None}
use Rattle.std.specs.Prelude.{Result, Ok, Err}
use Rattle.std.specs.Io.KnownBytes.{Consumes}
use Rattle.pnm_stages.specs.Rings.{sent}
use Rattle.pnm_image.specs.Devices.{Failed}
use Rattle.pnm_image.specs.declared.message.Message.{Message}
use Rattle.pnm_image.specs.declared.message.Message.TheVariants.{Stop}
use Rattle.pnm_read.specs.declared.fault.InputFault.{InputFault}
use Rattle.pnm_read.specs.declared.fault.InputFault.TheVariants.{ReadFailed}
use Rattle.pnm_read.specs.declared.source.Source.{Source}
use Rattle.pnm_read.specs.Sources.{reader_of, MayGive, SeesEnd, HasGiven}
use Rattle.pnm_tools.specs.ChainAnswers.{AreSound}
use Rattle.pnm_io_loop.specs.declared.ingress.Ingress.{Ingress}
use Rattle.pnm_serial.specs.Counts.{images_in}
use Rattle.pnm_serial.specs.Feeding.{IsSaidOf, HasMore, MayFollowRead}
use Rattle.pnm_serial.specs.Runs.{change}

-- the source has read bytes and given these messages, and hasn't ended
pub record HasAsked {R : Type 0} (left : R → Option (List ℕ)) (failures : R → ℕ) (first source : Source R)
    (given : List Message) : Type 0 where
  pub read : List ℕ
  pub consumed : Consumes (left (reader_of first)) (left (reader_of source)) read
  pub told : HasGiven source read given
  pub end : SeesEnd left source
  pub unread : HasMore (left (reader_of source)) → (rest : List ℕ) → MayGive source rest
  pub count : failures (reader_of source) ≡ failures (reader_of first)

-- the source has read bytes and given these messages, and has ended so
pub record HasAskedAll {R : Type 0} (left : R → Option (List ℕ)) (failures : R → ℕ) (first source : Source R)
    (given : List Message) (result : Result (Unit {0}) InputFault) : Type 0 where
  pub read : List ℕ
  pub consumed : Consumes (left (reader_of first)) (left (reader_of source)) read
  pub sound : AreSound given
  pub told : (rest : List ℕ) → MayFollowRead result (change left failures (reader_of first) (reader_of source)) rest
      → IsSaidOf (read ++ rest) given result
  pub count : (result ≡ Err ReadFailed → ⊥) → failures (reader_of source) ≡ failures (reader_of first)
  pub read_failed : result ≡ Err ReadFailed → Failed (failures (reader_of first)) (failures (reader_of source))
  pub after_failed_read : result ≡ Err ReadFailed → (rest : List ℕ) → IsSaidOf (read ++ rest) given result

abbrev pub HasAskedBy : {R : Type 0} → (R → Option (List ℕ)) → (R → ℕ) → Source R → Source R → List Message
    → Option (Result (Unit {0}) InputFault) → Type 0
HasAskedBy left failures first source given None = HasAsked left failures first source given
HasAskedBy left failures first source given (Some result) = HasAskedAll left failures first source given result

-- what is sent after the messages of the source: Stop after its fault
abbrev pub closing_messages : Option (Result (Unit {0}) InputFault) → List Message
closing_messages None = []
closing_messages (Some (Ok _)) = []
closing_messages (Some (Err fault)) = Stop ∷ []

-- what the source gave, and after its fault Stop, was sent after what had been sent before, and its images were counted
pub record IsIngress {R : Type 0} (left : R → Option (List ℕ)) (failures : R → ℕ) (first : Source R)
    (before : List Message) (f : Ingress R) : Type 0 where
  pub given : List Message
  pub asked : HasAskedBy left failures first f.source given f.input
  pub passed : sent f.output ≡ before ++ (given ++ closing_messages f.input)
  pub counted : f.images ≡ images_in 0 given

-- no more is to be sent, or can be
abbrev pub sending_is_over : Bool → Option (Result (Unit {0}) InputFault) → Bool
sending_is_over true input = true
sending_is_over false None = false
sending_is_over false (Some result) = true

abbrev pub ingress_is_over : {R : Type 0} → Ingress R → Bool
ingress_is_over f = sending_is_over f.is_gone f.input

-- a message more was sent, or it is over now
abbrev pub HasSentMore : {R : Type 0} → Ingress R → Ingress R → Type 0
HasSentMore old new = (length (sent old.output) < length (sent new.output))
    ⊎ ((ingress_is_over old ≡ false) × (ingress_is_over new ≡ true))
