-- What a source has still to say, and what its answers tell.
use Rattle.std.specs.Prelude.{◌≡◌, ℕ, ◌⊎◌, Bool, List, [], ◌∷◌, ◌++◌, Option, Some, None, Result, Ok, Err}
use Rattle.std.specs.Io.KnownBytes.{Consumes}
use Rattle.pnm_image.specs.declared.message.Message.{Message}
use Rattle.pnm_image.specs.declared.packet.Packet.{Packet}
use Rattle.pnm_image.specs.Packets.{messages_in}
use Rattle.pnm_image.specs.Completion.{IsPrefixOf}
use Rattle.pnm_read.specs.declared.fault.InputFault.{InputFault}
use Rattle.pnm_read.specs.declared.source.Source.{Source}
use Rattle.pnm_read.specs.Said.{Said, text_said, said_of, fault_of, after_messages}
use Rattle.pnm_read.specs.BufferedReaders.{held_of, CanCome, EndsRightly}
use Rattle.pnm_read.specs.Said.{IsOutsideFault}
use Rattle.pnm_read.specs.Awaiting.{state_due, state_fault, is_ended}

abbrev pub reader_of : {R : Type 0} → Source R → R
reader_of s = s.input.reader

-- the fault that a source has stopped with, if any
abbrev pub stopped_by : {R : Type 0} → Source R → Option InputFault
stopped_by s = state_fault s.state

-- the end of the stream was given
abbrev pub has_ended : {R : Type 0} → Source R → Bool
has_ended s = is_ended s.state

-- what a source has still to say, where its reader still gives these bytes
unfoldable pub due : {R : Type 0} → Source R → List ℕ → Said
due s rest = state_due s.state (held_of s.input ++ rest)

-- the reader may still give these bytes: none after its end was seen
unfoldable pub MayGive : {R : Type 0} → Source R → List ℕ → Type 0
MayGive s rest = CanCome s.input rest

-- the end was seen only where the reader has no byte left
unfoldable pub SeesEnd : {R : Type 0} → (R → Option (List ℕ)) → Source R → Type 0
SeesEnd left s = EndsRightly left s.input

-- while the reader has a byte left, any bytes may come
abbrev pub MayGiveMore : {R : Type 0} → (R → Option (List ℕ)) → Source R → Type 0
MayGiveMore left s = (byte : ℕ) (more : List ℕ) → left (reader_of s) ≡ Some (byte ∷ more) → (rest : List ℕ)
    → MayGive s rest

-- A source has read these bytes and given these messages: whatever the reader gives after them, these are said
-- of the text first, and then what the source has still to say.
unfoldable pub HasGiven : {R : Type 0} → Source R → List ℕ → List Message → Type 0
HasGiven s read given = (rest : List ℕ) → MayGive s rest → text_said (read ++ rest) ≡ after_messages given (due s rest)

-- a new source over a reader has read nothing and given nothing
pub record IsFreshSource {R : Type 0} (reader : R) (s : Source R) : Type 0 where
  pub reader_is : reader_of s ≡ reader
  pub nothing_given : HasGiven s [] []
  pub unread : (rest : List ℕ) → MayGive s rest
  pub end : (left : R → Option (List ℕ)) → SeesEnd left s
  pub going : stopped_by s ≡ None

-- what an answer tells of a text, of which this is read, after the messages that were given: the next ones; that they
-- are all, and there is no fault; or that they are all before this fault. Before a fault from outside
-- they are a prefix of what is said.
abbrev pub AnswerTells : {R : Type 0} → Source R → List ℕ → List Message → Result (Option Packet) InputFault → Type 0
AnswerTells new read given (Ok (Some packet)) = HasGiven new read (given ++ messages_in packet)
AnswerTells new read given (Ok None) =
    HasGiven new read given
    × ((rest : List ℕ) → MayGive new rest → (said_of (read ++ rest) ≡ given) × (fault_of (read ++ rest) ≡ None))
AnswerTells new read given (Err fault) =
    (rest : List ℕ) → MayGive new rest → ((said_of (read ++ rest) ≡ given) × (fault_of (read ++ rest) ≡ Some fault))
    ⊎ (IsOutsideFault fault × IsPrefixOf given (said_of (read ++ rest)))

-- A call read some bytes; and whatever was read and given before it, its answer tells what is said of the text.
pub record Tells {R : Type 0} (left : R → Option (List ℕ)) (old : Source R)
    (result : Result (Option Packet) InputFault) (new : Source R) : Type 0 where
  pub more : List ℕ
  pub consumed : Consumes (left (reader_of old)) (left (reader_of new)) more
  pub told : (read : List ℕ) (given : List Message) → HasGiven old read given
      → AnswerTells new (read ++ more) given result
