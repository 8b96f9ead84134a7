-- What the parts of dealing have sent.
use Rattle.std.specs.Prelude.{◌≡◌, ◌⊎◌, ℕ, ◌-◌, ◌<◌, ◌≤◌, Bool, true, false, List, [], ◌∷◌, ◌++◌, length, Option, None}
use Rattle.std.specs.Prelude.{Some, IsSome, IfSome}
use Rattle.pnm_stages.specs.declared.sender.Sender.{Sender}
use Rattle.pnm_stages.specs.Rings.{sent, SameSender}
use Rattle.pnm_image.specs.Heads.{HeadValue}
use Rattle.pnm_image.specs.Rows.{every}
use Rattle.pnm_image.specs.declared.packet.Packet.{Packet}
use Rattle.pnm_image.specs.Packets.{messages_in}
use Rattle.pnm_image.specs.declared.message.Message.{Message}
use Rattle.pnm_image.specs.declared.message.Message.TheVariants.{Begin, StreamEnd, Stop}
use Rattle.pnm_image.specs.declared.place.Place.{Place}
use Rattle.pnm_image.specs.declared.place.Place.TheVariants.{Between, Inside, After}
use Rattle.pnm_image.specs.Places.{Accepts, IsLawfulFrom, place_of}
use Rattle.pnm_tools.specs.declared.fault.ToolFault.{ToolFault}
use Rattle.pnm_tools.specs.declared.fault.ToolFault.TheVariants.{OutOfOrder, Memory}
use Rattle.pnm_tools.specs.Dealing.{dealt_head, dealt_from}
use Rattle.pnm_image.specs.declared.message.Ending.{Ending}
use Rattle.pnm_stages.specs.declared.stage.StageEnd.{StageEnd}
use Rattle.pnm_stages.specs.declared.stage.StageEnd.TheVariants.{Fault, PeerGone}
use Rattle.pnm_stages.specs.Rings.{HasDrainedAfter}
use Rattle.pnm_lanes.specs.Deals.{AtEach}

-- what a lane, of so many, gets of messages from a place on
abbrev pub part_at : ℕ → Place → List Message → ℕ → List Message
part_at lanes place l lane = dealt_from lane lanes place l

-- the number of the row that comes at a place
abbrev pub row_at : Place → ℕ
row_at Between = 0
row_at (Inside s y) = y
row_at After = 0

-- what a lane, of so many, gets of a head, if one comes
abbrev pub dealt_begin : ℕ → ℕ → Option HeadValue → List Message
dealt_begin lane lanes None = []
dealt_begin lane lanes (Some head) = Begin (dealt_head lane lanes head) ∷ []

-- the message that ends a stream, whole or not
abbrev pub stream_end : Bool → Message
stream_end true = StreamEnd
stream_end false = Stop

-- nothing was sent
abbrev pub IsSameEnd : ℕ → Sender → Sender → Type 0
IsSameEnd lane old new = SameSender old new × (sent new ≡ sent old)

-- the lane with this number was sent messages, and no other was sent anything
abbrev pub IsSentTo : ℕ → List Message → ℕ → Sender → Sender → Type 0
IsSentTo at l lane old new = SameSender old new
    × (((lane ≡ at) × (sent new ≡ sent old ++ l)) ⊎ ((lane ≡ at → ⊥) × (sent new ≡ sent old)))

-- a lane was sent its part, or nothing where not each lane could be sent its own
abbrev pub IsSentPart : (ℕ → List Message) → Option StageEnd → ℕ → Sender → Sender → Type 0
IsSentPart part unsent lane old new = SameSender old new
    × ((sent new ≡ sent old ++ part lane) ⊎ ((sent new ≡ sent old) × IsSome unsent))

-- a part for each lane was sent; where not each lane could be sent its own, there was no memory, or the other end of a
-- ring was seen dropped
pub record HasSentParts (part : ℕ → List Message) (unsent : Option StageEnd) (olds news : List Sender) : Type 0 where
  pub lanes : AtEach (IsSentPart part unsent) olds news
  pub reason : IfSome unsent (λ end. (end ≡ Fault Memory) ⊎ (end ≡ PeerGone))

-- of rows those that the lanes get whose turn is this one, or comes later, are the same as before
abbrev pub AreLeftFrom : ℕ → ℕ → List (List ℕ) → List (List ℕ) → Type 0
AreLeftFrom turn lanes old new =
    (later : ℕ) → turn ≤ later → later < lanes → every later (lanes - 1) new ≡ every later (lanes - 1) old

-- ---- messages, one after another

-- a lane, of so many, was sent what it gets of messages from a place on
abbrev pub IsSentAll : Place → ℕ → List Message → ℕ → Sender → Sender → Type 0
IsSentAll place lanes l lane old new = SameSender old new × (sent new ≡ sent old ++ dealt_from lane lanes place l)

-- messages may come, one after another, from a place on, and each lane was sent what it gets of them
abbrev pub HasDealtAll : Place → List Message → List Sender → List Sender → Type 0
HasDealtAll place l olds news = IsLawfulFrom place l × AtEach (IsSentAll place (length olds) l) olds news

-- why the first of messages wasn't dealt at a place: there was no memory, or it can't come there
abbrev pub IsRefused : ToolFault → Place → List Message → Type 0
IsRefused fault place [] = ⊥
IsRefused fault place (m ∷ ms) = (fault ≡ Memory) ⊎ ((fault ≡ OutOfOrder) × (Accepts place m → ⊥))

-- why these messages weren't dealt, or not to each lane: nothing was sent, or not each lane could be sent its part
abbrev pub IsReason : StageEnd → Place → Message → List Message → List Sender → List Sender → Type 0
IsReason end place m ms olds news =
    ((news ≡ olds) × ((fault : ToolFault) × (end ≡ Fault fault) × IsRefused fault place (m ∷ ms)))
    ⊎ (IsLawfulFrom place (m ∷ ms) × HasSentParts (part_at (length olds) place (m ∷ ms)) (Some end) olds news)

-- messages from a place on were dealt up to some of them, which weren't, or not to each lane
pub record HasLeftOff (end : StageEnd) (place : Place) (l : List Message) (olds news : List Sender) : Type 0 where
  pub before : List Message
  pub at : Message
  pub more : List Message
  pub after : List Message
  pub parts : l ≡ before ++ at ∷ (more ++ after)
  pub nows : List Sender
  pub dealt : HasDealtAll place before olds nows
  pub reason : IsReason end (place_of place before) at more nows news

-- a packet was taken of messages that may come, one after another, from a place on to another
pub record HasTakenLawful (place : Place) (old : List Message) (packet : Packet) (after : Place)
    (new : List Message) : Type 0 where
  pub parts : old ≡ messages_in packet ++ new
  pub some : 1 ≤ length (messages_in packet)
  pub lawful : IsLawfulFrom place (messages_in packet)
  pub leads : after ≡ place_of place (messages_in packet)

-- messages from a place on were dealt, and this is the place after them; or not all of them, and the dealing ends so
abbrev pub HasDealtMessages : Place → Place → List Message → Option StageEnd → List Sender → List Sender
    → Type 0
HasDealtMessages place new l None olds news = (new ≡ place_of place l) × HasDealtAll place l olds news
HasDealtMessages place new l (Some end) olds news = HasLeftOff end place l olds news

-- ---- the end

-- dealing was broken off after a message with this ending: each lane was sent Stop and the input was drained; or else
-- the other end of a ring was seen dropped
pub record HasBrokenOffDealing (end : StageEnd) (ending : Ending) (answer : StageEnd)
    (received_old received_new seen : List Message) (olds news : List Sender) : Type 0 where
  pub unstopped : Option StageEnd
  pub drained : Bool
  pub lanes : AtEach (IsSentPart (λ lane. Stop ∷ []) unstopped) olds news
  pub input : HasDrainedAfter ending drained received_old received_new seen
  pub answered : ((unstopped ≡ None) × (drained ≡ true) × (answer ≡ end)) ⊎ (answer ≡ PeerGone)
