-- What the parts of the gatherer's work have received.
use Rattle.std.specs.Prelude.{◌≡◌, ◌⊎◌, ◌<◌, ◌≤◌, ◌+◌, ◌%◌, ℕ, Bool, true, false, Option, Some, None, List, [], ◌∷◌}
use Rattle.std.specs.Prelude.{◌++◌, length, slice_index, slice_index_or, Result, Ok, Err}
use Rattle.std.specs.List.{AllByRecursion}
use Rattle.pnm_image.specs.declared.message.Message.{Message}
use Rattle.pnm_image.specs.declared.message.Message.TheVariants.{Begin, Row, ImageEnd, StreamEnd, Stop}
use Rattle.pnm_image.specs.declared.packet.Packet.{Packet}
use Rattle.pnm_image.specs.declared.place.Place.{Place}
use Rattle.pnm_image.specs.declared.place.Place.TheVariants.{Between, Inside, After}
use Rattle.pnm_image.specs.Completion.{IsPrefixOf}
use Rattle.pnm_image.specs.Heads.{HeadValue, IsHead}
use Rattle.pnm_image.specs.Messages.{IsMessage, EndsBy}
use Rattle.pnm_image.specs.Packets.{messages_in, ending_of_packet}
use Rattle.pnm_image.specs.Rows.{row_messages}
use Rattle.pnm_image.specs.declared.shape.Shape.{Shape}
use Rattle.pnm_image.specs.Places.{IsLawfulFrom, place_after, place_of}
use Rattle.pnm_tools.specs.declared.fault.ToolFault.TheVariants.{CutOutside, ChannelOutside, TooLarge, OutOfOrder}
use Rattle.pnm_tools.specs.declared.fault.ToolFault.TheVariants.{Memory}
use Rattle.pnm_image.specs.declared.message.Ending.{Ending}
use Rattle.pnm_image.specs.declared.message.Ending.TheVariants.{More, Whole, BrokenOff}
use Rattle.pnm_tools.specs.Dealing.{dealt_head, dealt_height, dealt_from}
use Rattle.pnm_stages.specs.declared.stage.StageEnd.{StageEnd}
use Rattle.pnm_stages.specs.declared.stage.StageEnd.TheVariants.{Well, Broken, Fault, PeerGone}
use Rattle.pnm_stages.specs.Rings.{Extends, IsEnded}
use Rattle.pnm_lanes.specs.Gathers.{at_lane}
use Rattle.pnm_lanes.specs.declared.held.Held.{Held}
use Rattle.pnm_lanes.specs.declared.lane.LaneState.{LaneState}
use Rattle.pnm_lanes.specs.declared.lane.LaneState.TheVariants.{Open, Ended, Gone}
use Rattle.pnm_lanes.specs.Internal.HeldMessages.{in_held}

-- a message of a stream that isn't broken off: the head of each image keeps the rules of heads, and Stop isn't one
abbrev pub IsOfStream : Message → Type 0
IsOfStream (Begin head) = IsHead head
IsOfStream (Row row) = Unit {0}
IsOfStream ImageEnd = Unit {0}
IsOfStream StreamEnd = Unit {0}
IsOfStream Stop = ⊥

-- the heights of the lanes' images are those of an image of this height, dealt
abbrev pub AreDealtHeights : List ℕ → ℕ → Type 0
AreDealtHeights heights height = (lane : ℕ) → lane < length heights
    → slice_index heights lane ≡ dealt_height lane (length heights) height

-- ---- the next message of the whole stream

abbrev pub state_at : List LaneState → ℕ → LaneState
state_at states lane = slice_index_or states lane Open

-- these messages leave the lane in this state
abbrev pub IsLeftBy : LaneState → List Message → Type 0
IsLeftBy Open taken = AllByRecursion IsMessage taken × EndsBy More taken
IsLeftBy Ended taken = AllByRecursion IsMessage taken × IsEnded taken
IsLeftBy Gone taken = ⊥

-- this was taken of each lane
pub record HasTakenParts (lanes : ℕ) (states : List LaneState) (old new taken : ℕ → List Message) : Type 0 where
  pub added : (lane : ℕ) → lane < lanes → new lane ≡ old lane ++ taken lane
  pub left : (lane : ℕ) → lane < lanes → IsLeftBy (state_at states lane) (taken lane)

-- what was taken of each lane and is held is of a stream that isn't broken off
pub record AreHolding (lanes : ℕ) (states : List LaneState) (old new : ℕ → List Message) (held : List Held)
    : Type 0 where
  pub parts : HasTakenParts lanes states old new (at_lane in_held held)
  pub stream : (lane : ℕ) → lane < lanes → AllByRecursion IsOfStream (at_lane in_held held lane)

-- something is held of each lane from which something comes next: of the next row's lane, or of each where no row does
abbrev pub HoldEach : ℕ → List Held → Type 0
HoldEach lanes held = (lane : ℕ) → lane < lanes → 1 ≤ length (at_lane in_held held lane)

abbrev pub HoldNext : ℕ → Place → List Held → Type 0
HoldNext lanes Between held = HoldEach lanes held
HoldNext lanes (Inside s y) held = (y < s.height → 1 ≤ length (at_lane in_held held (y % lanes)))
    × (s.height ≤ y → HoldEach lanes held)
HoldNext lanes After held = HoldEach lanes held

-- the next messages of the whole stream: each lane has given its part of them, and then what is held of it
pub record HasTakenWhole (lanes : ℕ) (place next : Place) (packet : Packet) (states : List LaneState)
    (old new : ℕ → List Message) (held : List Held) : Type 0 where
  pub lawful : IsLawfulFrom place (messages_in packet)
  pub at_next : next ≡ place_of place (messages_in packet)
  pub stream : AllByRecursion IsOfStream (messages_in packet)
  pub ends : EndsBy (ending_of_packet packet) (messages_in packet)
  pub parts : HasTakenParts lanes states old new
      (λ lane. dealt_from lane lanes place (messages_in packet) ++ at_lane in_held held lane)
  pub held_stream : (lane : ℕ) → lane < lanes → AllByRecursion IsOfStream (at_lane in_held held lane)

-- what the lanes have given begins no stream from this place on
abbrev pub BeginsNone : ℕ → Place → (ℕ → List Message) → Type 0
BeginsNone lanes place taken =
    (rest : List Message) → IsLawfulFrom place rest → AllByRecursion IsOfStream rest
    → ((lane : ℕ) → lane < lanes → IsPrefixOf (taken lane) (dealt_from lane lanes place rest)) → ⊥

-- why nothing comes next
abbrev pub IsCause : StageEnd → ℕ → Place → (ℕ → List Message) → Type 0
IsCause Well lanes place taken = ⊥
IsCause Broken lanes place taken = (lane : ℕ) × (lane < lanes) × (taken lane ≡ Stop ∷ [])
IsCause (Fault CutOutside) lanes place taken = ⊥
IsCause (Fault ChannelOutside) lanes place taken = ⊥
IsCause (Fault TooLarge) lanes place taken = ⊥
IsCause (Fault OutOfOrder) lanes place taken =
    ((lane : ℕ) → lane < lanes → AllByRecursion IsOfStream (taken lane)) × BeginsNone lanes place taken
IsCause (Fault Memory) lanes place taken = Unit {0}
IsCause PeerGone lanes place taken = Unit {0}

-- nothing does
pub record HasTakenNone (lanes : ℕ) (place : Place) (end : StageEnd) (states : List LaneState)
    (old new : ℕ → List Message) : Type 0 where
  pub taken : ℕ → List Message
  pub parts : HasTakenParts lanes states old new taken
  pub cause : IsCause end lanes place taken

-- what is held of lanes, once they have given it; or nothing comes next
abbrev pub HasFilled : {A : Type 0} → ℕ → Place → Result A StageEnd → List LaneState → (ℕ → List Message)
    → (ℕ → List Message) → List Held → Type 0
HasFilled lanes place (Ok done) states old new held = AreHolding lanes states old new held
HasFilled lanes place (Err end) states old new held = HasTakenNone lanes place end states old new

abbrev pub HasTakenNext : ℕ → Place → Place → Result Packet StageEnd → List LaneState → (ℕ → List Message)
    → (ℕ → List Message) → List Held → Type 0
HasTakenNext lanes place next (Ok packet) states old new held =
    HasTakenWhole lanes place next packet states old new held
HasTakenNext lanes place next (Err end) states old new held = HasTakenNone lanes place end states old new

-- ---- what is held, put together

-- the kinds of messages come in order, whatever the rows hold
abbrev pub Fits : Place → Message → Type 0
Fits Between (Begin head) = Unit {0}
Fits Between (Row row) = ⊥
Fits Between ImageEnd = ⊥
Fits Between StreamEnd = Unit {0}
Fits Between Stop = ⊥
Fits (Inside s y) (Begin head) = ⊥
Fits (Inside s y) (Row row) = y < s.height
Fits (Inside s y) ImageEnd = y ≡ s.height
Fits (Inside s y) StreamEnd = ⊥
Fits (Inside s y) Stop = ⊥
Fits After m = ⊥

abbrev pub FitsFrom : Place → List Message → Type 0
FitsFrom place [] = Unit {0}
FitsFrom place (m ∷ ms) = Fits place m × FitsFrom (place_after place m) ms

-- messages of the whole stream were put together of what was held of the lanes: each lane's part of them was passed on
pub record HasPassed (lanes : ℕ) (place : Place) (ms : List Message) (old new : List Held) : Type 0 where
  pub fit : FitsFrom place ms
  pub stream : AllByRecursion IsOfStream ms
  pub parts : (lane : ℕ) → lane < lanes
      → at_lane in_held old lane ≡ dealt_from lane lanes place ms ++ at_lane in_held new lane

-- rows from this one on were put behind others
pub record HasAddedRows (lanes : ℕ) (shape : Shape) (from : ℕ) (rows_old rows_new : List (List ℕ))
    (old new : List Held) : Type 0 where
  pub more : List (List ℕ)
  pub added : rows_new ≡ rows_old ++ more
  pub passed : HasPassed lanes (Inside shape from) (row_messages more) old new
  pub within : from + length more ≤ shape.height

-- what is held begins no stream from this place on; or there was no memory
abbrev pub IsNotTogether : StageEnd → ℕ → Place → List Held → Type 0
IsNotTogether Well lanes place held = ⊥
IsNotTogether Broken lanes place held = ⊥
IsNotTogether (Fault CutOutside) lanes place held = ⊥
IsNotTogether (Fault ChannelOutside) lanes place held = ⊥
IsNotTogether (Fault TooLarge) lanes place held = ⊥
IsNotTogether (Fault OutOfOrder) lanes place held = BeginsNone lanes place (at_lane in_held held)
IsNotTogether (Fault Memory) lanes place held = Unit {0}
IsNotTogether PeerGone lanes place held = ⊥

-- the lanes' heads are those of this one, dealt
abbrev pub AreDealtHeads : ℕ → HeadValue → (ℕ → List Message) → Type 0
AreDealtHeads lanes head held =
    (lane : ℕ) → lane < lanes → IsPrefixOf (Begin (dealt_head lane lanes head) ∷ []) (held lane)

-- ---- draining

-- the state of a lane after messages that end its stream so
abbrev pub state_by : Ending → LaneState
state_by More = Open
state_by Whole = Ended
state_by BrokenOff = Ended

-- one message more was taken of a lane, and leaves it in this state; or none was there; or the ring's other end was
-- seen dropped, and no message is left of those that were seen
abbrev pub HasDrainedOne : Option LaneState → List Message → List Message → List Message → Type 0
HasDrainedOne None old new seen = new ≡ old
HasDrainedOne (Some Open) old new seen = Extends old new (λ more. IsLeftBy Open more)
HasDrainedOne (Some Ended) old new seen = Extends old new (λ more. IsLeftBy Ended more)
HasDrainedOne (Some Gone) old new seen = (new ≡ old) × (seen ≡ [])

-- what a lane's state says of all that was received of it from a start on, and of what was seen and not received
abbrev pub IsLane : LaneState → List Message → List Message → List Message → Type 0
IsLane Open start now seen = Extends start now (EndsBy More)
IsLane Ended start now seen = Extends start now IsEnded
IsLane Gone start now seen = Extends start now (EndsBy More) × (seen ≡ [])

abbrev pub AreLanes : ℕ → List LaneState → (ℕ → List Message) → (ℕ → List Message) → (ℕ → List Message) → Type 0
AreLanes lanes states start now seen = (lane : ℕ) → lane < lanes
    → IsLane (state_at states lane) (start lane) (now lane) (seen lane)

-- whatever the states said from a start on, they still say, and messages were added alone
pub record CarriesOn (lanes : ℕ) (states_old states_new : List LaneState)
    (old new seen_old seen_new : ℕ → List Message) : Type 0 where
  pub lanes_are : (start : ℕ → List Message) → AreLanes lanes states_old start old seen_old
      → AreLanes lanes states_new start new seen_new
  pub prefixes : (lane : ℕ) → IsPrefixOf (old lane) (new lane)

-- no lane is open any more; whether all have ended
abbrev pub IsDone : Bool → LaneState → Type 0
IsDone ended Open = ⊥
IsDone ended Ended = Unit {0}
IsDone ended Gone = ended ≡ false

abbrev pub AreDone : Bool → List LaneState → Type 0
AreDone ended states = (lane : ℕ) → lane < length states → IsDone ended (state_at states lane)

pub record HasDrainedAll (lanes : ℕ) (ended : Bool) (states_old states_new : List LaneState)
    (old new seen_old seen_new : ℕ → List Message) : Type 0 where
  pub carried : CarriesOn lanes states_old states_new old new seen_old seen_new
  pub done : (lane : ℕ) → lane < lanes → IsDone ended (state_at states_new lane)

-- ---- breaking off

-- Stop was sent and each lane has ended; or the other end of a ring was seen dropped, and Stop was sent or wasn't
abbrev pub HasStopped : StageEnd → StageEnd → ℕ → List LaneState → List Message → List Message → Type 0
HasStopped cause end lanes states sent_old sent_new =
    ((end ≡ cause) × (sent_new ≡ sent_old ++ Stop ∷ [])
    × ((lane : ℕ) → lane < lanes → IsDone true (state_at states lane)))
    ⊎ ((end ≡ PeerGone) × ((sent_new ≡ sent_old ++ Stop ∷ []) ⊎ (sent_new ≡ sent_old))
    × ((lane : ℕ) → lane < lanes → IsDone false (state_at states lane)))

pub record HasBrokenOffAll (cause end : StageEnd) (lanes : ℕ) (states_old states_new : List LaneState)
    (old new seen_old seen_new : ℕ → List Message) (sent_old sent_new : List Message) : Type 0 where
  pub carried : CarriesOn lanes states_old states_new old new seen_old seen_new
  pub breaks : HasStopped cause end lanes states_new sent_old sent_new
