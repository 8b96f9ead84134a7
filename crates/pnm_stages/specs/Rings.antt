-- What has passed over a ring, and how the messages that were received or sent end.
use Rattle.std.specs.Prelude.{◌≡◌, ◌⊎◌, ℕ, Bool, true, false, List, [], ◌++◌}
use Rattle.std.specs.List.{AllByRecursion}
use Rattle.pnm_image.specs.declared.message.Message.{Message}
use Rattle.pnm_image.specs.Messages.{IsMessage, EndsBy}
use Rattle.pnm_image.specs.declared.message.Ending.{Ending}
use Rattle.pnm_image.specs.declared.message.Ending.TheVariants.{More, Whole, BrokenOff}
use Rattle.rtrb.specs.Ring.{sent as sent_on, received as received_on, known_items as known_items_on}
use Rattle.rtrb.specs.Ring.{known_free as known_free_on, IsPair as AreEndsOfRing, SameProducer as IsSameSendingEnd}
use Rattle.rtrb.specs.Ring.{SameConsumer as IsSameReceivingEnd}
use Rattle.pnm_image.specs.declared.packet.Packet.{Packet}
use Rattle.pnm_stages.specs.declared.sender.Sender.{Sender}
use Rattle.pnm_stages.specs.declared.receiver.Receiver.{Receiver}
use Rattle.pnm_stages.specs.RingPackets.{messages_of}

-- ---- the two ends of a ring

-- all that was sent by this end, and the room that it knows of
abbrev pub sent : Sender → List Message
sent s = messages_of (sent_on s.ring)

abbrev pub known_free : Sender → ℕ
known_free s = known_free_on s.ring

-- the places that stay free beside wide rows
abbrev pub kept_free : Sender → ℕ
kept_free s = s.kept_free

-- all that was received by this end, and what it has seen in the ring and not received
abbrev pub received : Receiver → List Message
received r = messages_of (received_on r.ring)

abbrev pub known_packets : Receiver → List Packet
known_packets r = known_items_on r.ring

abbrev pub known_items : Receiver → List Message
known_items r = messages_of (known_packets r)

-- the two ends of one ring
abbrev pub IsPair : Sender → Receiver → Type 0
IsPair s r = AreEndsOfRing s.ring r.ring

-- an end of the same ring
abbrev pub SameSender : Sender → Sender → Type 0
SameSender a b = IsSameSendingEnd a.ring b.ring

abbrev pub SameReceiver : Receiver → Receiver → Type 0
SameReceiver a b = IsSameReceivingEnd a.ring b.ring

-- ---- what passes over it

-- the last message ends the stream, whole or broken off, and no other does
abbrev pub IsEnded : List Message → Type 0
IsEnded l = EndsBy Whole l ⊎ EndsBy BrokenOff l

-- none but the last message ends the stream
abbrev pub EndsAtMostOnce : List Message → Type 0
EndsAtMostOnce l = (e : Ending) × EndsBy e l

-- a list was extended by these messages
pub record Extends (old new : List Message) (P : List Message → Type 0) : Type 0 where
  pub more : List Message
  pub added : new ≡ old ++ more
  pub messages : AllByRecursion IsMessage more
  pub holds : P more

-- messages were taken through the end of the stream; or none of those that were taken ends it, and no message is left
-- of those that the receiving end has seen. Whether there are more, one end of a ring alone doesn't know.
abbrev pub HasDrained : Bool → List Message → List Message → List Message → Type 0
HasDrained true old new seen = Extends old new IsEnded
HasDrained false old new seen = Extends old new (EndsBy More) × (seen ≡ [])

-- messages were drained after one with this ending: after one that ends the stream nothing is
abbrev pub HasDrainedAfter : Ending → Bool → List Message → List Message → List Message → Type 0
HasDrainedAfter More drained old new seen = HasDrained drained old new seen
HasDrainedAfter Whole drained old new seen = (drained ≡ true) × (new ≡ old)
HasDrainedAfter BrokenOff drained old new seen = (drained ≡ true) × (new ≡ old)
