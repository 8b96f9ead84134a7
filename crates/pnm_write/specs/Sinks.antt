-- Which messages were put into a sink, and which messages it refuses.
use Rattle.std.specs.Prelude.{◌≡◌, ℕ, ◌<◌, Bool, false, List, Option, None}
use Rattle.std.specs.List.{AllByRecursion}
use Rattle.std.specs.Io.KnownBytes.{Appends, Keeps}
use Rattle.pnm_image.specs.declared.format.Form.{Form}
use Rattle.pnm_image.specs.declared.message.Message.{Message}
use Rattle.pnm_image.specs.declared.message.Message.TheVariants.{Begin, Row, ImageEnd, StreamEnd, Stop}
use Rattle.pnm_image.specs.declared.place.Place.{Place}
use Rattle.pnm_image.specs.declared.place.Place.TheVariants.{Between}
use Rattle.pnm_image.specs.Places.{IsLawful, IsLawfulFrom, place_of}
use Rattle.pnm_write.specs.declared.fault.SinkFault.{SinkFault}
use Rattle.pnm_write.specs.declared.fault.SinkFault.TheVariants.{WriteFailed, OutOfOrder, Broken, SecondPlain, PlainPam}
use Rattle.pnm_write.specs.declared.sink.Sink.{Sink}
use Rattle.pnm_write.specs.Encoding.{bytes_from, bytes_of}
use Rattle.pnm_write.specs.Forms.{has_begun_by, form_fault_from, form_fault_of, RefusesFirst}
use Rattle.pnm_image.specs.Devices.{FailsIn}

abbrev pub writer_of : {W : Type 0} → Sink W → W
writer_of sink = sink.writer

-- the place of the next message
abbrev pub next_place : {W : Type 0} → Sink W → Place
next_place sink = sink.place

-- there was a fault
abbrev pub has_failed : {W : Type 0} → Sink W → Bool
has_failed sink = sink.has_failed

-- no image without rows begins
abbrev pub HasRows : Message → Type 0
HasRows (Begin head) = 0 < head.shape.height
HasRows (Row row) = Unit {0}
HasRows ImageEnd = Unit {0}
HasRows StreamEnd = Unit {0}
HasRows Stop = Unit {0}

-- the form in which the sink writes
abbrev pub form_of : {W : Type 0} → Sink W → Form
form_of sink = sink.form

-- an image has begun
abbrev pub has_begun : {W : Type 0} → Sink W → Bool
has_begun sink = sink.has_begun

-- the messages come in order from this place on, and begin no image of height 0
abbrev pub AreInOrderFrom : Place → List Message → Type 0
AreInOrderFrom place messages = IsLawfulFrom place messages × AllByRecursion HasRows messages

-- a sink takes the messages from this place on, where an image has begun or not
abbrev pub AreWritable : Form → Bool → Place → List Message → Type 0
AreWritable form begun place messages = AreInOrderFrom place messages × (form_fault_from form begun messages ≡ None)

-- these are the messages that were put into the sink without a fault
pub record HasPut {W : Type 0} (sink : Sink W) (messages : List Message) : Type 0 where
  pub lawful : IsLawful messages
  pub rows : AllByRecursion HasRows messages
  pub form : form_fault_of (form_of sink) messages ≡ None
  pub begun : has_failed sink ≡ false → has_begun sink ≡ has_begun_by false messages
  pub place : has_failed sink ≡ false → next_place sink ≡ place_of Between messages

-- these are the messages that were put, and what the writer held before them has grown by their bytes
pub record HasWritten {W : Type 0} (held : W → Option (List ℕ)) (start : Option (List ℕ)) (sink : Sink W)
    (messages : List Message) : Type 0 where
  pub put : HasPut sink messages
  pub bytes : Appends start (held (writer_of sink)) (bytes_of (form_of sink) messages)

-- Why messages that are handed over together aren't written, where there was no fault before: they don't come in order;
-- the form refuses the first of them; or the writer failed. But for the last nothing is written.
abbrev pub Refuses : Form → Bool → Place → List Message → SinkFault → Option (List ℕ) → Option (List ℕ) → ℕ → ℕ → Type 0
Refuses form begun place ms OutOfOrder old new failures_old failures_new = (AreInOrderFrom place ms → ⊥) × Keeps old new
Refuses form begun place ms SecondPlain old new failures_old failures_new = AreInOrderFrom place ms
    × RefusesFirst form begun ms SecondPlain × Keeps old new
Refuses form begun place ms PlainPam old new failures_old failures_new = AreInOrderFrom place ms
    × RefusesFirst form begun ms PlainPam × Keeps old new
Refuses form begun place ms WriteFailed old new failures_old failures_new = AreWritable form begun place ms
    × FailsIn (bytes_from form place ms) old new failures_old failures_new
Refuses form begun place ms Broken old new failures_old failures_new = ⊥
