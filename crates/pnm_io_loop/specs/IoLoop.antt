-- What the caller's loop keeps in a run over threads.
use Rattle.std.specs.Prelude.{◌≡◌, ◌⊎◌, ◌<◌, ◌≤◌, ℕ, true, false, List, [], Option}
use Rattle.pnm_stages.specs.Rings.{known_free, kept_free, known_items, SameSender, SameReceiver}
use Rattle.pnm_image.specs.declared.format.Form.{Form}
use Rattle.pnm_image.specs.declared.message.Message.{Message}
use Rattle.pnm_read.specs.declared.source.Source.{Source}
use Rattle.pnm_read.specs.Sources.{reader_of}
use Rattle.pnm_io_loop.specs.declared.egress.Egress.{Egress}
use Rattle.pnm_io_loop.specs.declared.ingress.Ingress.{Ingress}
use Rattle.pnm_io_loop.specs.Egresses.{IsEgress, egress_is_over, HasTakenMore}
use Rattle.pnm_serial.specs.FusedSinks.{output_of}
use Rattle.pnm_io_loop.specs.Ingresses.{IsIngress, ingress_is_over, HasSentMore}

-- what was sent is still what the source gave, and what was written what was taken, over the same rings and devices
pub record HaveStepped {R W : Type 0} (left : R → Option (List ℕ)) (reader_failures : R → ℕ)
    (same_reader : R → R → Type 0) (held : W → Option (List ℕ)) (writer_failures : W → ℕ) (same_writer : W → W → Type 0)
    (f : Ingress R) (c : Egress W) (f_new : Ingress R) (c_new : Egress W) : Type 0 where
  pub sending : (first : Source R) (before : List Message) → IsIngress left reader_failures first before f
      → IsIngress left reader_failures first before f_new
  pub receiving : (form : Form) (start : W) (before : List Message)
      → IsEgress held writer_failures form start before c
      → IsEgress held writer_failures form start before c_new
  pub sends : SameSender f.output f_new.output
  pub takes : SameReceiver c.input c_new.input
  pub reader : same_reader (reader_of f.source) (reader_of f_new.source)
  pub writer : same_writer (output_of c.fused_sink) (output_of c_new.fused_sink)

-- there is nothing more to do: all was sent and taken, unless a ring's other end was seen dropped
abbrev pub AreOver : {R W : Type 0} → Ingress R → Egress W → Type 0
AreOver f c = (ingress_is_over f ≡ true) × (egress_is_over c ≡ true)

-- a message more was sent or taken, or an end is noted
abbrev pub HaveMoved : {R W : Type 0} → Ingress R → Egress W → Ingress R → Egress W → Type 0
HaveMoved f c f_new c_new = HasSentMore f f_new ⊎ HasTakenMore c c_new

-- nothing can be sent: nothing is left, no room is known, or the result of an image that was sent is still to come
abbrev pub CannotSend : {R W : Type 0} → Ingress R → Egress W → Type 0
CannotSend f c = (ingress_is_over f ≡ true) ⊎ (known_free f.output ≤ kept_free f.output)
    ⊎ ((egress_is_over c ≡ false) × (c.images < f.images))

-- nothing can be taken: the end was taken, or none of the messages that were seen is left
abbrev pub CannotTake : {W : Type 0} → Egress W → Type 0
CannotTake c = (egress_is_over c ≡ true) ⊎ (known_items c.input ≡ [])

-- neither can be done, so the caller may sleep
abbrev pub HaveNothingToDo : {R W : Type 0} → Ingress R → Egress W → Type 0
HaveNothingToDo f c = CannotSend f c × CannotTake c
