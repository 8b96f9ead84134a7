-- What was taken from the ring behind the last tool of a run, and what was written of it.
use Rattle.std.specs.Prelude.{◌≡◌, ◌<◌, ◌⊎◌, ℕ, Bool, true, false, List, ◌++◌, length, Option}
use Rattle.pnm_stages.specs.Rings.{received}
use Rattle.pnm_image.specs.declared.format.Form.{Form}
use Rattle.pnm_image.specs.declared.message.Message.{Message}
use Rattle.pnm_image.specs.Messages.{without_stop, EndsBy}
use Rattle.pnm_image.specs.declared.message.Ending.TheVariants.{More}
use Rattle.pnm_io_loop.specs.declared.egress.Egress.{Egress}
use Rattle.pnm_serial.specs.declared.fused_sink.FusedSink.{FusedSink}
use Rattle.pnm_serial.specs.Counts.{images_in}
use Rattle.pnm_serial.specs.FusedSinks.{HasTaken}
use Rattle.pnm_stages.specs.Rings.{IsEnded}

-- whether messages have ended
abbrev pub EndedBy : Bool → List Message → Type 0
EndedBy true l = IsEnded l
EndedBy false l = EndsBy More l

-- these messages were taken, and written but for Stop
pub record HasReceived {W : Type 0} (held : W → Option (List ℕ)) (failures : W → ℕ) (form : Form) (start : W)
    (l : List Message) (has_ended : Bool) (fused_sink : FusedSink W) : Type 0 where
  pub ended : EndedBy has_ended l
  pub taken : HasTaken held failures form start (without_stop l) fused_sink

-- so were those that came after the ones which had been received before, and their images were counted
pub record IsEgress {W : Type 0} (held : W → Option (List ℕ)) (failures : W → ℕ) (form : Form) (start : W)
    (before : List Message) (c : Egress W) : Type 0 where
  pub took : List Message
  pub came : received c.input ≡ before ++ took
  pub put : HasReceived held failures form start took c.has_ended c.fused_sink
  pub counted : c.images ≡ images_in 0 took

-- no more is to be taken, or can be
abbrev pub receiving_is_over : Bool → Bool → Bool
receiving_is_over true is_gone = true
receiving_is_over false is_gone = is_gone

abbrev pub egress_is_over : {W : Type 0} → Egress W → Bool
egress_is_over c = receiving_is_over c.has_ended c.is_gone

-- a message more was taken, or it is over now
abbrev pub HasTakenMore : {W : Type 0} → Egress W → Egress W → Type 0
HasTakenMore old new = (length (received old.input) < length (received new.input))
    ⊎ ((egress_is_over old ≡ false) × (egress_is_over new ≡ true))

-- none was, and it is over only if it was before
pub record HasTakenNothing {W : Type 0} (old new : Egress W) : Type 0 where
  pub received : received new.input ≡ received old.input
  pub images : new.images ≡ old.images
  pub over : egress_is_over new ≡ egress_is_over old
