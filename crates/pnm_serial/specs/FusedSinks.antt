-- What the sink of a run has taken.
use Rattle.std.specs.Prelude.{◌≡◌, ℕ, Bool, true, false, List, Option, Some, Result, MatchResult, Ok, Err}
use Rattle.std.specs.Io.KnownBytes.{Appends}
use Rattle.std.specs.List.{AllByRecursion}
use Rattle.pnm_image.specs.declared.format.Form.{Form}
use Rattle.pnm_image.specs.declared.message.Message.{Message}
use Rattle.pnm_image.specs.Places.{IsLawful}
use Rattle.pnm_write.specs.declared.fault.SinkFault.{SinkFault}
use Rattle.pnm_write.specs.declared.fault.SinkFault.TheVariants.{WriteFailed, OutOfOrder, Broken, SecondPlain, PlainPam}
use Rattle.pnm_write.specs.Encoding.{written_of}
use Rattle.pnm_write.specs.Forms.{form_fault_of}
use Rattle.pnm_image.specs.Devices.{Failed, FailsIn}
use Rattle.pnm_write.specs.Sinks.{writer_of, form_of, has_failed, HasRows, HasWritten}
use Rattle.pnm_serial.specs.declared.fused_sink.FusedSink.{FusedSink}
use Rattle.pnm_serial.specs.declared.summary.Summary.{Summary}
use Rattle.pnm_serial.specs.Counts.{images_in, rows_in}

-- the writer behind the sink
abbrev pub output_of : {W : Type 0} → FusedSink W → W
output_of d = writer_of d.sink

-- these messages come in order, and begin no image of height 0
abbrev pub AreInOrder : List Message → Type 0
AreInOrder messages = IsLawful messages × AllByRecursion HasRows messages

-- the writer failed since the count of the start where a flush has failed, and else didn't
abbrev pub CountsFlushes : Bool → ℕ → ℕ → Type 0
CountsFlushes false start now = now ≡ start
CountsFlushes true start now = Failed start now

-- the messages were written in this form and counted; flushes may have failed
pub record AreWritten {W : Type 0} (held : W → Option (List ℕ)) (failures : W → ℕ) (form : Form) (start : W)
    (messages : List Message) (d : FusedSink W) : Type 0 where
  pub in_form : form_of d.sink ≡ form
  pub written : HasWritten held (held start) d.sink messages
  pub count : CountsFlushes d.flush_failed (failures start) (failures (output_of d))
  pub sound : has_failed d.sink ≡ false
  pub images : d.summary.images ≡ images_in 0 messages
  pub rows : d.summary.rows ≡ rows_in 0 messages

-- why messages weren't all written: the writer failed in the bytes of those that the form takes; or the form refuses
-- one, and those before it were written
abbrev pub CutsOff : SinkFault → Form → List Message → Option (List ℕ) → Option (List ℕ) → ℕ → ℕ → Type 0
CutsOff WriteFailed form messages old new failures_old failures_new =
    FailsIn (written_of form messages) old new failures_old failures_new
CutsOff OutOfOrder form messages old new failures_old failures_new = ⊥
CutsOff Broken form messages old new failures_old failures_new = ⊥
CutsOff SecondPlain form messages old new failures_old failures_new = (form_fault_of form messages ≡ Some SecondPlain)
    × Appends old new (written_of form messages)
CutsOff PlainPam form messages old new failures_old failures_new = (form_fault_of form messages ≡ Some PlainPam)
    × Appends old new (written_of form messages)

-- the sink has failed for this reason, if the messages are in order
pub record AreCutOff {W : Type 0} (held : W → Option (List ℕ)) (failures : W → ℕ) (form : Form) (start : W)
    (messages : List Message) (d : FusedSink W) (fault : SinkFault) : Type 0 where
  pub failed : has_failed d.sink ≡ true
  pub prefix : AreInOrder messages → CutsOff fault form messages (held start) (held (output_of d)) (failures start)
      (failures (output_of d))

abbrev pub HasTakenWith : {W : Type 0} → (W → Option (List ℕ)) → (W → ℕ) → Form → W → List Message → FusedSink W
    → Result (Unit {0}) SinkFault → Type 0
HasTakenWith held failures form start messages d (Ok _) = AreWritten held failures form start messages d
HasTakenWith held failures form start messages d (Err fault) = AreCutOff held failures form start messages d fault

-- since the start the sink was passed these messages, to write them in this form
abbrev pub HasTaken : {W : Type 0} → (W → Option (List ℕ)) → (W → ℕ) → Form → W → List Message → FusedSink W → Type 0
HasTaken held failures form start messages d = HasTakenWith held failures form start messages d d.output

-- what is answered after the last flush, where no message was cut off: how much was written, if no flush has failed
abbrev pub AnswersFlushes : {W : Type 0} → (W → ℕ) → FusedSink W → W → Result Summary SinkFault → Type 0
AnswersFlushes failures d done answer =
    (start : ℕ) → CountsFlushes d.flush_failed start (failures (output_of d))
    → MatchResult answer (λ summary. (summary ≡ d.summary) × (failures done ≡ start))
    (λ fault. (fault ≡ WriteFailed) × Failed start (failures done))
