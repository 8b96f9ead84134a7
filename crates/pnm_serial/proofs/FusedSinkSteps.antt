-- Messages that are put into the sink together.
use Rattle.pnm_serial.proofs.Words.{◌≡◌, ℕ, Bool, true, false, List, ◌++◌, Option, Result, Some, None, Ok, Err, OnOk, OnErr, sym, ap, subst, ◌∙◌, is_ok, IfErr}
use Rattle.pnm_serial.proofs.Words.{Failed, AppendsPrefix, FailsIn, Form, Message, Place, Between, place_of, SinkFault, WriteFailed, Broken, SecondPlain}
use Rattle.pnm_serial.proofs.Words.{PlainPam, Appends, Keeps, Appends-kept, bytes_from, bytes_of, written_of, has_begun_by, form_fault_from, form_fault_of}
use Rattle.pnm_serial.proofs.Words.{RefusesFirst, writer_of, form_of, has_begun, next_place, has_failed, AreInOrderFrom, AreWritable, Refuses, form_fault-more}
use Rattle.pnm_serial.proofs.Words.{refused_before, refused_next, bytes_from-append, written_all, written_prefix, fails_again, prefix-more, then_prefix}
use Rattle.pnm_serial.proofs.Words.{FusedSink, Summary, images_in, rows_in, output_of, AreInOrder, CountsFlushes, AreWritten, CutsOff, HasTakenWith}
use Rattle.pnm_write.specs.declared.fault.SinkFault.TheVariants.{OutOfOrder}
use Rattle.pnm_write.specs.Sinks.{HasWritten}
use Rattle.pnm_serial.proofs.MessageSteps.{images_in-append, rows_in-append, prefix_is_writable, last_are_in_order}

-- a failure after flushes is one since the start
pub failed_since : (flush_failed : Bool) (start old new : ℕ) → CountsFlushes flush_failed start old → Failed old new → Failed start new
failed_since false start old new count failed = subst (λ (n : ℕ). Failed n new) count failed
failed_since true start old new count failed = fails_again start old new count failed

-- ---- messages that were written

-- they were written after those before them
pub put_written : {W : Type 0} (held : W → Option (List ℕ)) (failures : W → ℕ) (form : Form) (start : W) (messages more : List Message)
    (old new : FusedSink W) (o r : Result (Unit {0}) SinkFault) → is_ok o ≡ true → is_ok r ≡ true
    → HasTakenWith held failures form start messages old o
    → OnOk r ((s : Option (List ℕ)) (ms : List Message) → HasWritten held s old.sink ms → HasWritten held s new.sink (ms ++ more))
    → OnOk r (AreWritable (form_of old.sink) (has_begun old.sink) (next_place old.sink) more × (failures (output_of new) ≡ failures (output_of old)))
    → OnOk r ((has_failed old.sink ≡ false) × (has_failed new.sink ≡ false))
    → form_of new.sink ≡ form_of old.sink
    → new.summary.images ≡ images_in old.summary.images more → new.summary.rows ≡ rows_in old.summary.rows more → new.flush_failed ≡ old.flush_failed
    → HasTakenWith held failures form start (messages ++ more) new r
put_written held failures form start messages more old new (Err fault) r o-is r-is was bytes taken sound same images rows flushes = absurd cc
put_written held failures form start messages more old new (Ok x) (Err fault) o-is r-is was bytes taken sound same images rows flushes = absurd cc
put_written held failures form start messages more old new (Ok x) (Ok y) o-is r-is was bytes taken sound same images rows flushes = record {
  in_form = same ∙ was.in_form;
  written = bytes (held start) messages was.written;
  count = subst (λ (b : Bool). CountsFlushes b (failures start) (failures (output_of new))) (sym flushes)
      (subst (CountsFlushes old.flush_failed (failures start)) (sym taken.1) was.count);
  sound = sound.1;
  images = images ∙ ap (λ (k : ℕ). images_in k more) was.images ∙ sym (images_in-append 0 messages more);
  rows = rows ∙ ap (λ (k : ℕ). rows_in k more) was.rows ∙ sym (rows_in-append 0 messages more);
}

-- it stays so where only what is kept back is told anew
pub still_written : {W : Type 0} (held : W → Option (List ℕ)) (failures : W → ℕ) (form : Form) (start : W) (messages : List Message) (old new : FusedSink W)
    → new.sink ≡ old.sink → new.summary ≡ old.summary → new.flush_failed ≡ old.flush_failed
    → AreWritten held failures form start messages old → AreWritten held failures form start messages new
still_written held failures form start messages old new sink summary flushes was = record {
  in_form = ap form_of sink ∙ was.in_form;
  written = subst (λ (s : _). HasWritten held (held start) s messages) (sym sink) was.written;
  count = subst (λ (b : Bool). CountsFlushes b (failures start) (failures (output_of new))) (sym flushes)
      (subst (λ (s : _). CountsFlushes old.flush_failed (failures start) (failures (writer_of s))) (sym sink) was.count);
  sound = ap has_failed sink ∙ was.sound;
  images = ap (λ (s : Summary). s.images) summary ∙ was.images;
  rows = ap (λ (s : Summary). s.rows) summary ∙ was.rows;
}

-- it was passed on then
pub put_passed_on : {W : Type 0} (held : W → Option (List ℕ)) (failures : W → ℕ) (form : Form) (start : W) (messages : List Message) (old new : FusedSink W)
    (r : Result (Unit {0}) SinkFault) → is_ok r ≡ true → HasTakenWith held failures form start messages old r
    → (AreWritten held failures form start messages old → AreWritten held failures form start messages new) → new.output ≡ r
    → HasTakenWith held failures form start messages new new.output
put_passed_on held failures form start messages old new (Ok x) r-is was passed is = subst (HasTakenWith held failures form start messages new) (sym is)
    (passed was)
put_passed_on held failures form start messages old new (Err fault) r-is was passed is = absurd cc

-- ---- messages that were refused

-- how a sink stands that has written messages
pub record Stands (sink_form form : Form) (begun : Bool) (place : Place) (messages : List Message) : Type 0 where
  pub in_form : sink_form ≡ form
  pub none : form_fault_of form messages ≡ None
  pub has_begun : begun ≡ has_begun_by false messages
  pub here : place ≡ place_of Between messages

pub stands : {W : Type 0} (held : W → Option (List ℕ)) (failures : W → ℕ) (form : Form) (start : W) (messages : List Message) (d : FusedSink W)
    → AreWritten held failures form start messages d → Stands (form_of d.sink) form (has_begun d.sink) (next_place d.sink) messages
stands held failures form start messages d was = record {
  in_form = was.in_form;
  none = subst (λ (f : Form). form_fault_of f messages ≡ None) was.in_form was.written.put.form;
  has_begun = was.written.put.begun was.sound;
  here = was.written.put.place was.sound;
}

-- why the form refuses the messages, or doesn't
fault_is : {sink_form form : Form} {begun : Bool} {place : Place} {messages : List Message} (more : List Message)
    → Stands sink_form form begun place messages → form_fault_from sink_form begun more ≡ None
    → form_fault_from form (has_begun_by false messages) more ≡ None
fault_is {form} {begun} more is none =
    sym (ap (λ (f : Form). form_fault_from f begun more) is.in_form ∙ ap (λ (b : Bool). form_fault_from form b more) is.has_begun) ∙ none

refuses_first : {sink_form form : Form} {begun : Bool} {place : Place} {messages : List Message} (more : List Message) (fault : SinkFault)
    → Stands sink_form form begun place messages → RefusesFirst sink_form begun more fault → RefusesFirst form (has_begun_by false messages) more fault
refuses_first {form} {begun} more fault is refuses =
    subst (λ (b : Bool). RefusesFirst form b more fault) is.has_begun (subst (λ (f : Form). RefusesFirst f begun more fault) is.in_form refuses)

module _ {W : Type 0} {held : W → Option (List ℕ)} {failures : W → ℕ} {form : Form} {start : W} {messages : List Message} where
  -- the messages that were written, in the form
  pub written_in_form : {d : FusedSink W} → AreWritten held failures form start messages d → Appends (held start) (held (output_of d))
      (bytes_of form messages)
  written_in_form {d} was = subst (λ (f : Form). Appends (held start) (held (output_of d)) (bytes_of f messages)) was.in_form was.written.bytes

  -- the writer failed in the last of them
  fails_in_last : (more : List Message) {old : FusedSink W} (new : FusedSink W) → AreWritten held failures form start messages old
      → AreWritable (form_of old.sink) (has_begun old.sink) (next_place old.sink) more → FailsIn (bytes_from (form_of old.sink) (next_place old.sink) more)
      (held (output_of old)) (held (output_of new)) (failures (output_of old)) (failures (output_of new)) → FailsIn (written_of form (messages ++ more))
      (held start) (held (output_of new)) (failures start) (failures (output_of new))
  fails_in_last more {old} new was takes fails =
      let is = stands held failures form start messages old was in
      let none = form_fault-more form messages more is.none (fault_is more is takes.1) in
      let last : bytes_from (form_of old.sink) (next_place old.sink) more ≡ bytes_from form (place_of Between messages) more =
      ap (λ (f : Form). bytes_from f (next_place old.sink) more) is.in_form ∙ ap (λ (p : Place). bytes_from form p more) is.here in
      let all : bytes_of form messages ++ bytes_from (form_of old.sink) (next_place old.sink) more ≡ written_of form (messages ++ more) =
      ap (λ (l : List ℕ). bytes_of form messages ++ l) last ∙ sym (bytes_from-append form Between messages more)
      ∙ sym (written_all form (messages ++ more) none) in (
        subst (AppendsPrefix (held start) (held (output_of new))) all
            (then_prefix (held start) (held (output_of old)) (held (output_of new)) (bytes_of form messages)
            (bytes_from (form_of old.sink) (next_place old.sink) more) (written_in_form was) fails.0),
        failed_since old.flush_failed (failures start) (failures (output_of old)) (failures (output_of new)) was.count fails.1,
      )

  -- the form refused the first, and nothing was written of them
  refused_by_form : (more : List Message) {old : FusedSink W} (new : FusedSink W) (fault : SinkFault) → AreWritten held failures form start messages old
      → RefusesFirst (form_of old.sink) (has_begun old.sink) more fault → Keeps (held (output_of old)) (held (output_of new))
      → (form_fault_of form (messages ++ more) ≡ Some fault) × Appends (held start) (held (output_of new)) (written_of form (messages ++ more))
  refused_by_form more {old} new fault was refuses kept =
      let is = stands held failures form start messages old was in
      let last = refused_next form messages more fault is.none (refuses_first more fault is refuses) in (
        last.0,
        subst (Appends (held start) (held (output_of new))) (sym (ap (bytes_of form) last.1))
            (Appends-kept (held start) (held (output_of old)) (held (output_of new)) (bytes_of form messages) (written_in_form was) kept),
      )

  -- the sink takes what comes in order
  takes_last : (more : List Message) {d : FusedSink W} → AreWritten held failures form start messages d → AreInOrder (messages ++ more)
      → AreInOrderFrom (next_place d.sink) more
  takes_last more was writable = subst (λ (p : Place). AreInOrderFrom p more) (sym (was.written.put.place was.sound)) (last_are_in_order messages more writable)

pub put_refused : {W : Type 0} (held : W → Option (List ℕ)) (failures : W → ℕ) (form : Form) (start : W) (messages more : List Message)
    (old new : FusedSink W) (o r : Result (Unit {0}) SinkFault) → is_ok o ≡ true → is_ok r ≡ false
    → HasTakenWith held failures form start messages old o
    → (has_failed old.sink ≡ false
    → IfErr r (λ fault. Refuses (form_of old.sink) (has_begun old.sink) (next_place old.sink) more fault (held (output_of old)) (held (output_of new))
    (failures (output_of old)) (failures (output_of new))))
    → OnErr r (has_failed new.sink ≡ true)
    → HasTakenWith held failures form start (messages ++ more) new r
put_refused held failures form start messages more old new (Err fault) r o-is r-is was refuses failed = absurd cc
put_refused held failures form start messages more old new (Ok x) (Ok y) o-is r-is was refuses failed = absurd cc
put_refused held failures form start messages more old new (Ok x) (Err WriteFailed) o-is r-is was refuses failed =
    let refused = refuses was.sound in
    record { failed = failed; prefix = λ writable. fails_in_last more new was refused.0 refused.1 }
put_refused held failures form start messages more old new (Ok x) (Err OutOfOrder) o-is r-is was refuses failed = record {
  failed = failed;
  prefix = λ writable. absurd ((refuses was.sound).0 (takes_last more was writable));
}
put_refused held failures form start messages more old new (Ok x) (Err Broken) o-is r-is was refuses failed = absurd (refuses was.sound)
put_refused held failures form start messages more old new (Ok x) (Err SecondPlain) o-is r-is was refuses failed =
    let refused = refuses was.sound in
    record { failed = failed; prefix = λ writable. refused_by_form more new SecondPlain was refused.1 refused.2 }
put_refused held failures form start messages more old new (Ok x) (Err PlainPam) o-is r-is was refuses failed =
    let refused = refuses was.sound in
    record { failed = failed; prefix = λ writable. refused_by_form more new PlainPam was refused.1 refused.2 }

-- ---- messages that were dropped

-- after a fault nothing more is written
cut_before : (fault : SinkFault) (form : Form) (messages more : List Message) (old new : Option (List ℕ)) (failures_old failures_new : ℕ)
    → CutsOff fault form messages old new failures_old failures_new → CutsOff fault form (messages ++ more) old new failures_old failures_new
cut_before WriteFailed form messages more old new failures_old failures_new cut =
    let rest = written_prefix form messages more in
    (subst (AppendsPrefix old new) (sym rest.1) (prefix-more old new (written_of form messages) rest.0 cut.0), cut.1)
cut_before OutOfOrder form messages more old new failures_old failures_new cut = absurd cut
cut_before Broken form messages more old new failures_old failures_new cut = absurd cut
cut_before SecondPlain form messages more old new failures_old failures_new cut =
    let refused = refused_before form messages more SecondPlain cut.0 in
    (refused.0, subst (Appends old new) (sym (ap (bytes_of form) refused.1)) cut.1)
cut_before PlainPam form messages more old new failures_old failures_new cut =
    let refused = refused_before form messages more PlainPam cut.0 in
    (refused.0, subst (Appends old new) (sym (ap (bytes_of form) refused.1)) cut.1)

pub put_dropped : {W : Type 0} (held : W → Option (List ℕ)) (failures : W → ℕ) (form : Form) (start : W) (messages more : List Message)
    (d : FusedSink W) (o : Result (Unit {0}) SinkFault) → is_ok o ≡ false → HasTakenWith held failures form start messages d o
    → HasTakenWith held failures form start (messages ++ more) d o
put_dropped held failures form start messages more d (Ok x) o-is was = absurd cc
put_dropped held failures form start messages more d (Err fault) o-is was = record {
  failed = was.failed;
  prefix = λ writable. cut_before fault form messages more (held start) (held (output_of d)) (failures start) (failures (output_of d))
      (was.prefix (prefix_is_writable messages more writable));
}
