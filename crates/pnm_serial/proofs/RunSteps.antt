-- What a run has read and written when all messages have passed.
use Rattle.pnm_serial.proofs.Words.{◌≡◌, ◌≢◌, ◌⊎◌, ℕ, Bool, List, [], ◌∷◌, ◌++◌, take, length, sum_by, zero-add, Option, None, Some, Result, Ok, Err, refl, sym}
use Rattle.pnm_serial.proofs.Words.{ap, subst, ◌∙◌, inl, inr, append_assoc, is_err, AllByRecursion, Appends, Keeps, append-nil, take_at, Appends-kept, Failed}
use Rattle.pnm_serial.proofs.Words.{AppendsPrefix, Form, Raw, Plain, Message, Begin, Row, ImageEnd, StreamEnd, Stop, Image, messages_of_stream, IsPrefixOf}
use Rattle.pnm_serial.proofs.Words.{Completes, InputFault, Source, said_of, fault_of, AreSaid, IsOutsideFault, said_text_is_spelled, are_said, no_text_fault}
use Rattle.pnm_serial.proofs.Words.{ToolFault, Memory, Tool, AreLawfulTools, due_in_turn, IsSound, AreSound, HaveAnswered, AreWell, IsFirstFault}
use Rattle.pnm_serial.proofs.Words.{given_are_sound, stream_is_answered, refusal_is_first, none_before_first_fault, sound_keeps_all, SinkFault, WriteFailed}
use Rattle.pnm_serial.proofs.Words.{Broken, SecondPlain, PlainPam, bytes_of, written_of, form_fault_of, IsFormFault, HasRows, has_failed, stream_fault}
use Rattle.pnm_serial.proofs.Words.{written_all, prefix-more, FusedSink, FusedFilter, AtWork, Refused, RunFault, Summary, saturate_u64, images_in, rows_in}
use Rattle.pnm_serial.proofs.Words.{output_of, AreInOrder, AreWritten, CutsOff, AreCutOff, HasTakenWith, AnswersFlushes, IsSaidOf, HasFed, Job, IsStoppedBy}
use Rattle.pnm_serial.proofs.Words.{FitAnswer, IsAllWritten, RefusalIs, HasResults, IsAnswer, FiltersAt, refusals_in}
use Rattle.pnm_tools.proofs.ChainLaws.{given_is_prefix}
use Rattle.pnm_write.specs.declared.fault.SinkFault.TheVariants.{OutOfOrder}
use Rattle.pnm_serial.proofs.CountLaws.{images_in-stream, rows_in-stream}
use Rattle.pnm_serial.proofs.FeedingSteps.{said_are_sound}
use Rattle.pnm_serial.proofs.LastRefusals.{last_refusal_is_due}
use Rattle.pnm_serial.proofs.ResultSteps.{due_of_results}

-- ---- what is said

-- the images of a text without a fault, of which the messages were given
images_said : (text : List ℕ) {given : List Message} → (said_of text ≡ given) × (fault_of text ≡ None)
    → (images : List Image) × AreSaid text images × (given ≡ messages_of_stream images)
images_said text said =
    let found = said_text_is_spelled text said.1 in
    (found.0, are_said text found.0 found.1, sym said.0 ∙ found.2)

pub input_fault : (text : List ℕ) (given : List Message) (fault : InputFault) → IsSaidOf text given (Err fault)
    → IsOutsideFault fault ⊎ (fault_of text ≡ Some fault)
input_fault text given fault is =
    elim is [
      | inl own ↦ inr own.1
      | inr outside ↦ inl outside.0
    ]

-- what was given is a prefix of what is said
pub said_prefix : (text : List ℕ) (given : List Message) (result : Result (Unit {0}) InputFault) → IsSaidOf text given result → IsPrefixOf given (said_of text)
said_prefix text given (Ok x) is = ([], is.0 ∙ sym (append-nil given))
said_prefix text given (Err fault) is =
    elim is [
      | inl own ↦ ([], own.0 ∙ sym (append-nil given))
      | inr outside ↦ outside.1
    ]

-- at the text's own fault it is all of it
pub said_before_fault : (text : List ℕ) (given : List Message) {fault : InputFault} → IsSaidOf text given (Err fault) → fault_of text ≡ Some fault
    → said_of text ≡ given
said_before_fault text given {fault} is e =
    elim is [
      | inl own ↦ own.0
      | inr outside ↦ absurd (no_text_fault text fault e outside.0)
    ]

-- ---- the stages

-- stages have answered what they received
pub have_answered : {F : Type 0} (at : F → Tool → List Message → List Message → Type 0) (all_given : F → Bool) (stopped : F → Option ToolFault)
    (stages : List (FusedFilter F)) (tools : List Tool) (l g : List Message) → FiltersAt at all_given stopped stages tools l g
    → HaveAnswered tools (refusals_in stages) l g
have_answered at all_given stopped [] [] l g is = is
have_answered at all_given stopped [] (tool ∷ tools) l g is = absurd is
have_answered at all_given stopped (stage ∷ stages) [] l g is = absurd is
have_answered at all_given stopped (AtWork filter ∷ stages) (tool ∷ tools) l g is =
    (is.0, is.1.full, have_answered at all_given stopped stages tools is.0 g is.2)
have_answered at all_given stopped (Refused fault ∷ stages) (tool ∷ tools) l g is = (is.0, is.1, have_answered at all_given stopped stages tools is.0 g is.2)

-- a sink takes sound messages
rows_of_sound : (l : List Message) → AllByRecursion IsSound l → AllByRecursion HasRows l
rows_of_sound [] s = tt
rows_of_sound (Begin head ∷ l) s = (s.0, rows_of_sound l s.1)
rows_of_sound (Row row ∷ l) s = (tt, rows_of_sound l s.1)
rows_of_sound (ImageEnd ∷ l) s = (tt, rows_of_sound l s.1)
rows_of_sound (StreamEnd ∷ l) s = (tt, rows_of_sound l s.1)
rows_of_sound (Stop ∷ l) s = absurd s.0

pub sound_is_writable : (l : List Message) → AreSound l → AreInOrder l
sound_is_writable l s = (s.lawful, rows_of_sound l s.sound)

-- ---- what is written

-- a growth is a prefix of more
prefix_of_more : (a b : Option (List ℕ)) (x y : List ℕ) → Appends a b x → AppendsPrefix a b (x ++ y)
prefix_of_more a b x y p = (length x, subst (Appends a b) (sym (take_at x y (length x) refl)) p)

-- a prefix, and then nothing more
prefix-kept : (a b c : Option (List ℕ)) (x : List ℕ) → AppendsPrefix a b x → Keeps b c → AppendsPrefix a c x
prefix-kept a b c x p k = (p.0, Appends-kept a b c (take p.0 x) p.1 k)

-- nothing is written yet
pub nothing_prefix : (a : Option (List ℕ)) (bytes : List ℕ) → AppendsPrefix a a bytes
nothing_prefix None bytes = (0, tt)
nothing_prefix (Some xs) bytes = (0, sym (append-nil xs))

module _ {W : Type 0} {held : W → Option (List ℕ)} {failures : W → ℕ} {form : Form} {start : W} {out : List Message} {d : FusedSink W} where
  -- the messages that were written are all that the form takes of them
  takes_written : AreWritten held failures form start out d → form_fault_of form out ≡ None
  takes_written is = subst (λ (f : Form). form_fault_of f out ≡ None) is.in_form is.written.put.form

  bytes_written : AreWritten held failures form start out d → Appends (held start) (held (output_of d)) (bytes_of form out)
  bytes_written is = subst (λ (f : Form). Appends (held start) (held (output_of d)) (bytes_of f out)) is.in_form is.written.bytes

  all_taken_written : AreWritten held failures form start out d → Appends (held start) (held (output_of d)) (written_of form out)
  all_taken_written is = subst (Appends (held start) (held (output_of d))) (sym (written_all form out (takes_written is))) (bytes_written is)

-- a prefix of what the form takes was written, whatever cut it off
cut_prefix : (fault : SinkFault) (form : Form) (out : List Message) (more : List ℕ) (old new : Option (List ℕ)) (failures_old failures_new : ℕ)
    → CutsOff fault form out old new failures_old failures_new → AppendsPrefix old new (written_of form out ++ more)
cut_prefix WriteFailed form out more old new failures_old failures_new cut = prefix-more old new (written_of form out) more cut.0
cut_prefix OutOfOrder form out more old new failures_old failures_new cut = absurd cut
cut_prefix Broken form out more old new failures_old failures_new cut = absurd cut
cut_prefix SecondPlain form out more old new failures_old failures_new cut = prefix_of_more old new (written_of form out) more cut.1
cut_prefix PlainPam form out more old new failures_old failures_new cut = prefix_of_more old new (written_of form out) more cut.1

output_prefix : {W : Type 0} (held : W → Option (List ℕ)) (failures : W → ℕ) (form : Form) (start : W) (out : List Message) (more : List ℕ) (d : FusedSink W)
    (o : Result (Unit {0}) SinkFault) → AreInOrder out → HasTakenWith held failures form start out d o
    → AppendsPrefix (held start) (held (output_of d)) (written_of form out ++ more)
output_prefix held failures form start out more d (Ok x) writable is = prefix_of_more (held start) (held (output_of d)) (written_of form out) more
    (all_taken_written is)
output_prefix held failures form start out more d (Err fault) writable is = cut_prefix fault form out more (held start) (held (output_of d)) (failures start)
    (failures (output_of d)) (is.prefix writable)

-- where the writer didn't fail, all of it was
cut_all : (fault : SinkFault) (form : Form) (out : List Message) (old now done : Option (List ℕ)) (failures_old : ℕ) {failures_now failures_done : ℕ}
    → CutsOff fault form out old now failures_old failures_now → failures_done ≡ failures_now → Keeps now done → ¬ Failed failures_old failures_done
    → Appends old done (written_of form out)
cut_all WriteFailed form out old now done failures_old cut same kept sound = absurd (sound (subst (Failed failures_old) (sym same) cut.1))
cut_all OutOfOrder form out old now done failures_old cut same kept sound = absurd cut
cut_all Broken form out old now done failures_old cut same kept sound = absurd cut
cut_all SecondPlain form out old now done failures_old cut same kept sound = Appends-kept old now done (written_of form out) cut.1 kept
cut_all PlainPam form out old now done failures_old cut same kept sound = Appends-kept old now done (written_of form out) cut.1 kept

pub output_all : {W : Type 0} (held : W → Option (List ℕ)) (failures : W → ℕ) (form : Form) (start done : W) (out : List Message) (d : FusedSink W)
    (o : Result (Unit {0}) SinkFault) → AreInOrder out → HasTakenWith held failures form start out d o
    → ((fault : SinkFault) → o ≡ Err fault → done ≡ output_of d) → Keeps (held (output_of d)) (held done) → ¬ Failed (failures start) (failures done)
    → Appends (held start) (held done) (written_of form out)
output_all held failures form start done out d (Ok x) writable is broken kept sound =
    Appends-kept (held start) (held (output_of d)) (held done) (written_of form out) (all_taken_written is) kept
output_all held failures form start done out d (Err fault) writable is broken kept sound =
    cut_all fault form out (held start) (held (output_of d)) (held done) (failures start) (is.prefix writable) (ap failures (broken fault refl)) kept sound

-- the sink has failed where its output is at fault
pub failed_so : {W : Type 0} (held : W → Option (List ℕ)) (failures : W → ℕ) (form : Form) (start : W) (out : List Message) (d : FusedSink W)
    (o : Result (Unit {0}) SinkFault) → HasTakenWith held failures form start out d o → has_failed d.sink ≡ is_err o
failed_so held failures form start out d (Ok x) is = is.sound
failed_so held failures form start out d (Err fault) is = is.failed

-- ---- the run

-- What a run knows at its end: what the source gave, and what the sink took, a prefix of what is due.
pub record Ran {W : Type 0} (held : W → Option (List ℕ)) (failures : W → ℕ) (start : W) (job : Job) (given out : List Message) (d : FusedSink W) : Type 0 where
  pub lawful : AreLawfulTools job.tools
  pub sound : AreSound given
  pub writable : AreInOrder out
  pub due : (is : List Image) → Completes is given → IsPrefixOf out (due_in_turn job.tools is)
  pub taken : HasTakenWith held failures job.form start out d d.output

-- images that complete what is said complete a prefix of it
completes_prefix : (l given : List Message) (is : List Image) → AreSound l → AreSound given → IsPrefixOf given l → Completes is l → Completes is given
completes_prefix l given is sound given_sound prefix c = record {
  images = c.images;
  prefix = (
    prefix.0 ++ c.prefix.0,
    c.prefix.1 ∙ ap (λ (x : List Message). x ++ c.prefix.0) (sound_keeps_all l sound.sound ∙ prefix.1) ∙ append_assoc given prefix.0 c.prefix.0
        ∙ ap (λ (x : List Message). x ++ (prefix.0 ++ c.prefix.0)) (sym (sound_keeps_all given given_sound.sound)),
  );
}

-- however it ends, what came out is a prefix of what is due
pub run_due : {W : Type 0} (held : W → Option (List ℕ)) (failures : W → ℕ) (start : W) (job : Job) (given out : List Message) (d : FusedSink W)
    (text : List ℕ) → Ran held failures start job given out d → IsPrefixOf given (said_of text) → (images : List Image) → Completes images (said_of text)
    → IsPrefixOf out (due_in_turn job.tools images)
run_due held failures start job given out d text ran said images completes =
    ran.due images (completes_prefix (said_of text) given images (said_are_sound text) ran.sound said completes)

-- and a prefix of it was written
pub run_begun : {W : Type 0} (held : W → Option (List ℕ)) (failures : W → ℕ) (start done : W) (job : Job) (given out : List Message) (d : FusedSink W)
    → Ran held failures start job given out d → Keeps (held (output_of d)) (held done) → AppendsPrefix (held start) (held done) (written_of job.form out)
run_begun held failures start done job given out d ran kept =
    prefix-kept (held start) (held (output_of d)) (held done) (written_of job.form out)
    (subst (AppendsPrefix (held start) (held (output_of d))) (append-nil (written_of job.form out))
    (output_prefix held failures job.form start out [] d d.output ran.writable ran.taken))
    kept

-- where the whole text was read, all that the tools answered was written, unless the writer failed
pub run_all : {W : Type 0} (held : W → Option (List ℕ)) (failures : W → ℕ) (start done : W) (job : Job) (faults : List (Option ToolFault))
    (given out : List Message) (d : FusedSink W) (text : List ℕ)
    → Ran held failures start job given out d → HaveAnswered job.tools faults given out → said_of text ≡ given
    → ((f : SinkFault) → d.output ≡ Err f → done ≡ output_of d) → Keeps (held (output_of d)) (held done) → ¬ Failed (failures start) (failures done)
    → (answer : Result Summary RunFault) → FitAnswer answer faults → IsAllWritten text job answer (held start) (held done)
run_all held failures start done job faults given out d text ran have said broken kept sound answer fit = record {
  faults = faults;
  given = out;
  fit = fit;
  answered = subst (λ (l : List Message). HaveAnswered job.tools faults l out) (sym said) have;
  written = output_all held failures job.form start done out d d.output ran.writable ran.taken broken kept sound;
}

module _ (tools : List Tool) (faults : List (Option ToolFault)) {given : List Message} (out : List Message) where
  -- where no stage has refused, what came out is all that is due
  pub run_whole : {text : List ℕ} → AreLawfulTools tools → HaveAnswered tools faults given out → (said_of text ≡ given) × (fault_of text ≡ None)
      → AreWell faults → {images : List Image} → AreSaid text images → out ≡ due_in_turn tools images
  run_whole lawful have said well {images} are =
      let answered = stream_is_answered tools faults images out lawful are.images_are well
      (subst (λ (l : List Message). HaveAnswered tools faults l out) (sym said.0 ∙ are.messages) have) in
      answered.3 ∙ sym (due_of_results tools images answered.0 answered.1)

  -- and so it is where the last one has refused an image
  pub run_last : {text : List ℕ} {number : ℕ} (fault : ToolFault) → AreLawfulTools tools → AreSound given → HaveAnswered tools faults given out
      → (said_of text ≡ given) × (fault_of text ≡ None) → IsFirstFault 1 faults number fault → number ≡ length tools → fault ≢ Memory → {images : List Image}
      → AreSaid text images → out ≡ due_in_turn tools images
  run_last fault lawful sound have said first last named {images} are =
      let stream : given ≡ messages_of_stream images = sym said.0 ∙ are.messages in
      last_refusal_is_due tools faults images out fault lawful are.images_are (subst AreSound stream sound)
      (subst (λ (l : List Message). HaveAnswered tools faults l out) stream have) first last named

  -- the first fault of the stages
  pub run_refused : (text : List ℕ) (number : ℕ) (fault : ToolFault) → AreLawfulTools tools → AreSound given → HaveAnswered tools faults given out
      → (said_of text ≡ given) × (fault_of text ≡ None) → IsFirstFault 1 faults number fault → IsStoppedBy text tools number fault
  run_refused text number fault lawful sound_given have said first =
      let found = images_said text said in
      let images = found.1.images_are in
      let sound = subst AreSound found.2 sound_given in
      let answered = subst (λ (l : List Message). HaveAnswered tools faults l out) found.2 have in
      elim (refusal_is_first tools faults found.0 out number fault lawful images sound answered first) [
        | inl memory ↦ inl (memory, (found.0, found.1, none_before_first_fault tools faults found.0 out number fault lawful images sound answered first))
        | inr refusal ↦ inr (found.0, found.1, refusal)
      ]

  -- no stage has refused
  pub run_taken : (text : List ℕ) → AreLawfulTools tools → HaveAnswered tools faults given out → (said_of text ≡ given) × (fault_of text ≡ None)
      → AreWell faults → RefusalIs text tools None
  run_taken text lawful have said well =
      let found = images_said text said in
      let answered = stream_is_answered tools faults found.0 out lawful found.1.images_are well
      (subst (λ (l : List Message). HaveAnswered tools faults l out) found.2 have) in
      (found.0, found.1, answered.4)

-- and what the form says of the results of all images
pub run_results : {job : Job} (faults : List (Option ToolFault)) {given : List Message} (out : List Message) {text : List ℕ} → AreLawfulTools job.tools
    → HaveAnswered job.tools faults given out → (said_of text ≡ given) × (fault_of text ≡ None) → AreWell faults
    → HasResults text job (form_fault_of job.form out)
run_results {job} faults out {text} lawful have said well =
    let found = images_said text said in
    let answered = stream_is_answered job.tools faults found.0 out lawful found.1.images_are well
    (subst (λ (l : List Message). HaveAnswered job.tools faults l out) found.2 have) in
    record {
      images = found.0;
      results = answered.0;
      said = found.1;
      taken = answered.4;
      made = answered.1;
      fit = sym (ap (form_fault_of job.form) answered.3 ∙ stream_fault job.form answered.0);
    }

-- a fault of the output: the writer failed, or the form refuses one of the messages
abbrev pub IsOutputFault : SinkFault → Form → List Message → ℕ → ℕ → Type 0
IsOutputFault fault form out failures_old failures_new = ((fault ≡ WriteFailed) × Failed failures_old failures_new)
    ⊎ (IsFormFault form fault × (form_fault_of form out ≡ Some fault))

-- what a form refuses is a fault that it has
refused_by_form : (form : Form) (out : List Message) {fault : SinkFault} → form_fault_of form out ≡ Some fault → IsFormFault Plain fault
    → IsFormFault form fault
refused_by_form Raw out is of_plain = absurd cc
refused_by_form Plain out is of_plain = of_plain

-- a failed write is none
pub no_write_fault : (form : Form) → IsFormFault form WriteFailed → ⊥
no_write_fault Raw is = is
no_write_fault Plain is = is

cut_fault : (fault : SinkFault) (form : Form) (out : List Message) (old new : Option (List ℕ)) (failures_old failures_new : ℕ)
    → CutsOff fault form out old new failures_old failures_new → IsOutputFault fault form out failures_old failures_new
cut_fault WriteFailed form out old new failures_old failures_new cut = inl (refl, cut.1)
cut_fault OutOfOrder form out old new failures_old failures_new cut = absurd cut
cut_fault Broken form out old new failures_old failures_new cut = absurd cut
cut_fault SecondPlain form out old new failures_old failures_new cut = inr (refused_by_form form out cut.0 tt, cut.0)
cut_fault PlainPam form out old new failures_old failures_new cut = inr (refused_by_form form out cut.0 tt, cut.0)

-- at a fault of the form all that it takes was written
cut_written : (fault : SinkFault) (form : Form) (out : List Message) (old new : Option (List ℕ)) (failures_old failures_new : ℕ)
    → CutsOff fault form out old new failures_old failures_new → IsFormFault form fault → Appends old new (written_of form out)
cut_written WriteFailed form out old new failures_old failures_new cut of_form = absurd (no_write_fault form of_form)
cut_written OutOfOrder form out old new failures_old failures_new cut of_form = absurd cut
cut_written Broken form out old new failures_old failures_new cut of_form = absurd cut
cut_written SecondPlain form out old new failures_old failures_new cut of_form = cut.1
cut_written PlainPam form out old new failures_old failures_new cut of_form = cut.1

module _ {W : Type 0} {held : W → Option (List ℕ)} {failures : W → ℕ} {start : W} (done : W) {out : List Message} {d : FusedSink W} where
  -- all that came out was written where the output ended well
  pub run_ended : (job : Job) → AreWritten held failures job.form start out d → Keeps (held (output_of d)) (held done) → Appends (held start) (held done)
      (written_of job.form out)
  run_ended job written kept = Appends-kept (held start) (held (output_of d)) (held done) (written_of job.form out) (all_taken_written written) kept

  pub run_output : {job : Job} {given : List Message} (o : Result (Unit {0}) SinkFault) {answer : Result Summary SinkFault} {fault : SinkFault}
      → Ran held failures start job given out d → d.output ≡ o → ((f : SinkFault) → d.output ≡ Err f → (answer ≡ Err f) × (done ≡ output_of d))
      → (d.output ≡ Ok tt → AnswersFlushes failures d done answer) → answer ≡ Err fault → IsOutputFault fault job.form out (failures start) (failures done)
  run_output {job} (Ok tt) ran o-is broken well answer-is =
      let written : AreWritten held failures job.form start out d = subst (HasTakenWith held failures job.form start out d) o-is ran.taken in
      inl (rw answer-is at (well o-is (failures start) written.count))
  run_output {job} (Err other) {fault} ran o-is broken well answer-is =
      let cut : AreCutOff held failures job.form start out d other = subst (HasTakenWith held failures job.form start out d) o-is ran.taken in
      let both = broken other o-is in
      let same : other ≡ fault = cc (both.0, answer-is) in
      subst (λ (f : SinkFault). IsOutputFault f job.form out (failures start) (failures done)) same
      (subst (λ (w : _). IsOutputFault other job.form out (failures start) (failures w)) (sym both.1)
      (cut_fault other job.form out (held start) (held (output_of d)) (failures start) (failures (output_of d)) (cut.prefix ran.writable)))

  pub run_written : {job : Job} {given : List Message} (o : Result (Unit {0}) SinkFault) {answer : Result Summary SinkFault} {fault : SinkFault}
      → Ran held failures start job given out d → d.output ≡ o → ((f : SinkFault) → d.output ≡ Err f → (answer ≡ Err f) × (done ≡ output_of d))
      → (d.output ≡ Ok tt → AnswersFlushes failures d done answer) → answer ≡ Err fault → IsFormFault job.form fault → Appends (held start) (held done)
      (written_of job.form out)
  run_written {job} (Ok tt) ran o-is broken well answer-is of_form =
      let written : AreWritten held failures job.form start out d = subst (HasTakenWith held failures job.form start out d) o-is ran.taken in
      let failed = rw answer-is at (well o-is (failures start) written.count) in
      absurd (no_write_fault job.form (subst (IsFormFault job.form) failed.0 of_form))
  run_written {job} (Err other) {fault} ran o-is broken well answer-is of_form =
      let cut : AreCutOff held failures job.form start out d other = subst (HasTakenWith held failures job.form start out d) o-is ran.taken in
      let both = broken other o-is in
      let same : other ≡ fault = cc (both.0, answer-is) in
      subst (λ (w : _). Appends (held start) (held w) (written_of job.form out)) (sym both.1)
      (cut_written other job.form out (held start) (held (output_of d)) (failures start) (failures (output_of d)) (cut.prefix ran.writable)
      (subst (IsFormFault job.form) (sym same) of_form))

  -- the writer didn't fail
  pub run_sound : {job : Job} {given : List Message} (o : Result (Unit {0}) SinkFault) {answer : Result Summary SinkFault} {summary : Summary}
      → Ran held failures start job given out d → d.output ≡ o → ((f : SinkFault) → d.output ≡ Err f → (answer ≡ Err f) × (done ≡ output_of d))
      → (d.output ≡ Ok tt → AnswersFlushes failures d done answer) → answer ≡ Ok summary
      → AreWritten held failures job.form start out d × (summary ≡ d.summary) × (failures done ≡ failures start)
  run_sound {job} (Ok tt) ran o-is broken well answer-is =
      let written : AreWritten held failures job.form start out d = subst (HasTakenWith held failures job.form start out d) o-is ran.taken in
      let same = rw answer-is at (well o-is (failures start) written.count) in
      (written, same.0, same.1)
  run_sound (Err other) ran o-is broken well answer-is = absurd (cc ((broken other o-is).0, answer-is))

  -- a run that ended well
  pub run_well : (job : Job) (faults : List (Option ToolFault)) {given : List Message} {summary : Summary} (text : List ℕ) → AreLawfulTools job.tools
      → HaveAnswered job.tools faults given out → (said_of text ≡ given) × (fault_of text ≡ None) → AreWell faults
      → AreWritten held failures job.form start out d → summary ≡ d.summary → IsAnswer text job (Ok summary)
  run_well job faults text lawful have said well written same =
      let found = images_said text said in
      let answered = stream_is_answered job.tools faults found.0 out lawful found.1.images_are well
      (subst (λ (l : List Message). HaveAnswered job.tools faults l out) found.2 have) in
      let results : List Image = answered.0 in
      let counts_images : d.summary.images ≡ saturate_u64 (length results) = written.images ∙ ap (images_in 0) answered.3 ∙ images_in-stream 0 results
      ∙ ap saturate_u64 (zero-add (length results)) in
      let counts_rows : d.summary.rows ≡ saturate_u64 (sum_by (λ i. i.head.shape.height) results) = written.rows ∙ ap (rows_in 0) answered.3
      ∙ rows_in-stream 0 results ∙ ap saturate_u64 (zero-add _) in
      let both : ℕ → ℕ → Summary = λ (a b : ℕ). record { images = a; rows = b } in (
        record {
          images = found.0;
          results = results;
          said = found.1;
          taken = answered.4;
          made = answered.1;
          fit = sym (ap (form_fault_of job.form) answered.3 ∙ stream_fault job.form results) ∙ takes_written written;
        },
        same ∙ ap (λ k. both k d.summary.rows) counts_images ∙ ap (λ k. both (saturate_u64 (length results)) k) counts_rows,
      )

module _ {R F W : Type 0} {left : R → Option (List ℕ)} {reader_failures : R → ℕ} {at : F → Tool → List Message → List Message → Type 0}
    {all_given : F → Bool} {stopped : F → Option ToolFault} {held : W → Option (List ℕ)} {failures : W → ℕ} {source source_new : Source R}
    {result : Result (Unit {0}) InputFault} {old new : List (FusedFilter F)} {before after : FusedSink W} where
  -- the stages have answered what the source gave
  pub stages_answered : (tools : List Tool) → AreLawfulTools tools → FiltersAt at all_given stopped old tools [] []
      → (fed : HasFed left reader_failures at all_given stopped held failures source source_new result old new before after)
      → HaveAnswered tools (refusals_in new) fed.given fed.output.out
  stages_answered tools lawful fresh fed = have_answered at all_given stopped new tools fed.given fed.output.out (fed.output.stages tools lawful fresh)

  -- the end of the source's messages
  pub ran_of : {job : Job} → AreLawfulTools job.tools → FiltersAt at all_given stopped old job.tools [] []
      → HasTakenWith held failures job.form (output_of before) [] before before.output
      → (fed : HasFed left reader_failures at all_given stopped held failures source source_new result old new before after)
      → Ran held failures (output_of before) job fed.given fed.output.out after
  ran_of {job} lawful fresh start fed =
      let have = stages_answered job.tools lawful fresh fed in
      record {
        lawful = lawful;
        sound = fed.sound;
        writable = sound_is_writable fed.output.out (given_are_sound job.tools (refusals_in new) fed.given fed.output.out lawful fed.sound have);
        due = λ is completes. given_is_prefix job.tools (refusals_in new) fed.given fed.output.out is lawful fed.sound have completes;
        taken = fed.output.taken job.form (output_of before) start;
      }
