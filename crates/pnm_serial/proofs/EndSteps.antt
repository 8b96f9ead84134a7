-- What a run knows at its end, and what follows of it for its answer.
use Rattle.pnm_serial.proofs.Words.{◌≡◌, ◌≢◌, ◌⊎◌, ℕ, ◌≤◌, List, [], ◌++◌, length, Option, None, Some, Result, Ok, Err, refl, sym, ap, subst, inl, inr, arith}
use Rattle.pnm_serial.proofs.Words.{map, ◌∷◌, append-nil, length-append, Appends, Consumes, Keeps, AppendsPrefix, Failed, Form, Raw, Plain, Message, Stop}
use Rattle.pnm_serial.proofs.Words.{Image, InputFault, ReadFailed, NoMemoryToRead, said_of, AreSaid, ToolFault, Memory, Tool, due_in_turn, no_fault}
use Rattle.pnm_serial.proofs.Words.{consumes_nothing, no_text_fault, output_due, HasRefused, HaveAnswered, IsFirstFault, SinkFault, WriteFailed, written_of}
use Rattle.pnm_serial.proofs.Words.{IsFormFault, FusedSink, RunFault, NoStart, Input, OfTool, Output, PeerGone, Summary, output_of, AnswersFlushes, IsSaidOf}
use Rattle.pnm_serial.proofs.Words.{HasMore, MayFollowRead, Job, Change, change, MayFollow, MustGiveAll, HasWritten, CountsFailures, HasRun, IsStoppedBy}
use Rattle.pnm_serial.proofs.Words.{HasRunInOneThread, AllIsWritten, IsOfOneThread, HasMostMessages, AnswersText, FitAnswer, answer_by, IsFirstRefusal}
use Rattle.pnm_serial.proofs.Words.{IsAllWritten, HasResults, IsAnswer, first_fault_in_order}
use Rattle.pnm_serial.proofs.FeedingSteps.{rest_of, read_failure}
use Rattle.pnm_serial.proofs.RunSteps.{Ran, nothing_prefix, input_fault, said_prefix, said_before_fault}
use Rattle.pnm_serial.proofs.RunSteps.{run_due, run_begun, run_whole, run_ended, run_last, run_all, run_refused, run_taken, run_results, output_all}
use Rattle.pnm_serial.proofs.RunSteps.{IsOutputFault, no_write_fault, run_output, run_written, run_sound, run_well}

-- what the stages have answered, and the first refusal; unless nothing is held back, not all of it need be what came out
pub record HaveEnded (lanes : ℕ) (job : Job) (faults : List (Option ToolFault)) (given out : List Message) (refused : Option (ℕ × ToolFault)) : Type 0 where
  pub last : List Message
  pub answered : HaveAnswered job.tools faults given last
  pub first : IsFirstRefusal faults refused
  pub all : (output : Result Summary SinkFault) → MustGiveAll lanes job (answer_by (Ok tt) refused output) → last ≡ out

-- what the source gave, what the stages answered, what the sink took, and how each of them ended
pub record Ended {W : Type 0} (lanes : ℕ) (Outlasts : Type 0) (reader : Change) (held : W → Option (List ℕ)) (failures : W → ℕ) (start done : W) (job : Job)
    (input : Result (Unit {0}) InputFault) (refused : Option (ℕ × ToolFault)) (output : Result Summary SinkFault) : Type 0 where
  pub faults : List (Option ToolFault)
  pub given : List Message
  pub out : List Message
  pub sink : FusedSink W
  pub read : List ℕ
  pub consumed : Consumes reader.old reader.new read
  pub told : (rest : List ℕ) → MayFollow Outlasts (answer_by input refused output) reader rest → IsSaidOf (read ++ rest) given input
  pub count : (input ≡ Err ReadFailed → ⊥) → reader.failures_new ≡ reader.failures_old
  pub read_failed : input ≡ Err ReadFailed → Failed reader.failures_old reader.failures_new ⊎ Outlasts
  pub ran : Ran held failures start job given out sink
  pub stages : input ≡ Ok tt → HaveEnded lanes job faults given out refused
  pub kept : Keeps (held (output_of sink)) (held done)
  pub broken : (fault : SinkFault) → sink.output ≡ Err fault → (output ≡ Err fault) × (done ≡ output_of sink)
  pub well : sink.output ≡ Ok tt → AnswersFlushes failures sink done output

-- ---- what may follow

-- what the reader has left may follow
pub rest_follows : (Outlasts : Type 0) (answer : Result Summary RunFault) (reader : Change) (rest : List ℕ) → reader.new ≡ Some rest
    → MayFollow Outlasts answer reader rest
rest_follows Outlasts answer reader [] is = inl refl
rest_follows Outlasts answer reader (byte ∷ more) is = inr (inl (byte, more, is))

-- the input's fault is answered
pub input_fault_is : {fault of : InputFault} {answer : Result Summary RunFault} → answer ≡ Err (Input fault) → answer ≡ Err (Input of) → fault ≡ of
input_fault_is is is_too = cc

-- the answer is that the reader failed where the source ended so
pub ended_so : (input : Result (Unit {0}) InputFault) (refused : Option (ℕ × ToolFault)) (output : Result Summary SinkFault)
    → answer_by input refused output ≡ Err (Input ReadFailed) → input ≡ Err ReadFailed
ended_so (Err fault) refused output is = ap Err (input_fault_is refl is)
ended_so (Ok tt) (Some found) output is = absurd cc
ended_so (Ok tt) None (Err fault) is = absurd cc
ended_so (Ok tt) None (Ok summary) is = absurd cc

-- what may follow by the answer may so by the end of the source
pub may_follow : (input : Result (Unit {0}) InputFault) (refused : Option (ℕ × ToolFault)) (output : Result Summary SinkFault) (reader : Change)
    (rest : List ℕ) → MayFollow (HasMostMessages reader.old reader.new) (answer_by input refused output) reader rest → MayFollowRead input reader rest
may_follow input refused output reader rest may =
    elim may [
      | inl none ↦ inl none
      | inr others ↦
          elim others [
            | inl left ↦ inr (inl (subst HasMore (sym left.2) tt))
            | inr failed ↦ inr (inr (ended_so input refused output failed.0, failed.1))
          ]
    ]

-- ---- the verdict

of_input : (text : List ℕ) (job : Job) (fault : InputFault) (given : List Message) → IsSaidOf text given (Err fault) → IsAnswer text job (Err (Input fault))
of_input text job fault given said =
    elim (input_fault text given fault said) [
      | inl outside ↦ inr outside
      | inr own ↦ inl own
    ]

of_tool : (text : List ℕ) (job : Job) (number : ℕ) (fault : ToolFault) → 1 ≤ number → number ≤ length job.tools → IsStoppedBy text job.tools number fault
    → IsAnswer text job (Err (OfTool number fault))
of_tool text job number fault low high (inl memory) = inr (memory.0, low, high, memory.1)
of_tool text job number fault low high (inr refused) = inl refused

-- ---- the bytes

-- another fault than the writer's is of the form
of_output : (fault : SinkFault) (form : Form) (out : List Message) (failures_old failures_new : ℕ) → IsOutputFault fault form out failures_old failures_new
    → fault ≢ WriteFailed → IsFormFault form fault
of_output fault form out failures_old failures_new (inl failed) not_writer = absurd (not_writer failed.0)
of_output fault form out failures_old failures_new (inr refused) not_writer = refused.0

abbrev IsText : Type 0 → Result Summary RunFault → Change → List ℕ → List ℕ → Type 0
IsText Outlasts answer reader read text = (rest : List ℕ) × MayFollow Outlasts answer reader rest × (text ≡ read ++ rest)

-- the output is whole: the run ends well, or by another fault of the output than the writer's
abbrev EndsOutput : Result Summary RunFault → Type 0
EndsOutput (Ok summary) = Unit {0}
EndsOutput (Err NoStart) = ⊥
EndsOutput (Err (Input fault)) = ⊥
EndsOutput (Err (OfTool number fault)) = ⊥
EndsOutput (Err (Output fault)) = fault ≢ WriteFailed
EndsOutput (Err (PeerGone number)) = ⊥

module _ {W : Type 0} {lanes : ℕ} {Outlasts : Type 0} {reader : Change} {held : W → Option (List ℕ)} {failures : W → ℕ} {start done : W} {job : Job} where
  -- what is told of the reader's own text
  own_text : {input : Result (Unit {0}) InputFault} {refused : Option (ℕ × ToolFault)} {output : Result Summary SinkFault} {text : List ℕ}
      (ended : Ended lanes Outlasts reader held failures start done job input refused output) → reader.old ≡ Some text → IsSaidOf text ended.given input
  own_text {input} {refused} {output} {text} ended is =
      let rest = rest_of reader.old reader.new ended.read text ended.consumed is in
      subst (λ (l : List ℕ). IsSaidOf l ended.given input) (sym rest.2)
      (ended.told rest.0 (rest_follows Outlasts (answer_by input refused output) reader rest.0 rest.1))

  ended_verdict : (input : Result (Unit {0}) InputFault) (refused : Option (ℕ × ToolFault)) (output : Result Summary SinkFault)
      (ended : Ended lanes Outlasts reader held failures start done job input refused output) (text : List ℕ) → IsSaidOf text ended.given input
      → IsAnswer text job (answer_by input refused output)
  ended_verdict (Err fault) refused output ended text said = of_input text job fault ended.given said
  ended_verdict (Ok tt) (Some found) output ended text said =
      let stages = ended.stages refl in
      let order = first_fault_in_order job.tools ended.faults ended.given stages.last found.0 found.1 ended.ran.lawful ended.ran.sound stages.answered
      stages.first in
      of_tool text job found.0 found.1 order.1 order.2
      (run_refused job.tools ended.faults stages.last text found.0 found.1 ended.ran.lawful ended.ran.sound stages.answered said stages.first)
  ended_verdict (Ok tt) None (Err fault) ended text said =
      let failed = run_output done ended.sink.output ended.ran refl ended.broken ended.well refl in
      let stages = ended.stages refl in
      let answered = subst (HaveAnswered job.tools ended.faults ended.given) (stages.all (Err fault) tt) stages.answered in
      elim failed [
        | inl of_writer ↦
            inr (of_writer.0, run_taken job.tools ended.faults ended.out text ended.ran.lawful answered said stages.first)
        | inr of_form ↦
            inl (subst (HasResults text job) of_form.1 (run_results ended.faults ended.out ended.ran.lawful answered said stages.first))
      ]
  ended_verdict (Ok tt) None (Ok summary) ended text said =
      let written = run_sound done ended.sink.output ended.ran refl ended.broken ended.well refl in
      let stages = ended.stages refl in
      let answered = subst (HaveAnswered job.tools ended.faults ended.given) (stages.all (Ok summary) tt) stages.answered in
      run_well done job ended.faults text ended.ran.lawful answered said stages.first written.0 written.1

  told_of : {input : Result (Unit {0}) InputFault} {refused : Option (ℕ × ToolFault)} {output : Result Summary SinkFault}
      (ended : Ended lanes Outlasts reader held failures start done job input refused output) (text : List ℕ)
      → IsText Outlasts (answer_by input refused output) reader ended.read text → IsSaidOf text ended.given input
  told_of {input} ended text of = subst (λ (l : List ℕ). IsSaidOf l ended.given input) (sym of.2) (ended.told of.0 of.1)

  -- then all that it was given was written
  ended_whole : (input : Result (Unit {0}) InputFault) (refused : Option (ℕ × ToolFault)) (output : Result Summary SinkFault)
      (ended : Ended lanes Outlasts reader held failures start done job input refused output) → EndsOutput (answer_by input refused output)
      → Appends (held start) (held done) (written_of job.form ended.out)
  ended_whole (Err fault) refused output ended whole = absurd whole
  ended_whole (Ok tt) (Some found) output ended whole = absurd whole
  ended_whole (Ok tt) None (Err fault) ended not_writer =
      let failed = run_output done ended.sink.output ended.ran refl ended.broken ended.well refl in
      run_written done ended.sink.output ended.ran refl ended.broken ended.well refl
      (of_output fault job.form ended.out (failures start) (failures done) failed not_writer)
  ended_whole (Ok tt) None (Ok summary) ended whole =
      let written = run_sound done ended.sink.output ended.ran refl ended.broken ended.well refl in
      run_ended done job written.0 ended.kept

  -- where nothing is held back, that is all that is due
  ended_well : {output : Result Summary SinkFault} (ended : Ended lanes Outlasts reader held failures start done job (Ok tt) None output)
      → MustGiveAll lanes job (answer_by (Ok tt) None output) → {text : List ℕ} → IsSaidOf text ended.given (Ok tt) → {images : List Image}
      → AreSaid text images → ended.out ≡ due_in_turn job.tools images
  ended_well {output} ended all told are =
      let stages = ended.stages refl in
      run_whole job.tools ended.faults ended.out ended.ran.lawful
      (subst (HaveAnswered job.tools ended.faults ended.given) (stages.all output all) stages.answered) told stages.first are

  ended_full : (input : Result (Unit {0}) InputFault) (refused : Option (ℕ × ToolFault)) (output : Result Summary SinkFault)
      (ended : Ended lanes Outlasts reader held failures start done job input refused output) → MustGiveAll lanes job (answer_by input refused output)
      → {text : List ℕ} → IsSaidOf text ended.given input → {images : List Image} → AreSaid text images → ended.out ≡ due_in_turn job.tools images
  ended_full (Err fault) refused output ended all told are = absurd all
  ended_full (Ok tt) None (Err fault) ended all told are = ended_well ended all told are
  ended_full (Ok tt) None (Ok summary) ended all told are = ended_well ended all told are
  ended_full (Ok tt) (Some found) output ended all told are =
      let stages = ended.stages refl in
      run_last job.tools ended.faults ended.out found.1 ended.ran.lawful ended.ran.sound
      (subst (HaveAnswered job.tools ended.faults ended.given) (stages.all output all) stages.answered) told stages.first all.1 all.0 are

ended_bytes : {W : Type 0} (lanes : ℕ) (Outlasts : Type 0) (reader : Change) (held : W → Option (List ℕ)) (failures : W → ℕ) (start done : W) (job : Job)
    (input : Result (Unit {0}) InputFault) (refused : Option (ℕ × ToolFault)) (output : Result Summary SinkFault)
    → (ended : Ended lanes Outlasts reader held failures start done job input refused output)
    → HasWritten lanes job (answer_by input refused output) (IsText Outlasts (answer_by input refused output) reader ended.read)
    (change held failures start done)
ended_bytes lanes Outlasts reader held failures start done job input refused output ended = record {
  given = ended.out;
  due = λ text of images completes. run_due held failures start job ended.given ended.out ended.sink text ended.ran
      (said_prefix text ended.given input (told_of ended text of)) images completes;
  prefix = run_begun held failures start done job ended.given ended.out ended.sink ended.ran ended.kept;
  all = λ sound. output_all held failures job.form start done ended.out ended.sink ended.sink.output ended.ran.writable ended.ran.taken
      (λ fault e. (ended.broken fault e).1) ended.kept sound;
  well = λ summary is. ended_whole input refused output ended (subst EndsOutput (sym is) tt);
  refused = λ fault is not_writer.
      ended_whole input refused output ended (subst EndsOutput (sym is) not_writer);
  full = λ all text of images are. ended_full input refused output ended all
      (told_of ended text of) are;
}

-- ---- the failures

of_writer : (fault : SinkFault) (form : Form) (out : List Message) (failures_old failures_new : ℕ) → IsOutputFault fault form out failures_old failures_new
    → fault ≡ WriteFailed → Failed failures_old failures_new
of_writer fault form out failures_old failures_new (inl failed) is = failed.1
of_writer fault form out failures_old failures_new (inr refused) is = absurd (no_write_fault form (subst (IsFormFault form) is refused.0))

writer_is : {fault : SinkFault} {answer : Result Summary RunFault} → answer ≡ Err (Output fault) → answer ≡ Err (Output WriteFailed) → fault ≡ WriteFailed
writer_is is is_too = cc

module _ {W : Type 0} {lanes : ℕ} {Outlasts : Type 0} {reader : Change} {held : W → Option (List ℕ)} {failures : W → ℕ} {start done : W} {job : Job} where
  ended_write_failed : (input : Result (Unit {0}) InputFault) (refused : Option (ℕ × ToolFault)) (output : Result Summary SinkFault)
      → Ended lanes Outlasts reader held failures start done job input refused output → answer_by input refused output ≡ Err (Output WriteFailed)
      → Failed (failures start) (failures done)
  ended_write_failed (Err fault) refused output ended is = absurd cc
  ended_write_failed (Ok tt) (Some found) output ended is = absurd cc
  ended_write_failed (Ok tt) None (Err fault) ended is =
      of_writer fault job.form ended.out (failures start) (failures done) (run_output done ended.sink.output ended.ran refl ended.broken ended.well refl)
      (writer_is refl is)
  ended_write_failed (Ok tt) None (Ok summary) ended is = absurd cc

  ended_written : (input : Result (Unit {0}) InputFault) (refused : Option (ℕ × ToolFault)) (output : Result Summary SinkFault)
      → Ended lanes Outlasts reader held failures start done job input refused output → {summary : Summary} → answer_by input refused output ≡ Ok summary
      → failures done ≡ failures start
  ended_written (Err fault) refused output ended is = absurd cc
  ended_written (Ok tt) (Some found) output ended is = absurd cc
  ended_written (Ok tt) None (Err fault) ended is = absurd cc
  ended_written (Ok tt) None (Ok told) ended is = (run_sound done ended.sink.output ended.ran refl ended.broken ended.well refl).2

  ended_with_sound_reader : (input : Result (Unit {0}) InputFault) {refused : Option (ℕ × ToolFault)} {output : Result Summary SinkFault}
      → Ended lanes Outlasts reader held failures start done job input refused output → (answer_by input refused output ≡ Err (Input ReadFailed) → ⊥)
      → reader.failures_new ≡ reader.failures_old
  ended_with_sound_reader (Err fault) ended not = ended.count (λ e. not (ap (λ (f : InputFault). Err (Input f)) (read_failure fault _ refl e)))
  ended_with_sound_reader (Ok tt) ended not = ended.count (no_fault tt ReadFailed)

ended_failures : {W : Type 0} (lanes : ℕ) (Outlasts : Type 0) (reader : Change) (held : W → Option (List ℕ)) (failures : W → ℕ) (start done : W) (job : Job)
    (input : Result (Unit {0}) InputFault) (refused : Option (ℕ × ToolFault)) (output : Result Summary SinkFault)
    → Ended lanes Outlasts reader held failures start done job input refused output
    → CountsFailures Outlasts (answer_by input refused output) reader (change held failures start done)
ended_failures lanes Outlasts reader held failures start done job input refused output ended = record {
  read_failed = λ is. ended.read_failed (ended_so input refused output is);
  read = λ not. ended_with_sound_reader input ended not;
  write_failed = λ is. ended_write_failed input refused output ended is;
  written = λ summary is. ended_written input refused output ended is;
}

-- ---- the run

pub ended_has_run : {W : Type 0} (lanes : ℕ) (Outlasts : Type 0) (reader : Change) (held : W → Option (List ℕ)) (failures : W → ℕ) (start done : W) (job : Job)
    (input : Result (Unit {0}) InputFault) (refused : Option (ℕ × ToolFault)) (output : Result Summary SinkFault)
    → Ended lanes Outlasts reader held failures start done job input refused output
    → HasRun lanes Outlasts job (answer_by input refused output) reader (change held failures start done)
ended_has_run lanes Outlasts reader held failures start done job input refused output ended = record {
  read = ended.read;
  consumed = ended.consumed;
  verdict = λ rest may. ended_verdict input refused output ended (ended.read ++ rest) (ended.told rest may);
  bytes = ended_bytes lanes Outlasts reader held failures start done job input refused output ended;
  failures = ended_failures lanes Outlasts reader held failures start done job input refused output ended;
}

-- ---- a run in one thread

-- the refusals of the stages fit the answer
fit_answer : (faults : List (Option ToolFault)) (input : Result (Unit {0}) InputFault) (refused : Option (ℕ × ToolFault)) (output : Result Summary SinkFault)
    → IsFirstRefusal faults refused → FitAnswer (answer_by input refused output) faults
fit_answer faults (Err fault) refused output first = tt
fit_answer faults (Ok tt) (Some found) output first = first
fit_answer faults (Ok tt) None (Err fault) first = first
fit_answer faults (Ok tt) None (Ok summary) first = first

-- the whole text was read
said_all : (text : List ℕ) (given : List Message) (input : Result (Unit {0}) InputFault) (refused : Option (ℕ × ToolFault)) (output : Result Summary SinkFault)
    → IsSaidOf text given input → AnswersText text (answer_by input refused output) → said_of text ≡ given
said_all text given (Err fault) refused output told has = said_before_fault text given told has
said_all text given (Ok tt) refused output told has = told.0

ended_with_all : {W : Type 0} {lanes : ℕ} {Outlasts : Type 0} {reader : Change} {held : W → Option (List ℕ)} {failures : W → ℕ} {start done : W} {job : Job}
    {input : Result (Unit {0}) InputFault} {refused : Option (ℕ × ToolFault)} {output : Result Summary SinkFault}
    (ended : Ended lanes Outlasts reader held failures start done job input refused output) → HaveAnswered job.tools ended.faults ended.given ended.out
    → IsFirstRefusal ended.faults refused → AllIsWritten job (answer_by input refused output) reader (change held failures start done)
ended_with_all {held} {failures} {start} {done} {job} {input} {refused} {output} ended answered first text is has sound =
    let told = own_text ended is in
    run_all held failures start done job ended.faults ended.given ended.out ended.sink text ended.ran answered
    (said_all text ended.given input refused output told has) (λ fault e. (ended.broken fault e).1) ended.kept sound (answer_by input refused output)
    (fit_answer ended.faults input refused output first)

of_one_thread : (input : Result (Unit {0}) InputFault) (refused : Option (ℕ × ToolFault)) (output : Result Summary SinkFault)
    → IsOfOneThread (answer_by input refused output)
of_one_thread (Err fault) refused output = tt
of_one_thread (Ok tt) (Some found) output = tt
of_one_thread (Ok tt) None (Err fault) = tt
of_one_thread (Ok tt) None (Ok summary) = tt

pub ended_in_one_thread : {W : Type 0} (reader : Change) (held : W → Option (List ℕ)) (failures : W → ℕ) (start done : W) (job : Job)
    (input : Result (Unit {0}) InputFault) (refused : Option (ℕ × ToolFault)) (output : Result Summary SinkFault)
    → (ended : Ended 1 (HasMostMessages reader.old reader.new) reader held failures start done job input refused output)
    → HaveAnswered job.tools ended.faults ended.given ended.out → IsFirstRefusal ended.faults refused
    → HasRunInOneThread job (answer_by input refused output) reader (change held failures start done)
ended_in_one_thread reader held failures start done job input refused output ended answered first = record {
  run = ended_has_run 1 (HasMostMessages reader.old reader.new) reader held failures start done job input refused output ended;
  all_written = ended_with_all ended answered first;
  one_thread = of_one_thread input refused output;
}

-- ---- a run for whose list of tools there is no memory

-- a tool for which there is no memory has answered nothing
pub not_started : (tool : Tool) (received : List Message) → HasRefused tool Memory received []
not_started tool received = record {
  accepted = [];
  rest = received;
  parts = refl;
  taken = tt;
  answers = record {
    lawful = tt;
    prefix = λ is completes. (output_due tool is, refl);
    stop = λ prefix is. absurd (omega (arith, ap length is, length-append prefix (Stop ∷ [])));
  };
  refused = inl (refl, refl);
}

pub none_started : (tools : List Tool) → HaveAnswered tools (map (λ tool. Some Memory) tools) [] []
none_started [] = refl
none_started (tool ∷ tools) = ([], not_started tool [], none_started tools)

appends_nothing : (held : Option (List ℕ)) → Appends held held []
appends_nothing None = tt
appends_nothing (Some bytes) = sym (append-nil bytes)

none_answered : (tools : List Tool) (received : List Message) → 1 ≤ length tools → (faults : List (Option ToolFault)) × IsFirstFault 1 faults 1 Memory
    × HaveAnswered tools faults received []
none_answered [] received some = absurd (omega arith)
none_answered (tool ∷ tools) received some = (Some Memory ∷ map (λ tool. Some Memory) tools, (refl, refl), ([], not_started tool received, none_started tools))

no_bytes : (form : Form) → written_of form [] ≡ []
no_bytes Raw = refl
no_bytes Plain = refl

pub ended_without_list : {text : List ℕ} {job : Job} {held : Option (List ℕ)} → 1 ≤ length job.tools
    → IsAllWritten {A = Summary} text job (Err (OfTool 1 Memory)) held held
ended_without_list {text} {job} {held} some =
    let none = none_answered job.tools (said_of text) some in
    record {
      faults = none.0;
      given = [];
      fit = none.1;
      answered = none.2;
      written = subst (Appends held held) (sym (no_bytes job.form)) (appends_nothing held);
    }

nothing_read : (reader : Change) → reader.new ≡ reader.old → Consumes reader.old reader.new []
nothing_read reader read = subst (λ (left : Option (List ℕ)). Consumes reader.old left []) (sym read) (consumes_nothing reader.old)

-- ---- a run that has read and written nothing

written_nothing : (form : Form) (writer : Change) → writer.new ≡ writer.old → Appends writer.old writer.new (written_of form [])
written_nothing form writer written = subst (λ (held : Option (List ℕ)). Appends writer.old held (written_of form [])) (sym written)
    (subst (Appends writer.old writer.old) (sym (no_bytes form)) (appends_nothing writer.old))

begun_nothing : (form : Form) (writer : Change) → writer.new ≡ writer.old → AppendsPrefix writer.old writer.new (written_of form [])
begun_nothing form writer written = subst (λ (held : Option (List ℕ)). AppendsPrefix writer.old held (written_of form [])) (sym written)
    (nothing_prefix writer.old (written_of form []))

-- there is no memory to read
pub unread_has_run : (lanes : ℕ) (Outlasts : Type 0) (job : Job) (reader writer : Change) → reader.new ≡ reader.old → reader.failures_new ≡ reader.failures_old
    → writer.new ≡ writer.old → HasRun lanes Outlasts job (Err (Input NoMemoryToRead)) reader writer
unread_has_run lanes Outlasts job reader writer read same_count written = record {
  read = [];
  consumed = nothing_read reader read;
  verdict = λ rest may. inr (inr refl);
  bytes = record {
    given = [];
    due = λ text of images completes. (due_in_turn job.tools images, refl);
    prefix = begun_nothing job.form writer written;
    all = λ sound. written_nothing job.form writer written;
    well = λ summary is. absurd cc;
    refused = λ fault is not_writer. absurd cc;
    full = λ all. absurd all;
  };
  failures = record {
    read_failed = λ is. absurd cc;
    read = λ not. same_count;
    write_failed = λ is. absurd cc;
    written = λ summary is. absurd cc;
  };
}

pub ended_without_reading : (job : Job) (reader writer : Change) → reader.new ≡ reader.old → reader.failures_new ≡ reader.failures_old
    → writer.new ≡ writer.old → HasRunInOneThread job (Err (Input NoMemoryToRead)) reader writer
ended_without_reading job reader writer read same_count written = record {
  run = unread_has_run 1 (HasMostMessages reader.old reader.new) job reader writer read same_count written;
  all_written = λ text is has sound. absurd (no_text_fault text NoMemoryToRead has (inr refl));
  one_thread = tt;
}
