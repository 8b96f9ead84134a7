-- What follows of the promise of a run, by its answer.
use Rattle.pnm_serial.proofs.Words.{◌≡◌, ◌≢◌, ◌⊎◌, ℕ, ◌+◌, ◌≤◌, ◌<◌, List, [], ◌∷◌, ◌++◌, length, Option, None, Some, Result, Ok, Err, IfOk, OnOk, refl, sym}
use Rattle.pnm_serial.proofs.Words.{ap, subst, ◌∙◌, inl, inr, arith, Appends, AppendsPrefix, Failed, Image, messages_of_stream, prefix-more, InputFault}
use Rattle.pnm_serial.proofs.Words.{ReadFailed, IsOutsideFault, fault_of, AreSaid, ToolFault, OutOfOrder, Memory, Tool, AreLawfulTools, Refusal, due_in_turn}
use Rattle.pnm_serial.proofs.Words.{refusal_from, results_of, refusal_by, SinkFault, WriteFailed, written_of, encoding_of, IsFormFault, stream_fault}
use Rattle.pnm_serial.proofs.Words.{bytes_of_stream, written_all, written_prefix, RunFault, NoStart, Input, OfTool, Output, PeerGone, Summary, Job, bytes_due}
use Rattle.pnm_serial.proofs.Words.{Change, MayFollow, HasRun, MustGiveAll, IfInput, IfTool, IfOutput, IfGone, EndedWell, HasWrittenResults, IsStoppedBy}
use Rattle.pnm_serial.proofs.Words.{IsPrefixOfBytesDue, RunTells, IsPrefixWhatever, WhatARunInOneThreadTells, WhatARunTells, WhatARunWithoutListTells}
use Rattle.pnm_serial.proofs.Words.{HasMostMessages, HasResults, RefusalIs, IsFromOutside, IsVerdict, IsAnswer, FailsAround, AnswersVerdict}
use Rattle.pnm_serial.proofs.EndSteps.{rest_follows, ended_without_list}
use Rattle.pnm_serial.proofs.FeedingSteps.{rest_of}
use Rattle.pnm_serial.proofs.ResultSteps.{due_of_results}
use Rattle.pnm_serial.proofs.RunSteps.{no_write_fault, nothing_prefix}
use Rattle.pnm_serial.proofs.VerdictFaults.{verdict_is_of_text}

-- ---- the reader's own text

abbrev IsText : Type 0 → Result Summary RunFault → Change → List ℕ → List ℕ → Type 0
IsText Outlasts answer reader read text = (rest : List ℕ) × MayFollow Outlasts answer reader rest × (text ≡ read ++ rest)

module _ {lanes : ℕ} {Outlasts : Type 0} {job : Job} {answer : Result Summary RunFault} {reader writer : Change}
    (ran : HasRun lanes Outlasts job answer reader writer) {text : List ℕ} where
  own_text : reader.old ≡ Some text → IsText Outlasts answer reader ran.read text
  own_text is =
      let rest = rest_of reader.old reader.new ran.read text ran.consumed is in
      (rest.0, rest_follows Outlasts answer reader rest.0 rest.1, rest.2)

  own_answer : reader.old ≡ Some text → IsAnswer text job answer
  own_answer is =
      let own = own_text is in
      subst (λ (l : List ℕ). IsAnswer l job answer) (sym own.2) (ran.verdict own.0 own.1)

-- ---- a tool's fault

abbrev IsWithin : ℕ → List Tool → Refusal → Type 0
IsWithin from tools refusal = (from ≤ refusal.number) × (refusal.number < from + length tools)

abbrev number_of : ℕ → Option Refusal → ℕ
number_of other None = other
number_of other (Some refusal) = refusal.number

within_by : (from : ℕ) (tool : Tool) (tools : List Tool) (r : Result (List Image) ToolFault) (refusal : Refusal)
    → ((js : List Image) → refusal_from (from + 1) tools js ≡ Some refusal → IsWithin (from + 1) tools refusal)
    → refusal_by from tools r ≡ Some refusal → IsWithin from (tool ∷ tools) refusal
within_by from tool tools (Ok js) refusal later is = let more = later js is in (omega (arith, more.0), omega (arith, more.1))
within_by from tool tools (Err fault) refusal later is =
    let same : from ≡ refusal.number = ap (number_of from) is in (omega (arith, same), omega (arith, same))

refusal_within : (from : ℕ) (tools : List Tool) (is : List Image) {refusal : Refusal} → refusal_from from tools is ≡ Some refusal
    → IsWithin from tools refusal
refusal_within from [] is refused = absurd cc
refusal_within from (tool ∷ tools) is {refusal} refused =
    within_by from tool tools (results_of tool is) refusal (λ js refused_too. refusal_within (from + 1) tools js refused_too) refused

abbrev IsToolFault : Job → ℕ → ToolFault → Type 0
IsToolFault job number fault = (fault ≢ OutOfOrder) × (1 ≤ number) × (number ≤ length job.tools)

-- ---- the output's fault

abbrev IsOfOutput : Job → SinkFault → Change → Change → Type 0
IsOfOutput job fault reader writer = (((fault ≡ WriteFailed) × Failed writer.failures_old writer.failures_new) ⊎ IsFormFault job.form fault)
    × (reader.failures_new ≡ reader.failures_old)

module _ (text : List ℕ) (job : Job) where
  of_input : (fault : InputFault) → IsAnswer text job (Err (Input fault)) → IsOutsideFault fault ⊎ (fault_of text ≡ Some fault)
  of_input fault (inl own) = inr own
  of_input fault (inr outside) = inl outside

  tool_by : (number : ℕ) (fault : ToolFault) → AreLawfulTools job.tools → IsAnswer text job (Err (OfTool number fault)) → IsToolFault job number fault
  tool_by number fault lawful (inl refused) =
      let within = refusal_within 1 job.tools refused.0 refused.2 in
      let named = verdict_is_of_text text job (OfTool number fault) lawful refused in
      (λ e. named.1 number (ap (OfTool number) e), within.0, omega (arith, within.1))
  tool_by number fault lawful (inr around) = (λ e. let no : Memory ≡ OutOfOrder = sym around.0 ∙ e in absurd cc, around.1, around.2)

  stopped_by : (number : ℕ) (fault : ToolFault) → IsAnswer text job (Err (OfTool number fault)) → IsStoppedBy text job.tools number fault
  stopped_by number fault (inl refused) = inr refused
  stopped_by number fault (inr around) = inl (around.0, around.3)

  accepted_by : (fault : SinkFault) → IsAnswer text job (Err (Output fault)) → RefusalIs text job.tools None
  accepted_by fault (inl has) = (has.images, has.said, has.taken)
  accepted_by fault (inr around) = around.1

  -- ---- the verdict

  from_outside : (fault : RunFault) → FailsAround text job fault → IsFromOutside fault
  from_outside NoStart around = tt
  from_outside (Input fault) around = around
  from_outside (OfTool number fault) around = around.0
  from_outside (Output fault) around = around.0
  from_outside (PeerGone number) around = tt

  verdict_by : (answer : Result Summary RunFault) → IsAnswer text job answer → AnswersVerdict text job answer
  verdict_by (Ok summary) is = is.0
  verdict_by (Err fault) (inl verdict) = inr verdict
  verdict_by (Err fault) (inr around) = inl (from_outside fault around)

  gone_by : (number : ℕ) → IsAnswer text job (Err (PeerGone number)) → number ≤ length job.tools + 1
  gone_by number (inl verdict) = absurd verdict
  gone_by number (inr around) = around

-- ---- what was written

module _ {lanes : ℕ} {Outlasts : Type 0} {job : Job} {reader writer : Change} where
  -- all that is due was written
  due_written : {answer : Result Summary RunFault} (ran : HasRun lanes Outlasts job answer reader writer) {text : List ℕ} → reader.old ≡ Some text
      → MustGiveAll lanes job answer → Appends writer.old writer.new (written_of job.form ran.bytes.given) → {images : List Image} → AreSaid text images
      → Appends writer.old writer.new (bytes_due job images)
  due_written ran {text} is full written {images} said =
      let due = ran.bytes.full full text (own_text ran is) images said in
      rw due at written

  -- those are the messages of the results
  whole_results : {answer : Result Summary RunFault} (ran : HasRun lanes Outlasts job answer reader writer) {text : List ℕ} → reader.old ≡ Some text
      → MustGiveAll lanes job answer → Appends writer.old writer.new (written_of job.form ran.bytes.given) → {found : Option SinkFault}
      (has : HasResults text job found) → Appends writer.old writer.new (written_of job.form (messages_of_stream has.results))
  whole_results ran is full all has =
      let written = due_written ran is full all has.said in
      let messages = due_of_results job.tools has.images has.results has.made in
      rw messages at written

  encoded : {answer : Result Summary RunFault} (ran : HasRun lanes Outlasts job answer reader writer) {text : List ℕ} → reader.old ≡ Some text
      → MustGiveAll lanes job answer → Appends writer.old writer.new (written_of job.form ran.bytes.given) → (has : HasResults text job None)
      → Appends writer.old writer.new (encoding_of job.form has.results)
  encoded ran is full all has =
      let written = whole_results ran is full all has in
      let bytes = written_all job.form (messages_of_stream has.results) (stream_fault job.form has.results ∙ has.fit)
      ∙ bytes_of_stream job.form has.results in
      subst (Appends writer.old writer.new) bytes written

  well : (answer : Result Summary RunFault) → HasRun lanes Outlasts job answer reader writer → {text : List ℕ} → reader.old ≡ Some text
      → IfOk answer (EndedWell text job writer.old writer.new)
  well (Ok summary) ran is =
      let found = own_answer ran is in
      record {
        images = found.0.images;
        results = found.0.results;
        said = found.0.said;
        output =
            record {
              made = found.0.made;
              fit = found.0.fit;
              written = encoded ran is tt (ran.bytes.well summary refl) found.0;
            };
        counts = found.1;
      }
  well (Err fault) ran is = tt

  before_form_fault : {fault : SinkFault} → HasRun lanes Outlasts job (Err (Output fault)) reader writer → {text : List ℕ} → reader.old ≡ Some text
      → IsFormFault job.form fault → IsVerdict text job (Some (Output fault)) ⊎ FailsAround text job (Output fault)
      → HasWrittenResults text job writer.old writer.new
  before_form_fault {fault} ran is of_form (inl has) =
      let not_writer : fault ≢ WriteFailed = λ e. no_write_fault job.form (subst (IsFormFault job.form) e of_form) in
      record {
        images = has.images;
        results = has.results;
        said = has.said;
        made = has.made;
        written = whole_results ran is tt (ran.bytes.refused fault refl not_writer) has;
      }
  before_form_fault ran is of_form (inr around) = absurd (no_write_fault job.form (subst (IsFormFault job.form) around.0 of_form))

  before_refused : (answer : Result Summary RunFault) → HasRun lanes Outlasts job answer reader writer → {text : List ℕ} → reader.old ≡ Some text
      → IfOutput answer (λ fault. IsFormFault job.form fault → HasWrittenResults text job writer.old writer.new)
  before_refused (Ok summary) ran is = tt
  before_refused (Err NoStart) ran is = tt
  before_refused (Err (Input fault)) ran is = tt
  before_refused (Err (OfTool number fault)) ran is = tt
  before_refused (Err (Output fault)) ran is = λ of_form. before_form_fault ran is of_form (own_answer ran is)
  before_refused (Err (PeerGone number)) ran is = tt

  -- what was written is a prefix of the bytes that are due
  prefix_of_due : {answer : Result Summary RunFault} (ran : HasRun lanes Outlasts job answer reader writer) (text : List ℕ)
      → IsText Outlasts answer reader ran.read text → IsPrefixOfBytesDue text job writer.old writer.new
  prefix_of_due ran text of images completes =
      let due = ran.bytes.due text of images completes in
      let bytes = written_prefix job.form ran.bytes.given due.0 in
      subst (AppendsPrefix writer.old writer.new) (sym (ap (written_of job.form) due.1 ∙ bytes.1))
      (prefix-more writer.old writer.new (written_of job.form ran.bytes.given) bytes.0 ran.bytes.prefix)

  -- ---- the answer

  no_failure : (answer : Result Summary RunFault) → HasRun lanes Outlasts job answer reader writer
      → OnOk answer ((reader.failures_new ≡ reader.failures_old) × (writer.failures_new ≡ writer.failures_old))
  no_failure (Ok summary) ran = (ran.failures.read (λ is. absurd cc), ran.failures.written summary refl)
  no_failure (Err fault) ran = tt

  input : (answer : Result Summary RunFault) → HasRun lanes Outlasts job answer reader writer → {text : List ℕ} → reader.old ≡ Some text
      → IfInput answer (λ fault. IsOutsideFault fault ⊎ (fault_of text ≡ Some fault))
  input (Ok summary) ran is = tt
  input (Err NoStart) ran is = tt
  input (Err (Input fault)) ran {text} is = of_input text job fault (own_answer ran is)
  input (Err (OfTool number fault)) ran is = tt
  input (Err (Output fault)) ran is = tt
  input (Err (PeerGone number)) ran is = tt

  read_failed : (answer : Result Summary RunFault) → HasRun lanes Outlasts job answer reader writer
      → IfInput answer (λ fault. fault ≡ ReadFailed → Failed reader.failures_old reader.failures_new ⊎ Outlasts)
  read_failed (Ok summary) ran = tt
  read_failed (Err NoStart) ran = tt
  read_failed (Err (Input fault)) ran = λ is. ran.failures.read_failed (ap (λ (f : InputFault). Err (Input f)) is)
  read_failed (Err (OfTool number fault)) ran = tt
  read_failed (Err (Output fault)) ran = tt
  read_failed (Err (PeerGone number)) ran = tt

  tool_fault : (answer : Result Summary RunFault) → AreLawfulTools job.tools → HasRun lanes Outlasts job answer reader writer
      → IfTool answer (λ number fault. IsToolFault job number fault)
  tool_fault (Ok summary) lawful ran = tt
  tool_fault (Err NoStart) lawful ran = tt
  tool_fault (Err (Input fault)) lawful ran = tt
  tool_fault (Err (OfTool number fault)) lawful ran = tool_by (ran.read ++ []) job number fault lawful (ran.verdict [] (inl refl))
  tool_fault (Err (Output fault)) lawful ran = tt
  tool_fault (Err (PeerGone number)) lawful ran = tt

  refusal_is : (answer : Result Summary RunFault) → HasRun lanes Outlasts job answer reader writer → {text : List ℕ} → reader.old ≡ Some text
      → IfTool answer (λ number fault. IsStoppedBy text job.tools number fault)
  refusal_is (Ok summary) ran is = tt
  refusal_is (Err NoStart) ran is = tt
  refusal_is (Err (Input fault)) ran is = tt
  refusal_is (Err (OfTool number fault)) ran {text} is = stopped_by text job number fault (own_answer ran is)
  refusal_is (Err (Output fault)) ran is = tt
  refusal_is (Err (PeerGone number)) ran is = tt

  output_by : {fault : SinkFault} → AreLawfulTools job.tools → (ran : HasRun lanes Outlasts job (Err (Output fault)) reader writer)
      → IsAnswer (ran.read ++ []) job (Err (Output fault))
      → ((fault ≡ WriteFailed) × Failed writer.failures_old writer.failures_new) ⊎ IsFormFault job.form fault
  output_by {fault} lawful ran (inl has) =
      let of_text = verdict_is_of_text (ran.read ++ []) job (Output fault) lawful has in inr (of_text.2 fault refl)
  output_by lawful ran (inr around) = inl (around.0, ran.failures.write_failed (ap (λ (f : SinkFault). Err (Output f)) around.0))

  output : (answer : Result Summary RunFault) → AreLawfulTools job.tools → HasRun lanes Outlasts job answer reader writer
      → IfOutput answer (λ fault. IsOfOutput job fault reader writer)
  output (Ok summary) lawful ran = tt
  output (Err NoStart) lawful ran = tt
  output (Err (Input fault)) lawful ran = tt
  output (Err (OfTool number fault)) lawful ran = tt
  output (Err (Output fault)) lawful ran = (output_by lawful ran (ran.verdict [] (inl refl)), ran.failures.read (λ is. absurd cc))
  output (Err (PeerGone number)) lawful ran = tt

  output_last : (answer : Result Summary RunFault) → HasRun lanes Outlasts job answer reader writer → {text : List ℕ} → reader.old ≡ Some text
      → IfOutput answer (λ fault. RefusalIs text job.tools None)
  output_last (Ok summary) ran is = tt
  output_last (Err NoStart) ran is = tt
  output_last (Err (Input fault)) ran is = tt
  output_last (Err (OfTool number fault)) ran is = tt
  output_last (Err (Output fault)) ran {text} is = accepted_by text job fault (own_answer ran is)
  output_last (Err (PeerGone number)) ran is = tt

  gone : (answer : Result Summary RunFault) → HasRun lanes Outlasts job answer reader writer → IfGone answer (λ number. number ≤ length job.tools + 1)
  gone (Ok summary) ran = tt
  gone (Err NoStart) ran = tt
  gone (Err (Input fault)) ran = tt
  gone (Err (OfTool number fault)) ran = tt
  gone (Err (Output fault)) ran = tt
  gone (Err (PeerGone number)) ran = gone_by (ran.read ++ []) job number (ran.verdict [] (inl refl))

-- ---- the run

pub tells : (lanes : ℕ) (Outlasts : Type 0) (job : Job) (answer : Result Summary RunFault) (reader writer : Change) → AreLawfulTools job.tools
    → HasRun lanes Outlasts job answer reader writer → RunTells lanes Outlasts job answer reader writer
tells lanes Outlasts job answer reader writer lawful ran = record {
  well = λ text is. well answer ran is;
  no_failure = no_failure answer ran;
  input = λ text is. input answer ran is;
  read_failed = read_failed answer ran;
  sound_reader = λ not. ran.failures.read not;
  tool = tool_fault answer lawful ran;
  refusal = λ text is. refusal_is answer ran is;
  output = output answer lawful ran;
  output_last = λ text is. output_last answer ran is;
  before_refused = λ text is. before_refused answer ran is;
  all_due = λ text is full sound images said. due_written ran is full (ran.bytes.all sound) said;
  verdict = λ text is. verdict_by text job answer (own_answer ran is);
  prefix = λ text is. prefix_of_due ran text (own_text ran is);
  prefix_for_each =
      record {
        read = ran.read;
        consumed = ran.consumed;
        prefix = λ rest may. prefix_of_due ran (ran.read ++ rest) (rest, may, refl);
      };
  gone = gone answer ran;
}

pub run_in_one_thread_tells : WhatARunInOneThreadTells
run_in_one_thread_tells job answer reader writer lawful ran = tells 1 (HasMostMessages reader.old reader.new) job answer reader writer lawful ran

-- over threads the reader failed where that is answered
failed_itself : (failed : Type 0) → failed ⊎ ⊥ → failed
failed_itself failed (inl is) = is
failed_itself failed (inr none) = absurd none

after_failed_read : {lanes : ℕ} {job : Job} (answer : Result Summary RunFault) {reader writer : Change} → HasRun lanes ⊥ job answer reader writer
    → IfInput answer (λ fault. fault ≡ ReadFailed → Failed reader.failures_old reader.failures_new × IsPrefixWhatever job reader writer)
after_failed_read (Ok summary) ran = tt
after_failed_read (Err NoStart) ran = tt
after_failed_read (Err (Input fault)) {reader} ran = λ is.
    let answered = ap (λ (f : InputFault). Err (Input f)) is in (
      failed_itself (Failed reader.failures_old reader.failures_new) (ran.failures.read_failed answered),
      record {
        read = ran.read;
        consumed = ran.consumed;
        prefix = λ rest.
            let may = inr (inr (answered, inr (λ none. none))) in
            prefix_of_due ran (ran.read ++ rest) (rest, may, refl);
      },
    )
after_failed_read (Err (OfTool number fault)) ran = tt
after_failed_read (Err (Output fault)) ran = tt
after_failed_read (Err (PeerGone number)) ran = tt

pub run_tells : WhatARunTells
run_tells lanes job answer reader writer lawful ran = record {
  run = tells lanes ⊥ job answer reader writer lawful ran;
  read_failed = after_failed_read answer ran;
}

pub run_without_list_tells : WhatARunWithoutListTells
run_without_list_tells text job held some = record {
  prefix = λ images completes. nothing_prefix held (written_of job.form (due_in_turn job.tools images));
  all = ended_without_list some;
}
