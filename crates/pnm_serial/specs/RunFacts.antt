-- What a run tells by its answer, which follows of `HasRun`.
use Rattle.std.specs.Prelude.{◌≡◌, ◌≢◌, ◌⊎◌, ℕ, ◌-◌, ◌+◌, ◌≤◌, length, take, List, ◌++◌, Option, Some, Result, Ok}
use Rattle.std.specs.Prelude.{None, Err, IfOk, OnOk}
use Rattle.std.specs.Io.KnownBytes.{Appends, Consumes}
use Rattle.pnm_image.specs.Completion.{Completes}
use Rattle.pnm_image.specs.Devices.{AppendsPrefix, Failed}
use Rattle.pnm_image.specs.Images.{Image, messages_of_stream}
use Rattle.pnm_read.specs.declared.fault.InputFault.{InputFault}
use Rattle.pnm_read.specs.declared.fault.InputFault.TheVariants.{ReadFailed}
use Rattle.pnm_read.specs.Said.{IsOutsideFault}
use Rattle.pnm_read.specs.Said.{said_of, fault_of, AreSaid}
use Rattle.pnm_tools.specs.declared.fault.ToolFault.{ToolFault}
use Rattle.pnm_tools.specs.declared.fault.ToolFault.TheVariants.{OutOfOrder, Memory}
use Rattle.pnm_tools.specs.declared.tool.Tool.{Tool}
use Rattle.pnm_tools.specs.Chains.{AreLawfulTools, AreResultsInTurn}
use Rattle.pnm_write.specs.declared.fault.SinkFault.{SinkFault}
use Rattle.pnm_write.specs.declared.fault.SinkFault.TheVariants.{WriteFailed}
use Rattle.pnm_write.specs.Encoding.{written_of}
use Rattle.pnm_write.specs.Forms.{IsFormFault}
use Rattle.pnm_serial.specs.declared.fault.RunFault.{RunFault}
use Rattle.pnm_serial.specs.declared.fault.RunFault.TheVariants.{NoStart, Input, Tool as OfTool, Output, PeerGone}
use Rattle.pnm_serial.specs.declared.summary.Summary.{Summary}
use Rattle.pnm_serial.specs.Jobs.{Job, bytes_due, IsOutputOf}
use Rattle.pnm_serial.specs.Runs.{Change, MayFollow, MustGiveAll, HasRun}
use Rattle.pnm_serial.specs.SerialRuns.{HasMostMessages, IsAllWritten}
use Rattle.pnm_serial.specs.Verdicts.{RefusalIs, AnswersVerdict, summary_of}

-- ---- cases of an answer

-- where the answer is a fault of the input, of a tool or of the output, this holds of it
abbrev pub IfInput : {A : Type 0} → Result A RunFault → (InputFault → Type 0) → Type 0
IfInput (Ok x) P = Unit {0}
IfInput (Err NoStart) P = Unit {0}
IfInput (Err (Input fault)) P = P fault
IfInput (Err (OfTool number fault)) P = Unit {0}
IfInput (Err (Output fault)) P = Unit {0}
IfInput (Err (PeerGone number)) P = Unit {0}

abbrev pub IfTool : {A : Type 0} → Result A RunFault → (ℕ → ToolFault → Type 0) → Type 0
IfTool (Ok x) P = Unit {0}
IfTool (Err NoStart) P = Unit {0}
IfTool (Err (Input fault)) P = Unit {0}
IfTool (Err (OfTool number fault)) P = P number fault
IfTool (Err (Output fault)) P = Unit {0}
IfTool (Err (PeerGone number)) P = Unit {0}

abbrev pub IfOutput : {A : Type 0} → Result A RunFault → (SinkFault → Type 0) → Type 0
IfOutput (Ok x) P = Unit {0}
IfOutput (Err NoStart) P = Unit {0}
IfOutput (Err (Input fault)) P = Unit {0}
IfOutput (Err (OfTool number fault)) P = Unit {0}
IfOutput (Err (Output fault)) P = P fault
IfOutput (Err (PeerGone number)) P = Unit {0}

abbrev pub IfGone : {A : Type 0} → Result A RunFault → (ℕ → Type 0) → Type 0
IfGone (Ok x) P = Unit {0}
IfGone (Err NoStart) P = Unit {0}
IfGone (Err (Input fault)) P = Unit {0}
IfGone (Err (OfTool number fault)) P = Unit {0}
IfGone (Err (Output fault)) P = Unit {0}
IfGone (Err (PeerGone number)) P = P number

-- ---- what was written, and refusals

-- a run that ended well: images are said of the text, none of which is refused, the form can hold their results, these
-- were written in it, and the summary counts them
pub record EndedWell (text : List ℕ) (job : Job) (old new : Option (List ℕ)) (summary : Summary) : Type 0 where
  pub images : List Image
  pub results : List Image
  pub said : AreSaid text images
  pub output : IsOutputOf job images results old new
  pub counts : summary ≡ summary_of results

-- images are said of the text, none of which is refused, and of their results all that the form takes was written
pub record HasWrittenResults (text : List ℕ) (job : Job) (old new : Option (List ℕ)) : Type 0 where
  pub images : List Image
  pub results : List Image
  pub said : AreSaid text images
  pub made : AreResultsInTurn job.tools images results
  pub written : Appends old new (written_of job.form (messages_of_stream results))

-- the text is accepted, and a tool is the first that refuses one of the images; or there was no memory for it, and no
-- tool before it refuses one
abbrev pub IsStoppedBy : List ℕ → List Tool → ℕ → ToolFault → Type 0
IsStoppedBy text tools number fault = ((fault ≡ Memory) × RefusalIs text (take (number - 1) tools) None)
    ⊎ RefusalIs text tools (Some (record { number = number; fault = fault }))

-- what was written is a prefix of what is due, whatever images complete what is said of the text
abbrev pub IsPrefixOfBytesDue : List ℕ → Job → Option (List ℕ) → Option (List ℕ) → Type 0
IsPrefixOfBytesDue text job old new = (images : List Image) → Completes images (said_of text)
    → AppendsPrefix old new (bytes_due job images)

-- these bytes were read; and whatever may come after them, what was written is a prefix of what is due for that text
pub record IsPrefixForEach (Outlasts : Type 0) (job : Job) (answer : Result Summary RunFault) (reader writer : Change)
    : Type 0 where
  pub read : List ℕ
  pub consumed : Consumes reader.old reader.new read
  pub prefix : (rest : List ℕ) → MayFollow Outlasts answer reader rest
      → IsPrefixOfBytesDue (read ++ rest) job writer.old writer.new

-- these bytes were read; and whatever comes after them, what was written is a prefix of what is due for that text
pub record IsPrefixWhatever (job : Job) (reader writer : Change) : Type 0 where
  pub read : List ℕ
  pub consumed : Consumes reader.old reader.new read
  pub prefix : (rest : List ℕ) → IsPrefixOfBytesDue (read ++ rest) job writer.old writer.new

-- ---- the run

pub record RunTells (lanes : ℕ) (Outlasts : Type 0) (job : Job) (answer : Result Summary RunFault)
    (reader writer : Change) : Type 0 where
  -- It ends well only where the whole input is accepted, no tool refuses an image, the form can hold the results of
  -- all images, these are written, and no device failed.
  pub well : (text : List ℕ) → reader.old ≡ Some text → IfOk answer (EndedWell text job writer.old writer.new)
  pub no_failure : OnOk answer
      ((reader.failures_new ≡ reader.failures_old) × (writer.failures_new ≡ writer.failures_old))
  -- A fault of the input is the first of its text, which then spells nothing (`OneStreamOrOneFault`); or the reader
  -- failed, memory ran out, or as many messages came as a run takes. With any other answer the reader hasn't failed.
  pub input : (text : List ℕ) → reader.old ≡ Some text
      → IfInput answer (λ fault. IsOutsideFault fault ⊎ (fault_of text ≡ Some fault))
  pub read_failed : IfInput answer (λ fault. fault ≡ ReadFailed → Failed reader.failures_old reader.failures_new
      ⊎ Outlasts)
  pub sound_reader : (answer ≡ Err (Input ReadFailed) → ⊥) → reader.failures_new ≡ reader.failures_old
  -- A tool's fault is answered only where the input has none and no tool before it refuses an image: it is the tool's
  -- own refusal, or want of memory. That a message came out of order is never answered.
  pub tool : IfTool answer (λ number fault. (fault ≢ OutOfOrder) × (1 ≤ number) × (number ≤ length job.tools))
  pub refusal : (text : List ℕ) → reader.old ≡ Some text
      → IfTool answer (λ number fault. IsStoppedBy text job.tools number fault)
  -- The output's fault is answered only where the input and the tools have none: the writer failed, or the form can't
  -- hold the results.
  pub output : IfOutput answer
      (λ fault. (((fault ≡ WriteFailed) × Failed writer.failures_old writer.failures_new) ⊎ IsFormFault job.form fault)
      × (reader.failures_new ≡ reader.failures_old))
  pub output_last : (text : List ℕ) → reader.old ≡ Some text → IfOutput answer
      (λ fault. RefusalIs text job.tools None)
  -- At a fault of the form all was written that it takes of the results.
  pub before_refused : (text : List ℕ) → reader.old ≡ Some text
      → IfOutput answer (λ fault. IsFormFault job.form fault → HasWrittenResults text job writer.old writer.new)
  -- Where nothing is held back, as if the last tool refused an image and works in one lane, all that is due was
  -- written, unless the writer failed.
  pub all_due : (text : List ℕ) → reader.old ≡ Some text → MustGiveAll lanes job answer
      → ¬ Failed writer.failures_old writer.failures_new → (images : List Image) → AreSaid text images
      → Appends writer.old writer.new (bytes_due job images)
  -- So each answer is the verdict, unless it is from outside.
  pub verdict : (text : List ℕ) → reader.old ≡ Some text → AnswersVerdict text job answer
  -- However it ends, what is written is a prefix of the output due, for the reader's own text and for any other that
  -- may begin with the bytes that were read.
  pub prefix : (text : List ℕ) → reader.old ≡ Some text → IsPrefixOfBytesDue text job writer.old writer.new
  pub prefix_for_each : IsPrefixForEach Outlasts job answer reader writer
  -- Who saw a ring's other end dropped is the source, a tool or the sink.
  pub gone : IfGone answer (λ number. number ≤ length job.tools + 1)

-- in one thread a run tells all this
abbrev pub WhatARunInOneThreadTells : Type 0
WhatARunInOneThreadTells = (job : Job) (answer : Result Summary RunFault) (reader writer : Change)
    → AreLawfulTools job.tools → HasRun 1 (HasMostMessages reader.old reader.new) job answer reader writer
    → RunTells 1 (HasMostMessages reader.old reader.new) job answer reader writer

-- and over threads too; no number of messages ends such a run: where a failed read is answered the reader failed, and
-- anything may come after the bytes that were read
pub record RunOverThreadsTells (lanes : ℕ) (job : Job) (answer : Result Summary RunFault) (reader writer : Change)
    : Type 0 where
  pub run : RunTells lanes ⊥ job answer reader writer
  pub read_failed : IfInput answer (λ fault. fault ≡ ReadFailed → Failed reader.failures_old reader.failures_new
      × IsPrefixWhatever job reader writer)

abbrev pub WhatARunTells : Type 0
WhatARunTells = (lanes : ℕ) (job : Job) (answer : Result Summary RunFault) (reader writer : Change)
    → AreLawfulTools job.tools → HasRun lanes ⊥ job answer reader writer
    → RunOverThreadsTells lanes job answer reader writer

-- where there is no memory for the list of the tools, and nothing is read and written, that is a prefix of what is due
-- for each text, and all that tools without memory answer
pub record NothingTells (text : List ℕ) (job : Job) (held : Option (List ℕ)) : Type 0 where
  pub prefix : IsPrefixOfBytesDue text job held held
  pub all : IsAllWritten {A = Summary} text job (Err (OfTool 1 Memory)) held held

abbrev pub WhatARunWithoutListTells : Type 0
WhatARunWithoutListTells =
    (text : List ℕ) (job : Job) (held : Option (List ℕ)) → 1 ≤ length job.tools → NothingTells text job held
