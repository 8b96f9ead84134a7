-- What a run in one thread answers, reads and writes besides.
use Rattle.std.specs.Prelude.{◌≡◌, ◌-◌, ◌^◌, ◌≤◌, ℕ, List, length, Option, Some, Result, Ok, Err}
use Rattle.std.specs.Io.KnownBytes.{Appends, Consumes}
use Rattle.pnm_image.specs.Devices.{Failed}
use Rattle.pnm_image.specs.declared.message.Message.{Message}
use Rattle.pnm_read.specs.Said.{said_of, fault_of}
use Rattle.pnm_tools.specs.declared.fault.ToolFault.{ToolFault}
use Rattle.pnm_tools.specs.ChainAnswers.{HaveAnswered, AreWell, IsFirstFault}
use Rattle.pnm_write.specs.Encoding.{written_of}
use Rattle.pnm_serial.specs.declared.fault.RunFault.{RunFault}
use Rattle.pnm_serial.specs.declared.fault.RunFault.TheVariants.{NoStart, Input, Tool as OfTool, Output, PeerGone}
use Rattle.pnm_serial.specs.declared.summary.Summary.{Summary}
use Rattle.pnm_serial.specs.Jobs.{Job}
use Rattle.pnm_serial.specs.Runs.{Change, HasRun}

-- ---- the answer

-- an answer of a run in one thread: no thread was to be started, and no ring has another end
abbrev pub IsOfOneThread : {A : Type 0} → Result A RunFault → Type 0
IsOfOneThread (Ok x) = Unit {0}
IsOfOneThread (Err NoStart) = ⊥
IsOfOneThread (Err (Input fault)) = Unit {0}
IsOfOneThread (Err (OfTool number fault)) = Unit {0}
IsOfOneThread (Err (Output fault)) = Unit {0}
IsOfOneThread (Err (PeerGone number)) = ⊥

-- ---- what was read

-- the reader gave bytes of which at least as many messages are said as a run takes; and so of its whole text. It says
-- nothing of a reader that doesn't tell its bytes.
pub record HasMostMessages (old new : Option (List ℕ)) : Type 0 where
  pub read : List ℕ
  pub consumed : Consumes old new read
  pub many : 2 ^ 64 - 1 ≤ length (said_of read)
  pub of_text : (text : List ℕ) → old ≡ Some text → 2 ^ 64 - 1 ≤ length (said_of text)

-- the answer isn't a fault from outside that broke off the reading of the text
abbrev pub AnswersText : {A : Type 0} → List ℕ → Result A RunFault → Type 0
AnswersText text (Ok x) = Unit {0}
AnswersText text (Err NoStart) = ⊥
AnswersText text (Err (Input fault)) = fault_of text ≡ Some fault
AnswersText text (Err (OfTool number fault)) = Unit {0}
AnswersText text (Err (Output fault)) = Unit {0}
AnswersText text (Err (PeerGone number)) = ⊥

-- ---- what was written

-- the refusals of the tools, as far as the answer tells them: none where no tool's fault is answered, and else which is
-- the first. At the input's fault any tool, and at a tool's fault any tool behind it, may also have run out of memory,
-- of which the answer tells nothing.
abbrev pub FitAnswer : {A : Type 0} → Result A RunFault → List (Option ToolFault) → Type 0
FitAnswer (Ok x) faults = AreWell faults
FitAnswer (Err NoStart) faults = Unit {0}
FitAnswer (Err (Input fault)) faults = Unit {0}
FitAnswer (Err (OfTool number fault)) faults = IsFirstFault 1 faults number fault
FitAnswer (Err (Output fault)) faults = AreWell faults
FitAnswer (Err (PeerGone number)) faults = Unit {0}

-- each tool has answered what the one before it gave for all that is said of the text, in full or until its refusal,
-- and the answers of the last were written, as far as the form takes them
pub record IsAllWritten {A : Type 0} (text : List ℕ) (job : Job) (answer : Result A RunFault)
    (old new : Option (List ℕ)) : Type 0 where
  pub faults : List (Option ToolFault)
  pub given : List Message
  pub fit : FitAnswer answer faults
  pub answered : HaveAnswered job.tools faults (said_of text) given
  pub written : Appends old new (written_of job.form given)

-- where the answer is of the text and the writer didn't fail, all was written that the tools of a run in one thread
-- have answered
abbrev pub AllIsWritten : {A : Type 0} → Job → Result A RunFault → Change → Change → Type 0
AllIsWritten job answer reader writer =
    (text : List ℕ) → reader.old ≡ Some text → AnswersText text answer
    → ¬ Failed writer.failures_old writer.failures_new → IsAllWritten text job answer writer.old writer.new

-- ---- the run

-- what holds of each run, and in one thread all was written that the tools have answered
pub record HasRunInOneThread (job : Job) (answer : Result Summary RunFault) (reader writer : Change) : Type 0 where
  pub run : HasRun 1 (HasMostMessages reader.old reader.new) job answer reader writer
  pub all_written : AllIsWritten job answer reader writer
  pub one_thread : IsOfOneThread answer
