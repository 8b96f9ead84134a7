-- What a run answers, reads and writes, in one thread or over several. A prefix of a list is what it begins with.
use Rattle.std.specs.Prelude.{◌≡◌, ◌≢◌, ◌⊎◌, ℕ, ◌<◌, ◌≤◌, false, length, List, [], ◌∷◌, ◌++◌, Option, Some, Result, Ok}
use Rattle.std.specs.Prelude.{Err}
use Rattle.std.specs.Io.KnownBytes.{Appends, Consumes}
use Rattle.pnm_image.specs.declared.message.Message.{Message}
use Rattle.pnm_image.specs.Completion.{IsPrefixOf, Completes}
use Rattle.pnm_image.specs.Devices.{AppendsPrefix, Failed}
use Rattle.pnm_image.specs.Images.{Image}
use Rattle.pnm_read.specs.declared.fault.InputFault.TheVariants.{ReadFailed}
use Rattle.pnm_read.specs.Said.{said_of, AreSaid}
use Rattle.pnm_tools.specs.declared.fault.ToolFault.TheVariants.{Memory}
use Rattle.pnm_tools.specs.declared.tool.Tool.{Tool}
use Rattle.pnm_tools.specs.Chains.{due_in_turn}
use Rattle.pnm_tools.specs.Tools.{is_row_wise}
use Rattle.pnm_write.specs.declared.fault.SinkFault.{SinkFault}
use Rattle.pnm_write.specs.declared.fault.SinkFault.TheVariants.{WriteFailed}
use Rattle.pnm_write.specs.Encoding.{written_of}
use Rattle.pnm_serial.specs.declared.fault.RunFault.{RunFault}
use Rattle.pnm_serial.specs.declared.fault.RunFault.TheVariants.{NoStart, Input, Tool as OfTool, Output, PeerGone}
use Rattle.pnm_serial.specs.declared.summary.Summary.{Summary}
use Rattle.pnm_serial.specs.Jobs.{Job}
use Rattle.pnm_serial.specs.Verdicts.{IsAnswer}

-- what a reader has left or a writer holds, where that is known, and its failures, before and after a call
pub record Change : Type 0 where
  pub old : Option (List ℕ)
  pub new : Option (List ℕ)
  pub failures_old : ℕ
  pub failures_new : ℕ

abbrev pub change : {D : Type 0} → (D → Option (List ℕ)) → (D → ℕ) → D → D → Change
change bytes failures old new =
    record { old = bytes old; new = bytes new; failures_old = failures old; failures_new = failures new }

-- What may come after the bytes that were read: nothing; and anything where a byte is left, or the reader failed. A run
-- may also end by itself so, as if the reader had failed, where `Outlasts` holds.
abbrev pub MayFollow : Type 0 → Result Summary RunFault → Change → List ℕ → Type 0
MayFollow Outlasts answer reader rest = (rest ≡ [])
    ⊎ ((byte : ℕ) × (more : List ℕ) × (reader.new ≡ Some (byte ∷ more)))
    ⊎ ((answer ≡ Err (Input ReadFailed)) × ((reader.failures_old < reader.failures_new) ⊎ (Outlasts → ⊥)))

-- ---- what was written

-- all that is due is given to the output: the run ends well, or by the output's fault; or it is the last tool that
-- refused an image, and that tool works in one lane
abbrev pub MustGiveAll : ℕ → Job → Result Summary RunFault → Type 0
MustGiveAll lanes job (Ok summary) = Unit {0}
MustGiveAll lanes job (Err NoStart) = ⊥
MustGiveAll lanes job (Err (Input fault)) = ⊥
MustGiveAll lanes job (Err (OfTool number fault)) = (fault ≢ Memory) × (number ≡ length job.tools)
    × ((before : List Tool) × (last : Tool) × (job.tools ≡ before ++ last ∷ [])
    × ((lanes ≤ 1) ⊎ (is_row_wise last ≡ false)))
MustGiveAll lanes job (Err (Output fault)) = Unit {0}
MustGiveAll lanes job (Err (PeerGone number)) = ⊥

-- Messages were given to the output, and what the form takes of them was written: a prefix of it, and all of it if the
-- writer didn't fail, if the run ended well, or if the form refused one of them, even if a flush has failed. For each
-- of these texts they are a prefix of the messages that are due, whatever images complete what is said of it; and all
-- that is due if none is held back.
pub record HasWritten (lanes : ℕ) (job : Job) (answer : Result Summary RunFault) (IsText : List ℕ → Type 0)
    (writer : Change) : Type 0 where
  pub given : List Message
  pub due : (text : List ℕ) → IsText text → (images : List Image) → Completes images (said_of text)
      → IsPrefixOf given (due_in_turn job.tools images)
  pub full : MustGiveAll lanes job answer → (text : List ℕ) → IsText text → (images : List Image)
      → AreSaid text images → given ≡ due_in_turn job.tools images
  pub prefix : AppendsPrefix writer.old writer.new (written_of job.form given)
  pub all : ¬ Failed writer.failures_old writer.failures_new → Appends writer.old writer.new (written_of job.form given)
  pub well : (summary : Summary) → answer ≡ Ok summary → Appends writer.old writer.new (written_of job.form given)
  pub refused : (fault : SinkFault) → answer ≡ Err (Output fault) → fault ≢ WriteFailed
      → Appends writer.old writer.new (written_of job.form given)

-- ---- what failed

-- what the devices count: the reader failed where that is answered, and nowhere else; the writer failed where that is
-- answered, and didn't where the run ended well
pub record CountsFailures (Outlasts : Type 0) (answer : Result Summary RunFault) (reader writer : Change) : Type 0 where
  pub read_failed : answer ≡ Err (Input ReadFailed) → Failed reader.failures_old reader.failures_new ⊎ Outlasts
  pub read : (answer ≡ Err (Input ReadFailed) → ⊥) → reader.failures_new ≡ reader.failures_old
  pub write_failed : answer ≡ Err (Output WriteFailed) → Failed writer.failures_old writer.failures_new
  pub written : (summary : Summary) → answer ≡ Ok summary → writer.failures_new ≡ writer.failures_old

-- ---- the run

-- A run that was started, in which each row-wise tool works in so many lanes. It has read these bytes; and for each
-- text that they may begin, it answers as it should, and has written of what is due. It may answer that the reader
-- failed though it didn't where `Outlasts` holds.
pub record HasRun (lanes : ℕ) (Outlasts : Type 0) (job : Job) (answer : Result Summary RunFault)
    (reader writer : Change) : Type 0 where
  pub read : List ℕ
  pub consumed : Consumes reader.old reader.new read
  pub verdict : (rest : List ℕ) → MayFollow Outlasts answer reader rest → IsAnswer (read ++ rest) job answer
  pub bytes : HasWritten lanes job answer
      (λ text. (rest : List ℕ) × MayFollow Outlasts answer reader rest × (text ≡ read ++ rest)) writer
  pub failures : CountsFailures Outlasts answer reader writer
