-- The verdict on a text and a job: what a run over them is to answer where nothing fails around it;
-- and what a run may answer in its place.
use Rattle.std.specs.Prelude.{◌≡◌, ◌≢◌, ◌⊎◌, ℕ, ◌≤◌, ◌+◌, ◌-◌, ◌^◌, min, length, take, sum_by, List, Option, Some, None}
use Rattle.std.specs.Prelude.{Result, Ok, Err}
use Rattle.pnm_image.specs.Images.{Image}
use Rattle.pnm_read.specs.Said.{IsOutsideFault}
use Rattle.pnm_read.specs.Said.{fault_of, AreSaid}
use Rattle.pnm_tools.specs.declared.fault.ToolFault.TheVariants.{OutOfOrder, Memory}
use Rattle.pnm_tools.specs.declared.tool.Tool.{Tool}
use Rattle.pnm_tools.specs.Chains.{AreLawfulTools, AreResultsInTurn, Refusal, refusal_of}
use Rattle.pnm_write.specs.declared.fault.SinkFault.{SinkFault}
use Rattle.pnm_write.specs.declared.fault.SinkFault.TheVariants.{WriteFailed}
use Rattle.pnm_write.specs.Forms.{images_fault, IsFormFault}
use Rattle.pnm_serial.specs.Jobs.{Job}
use Rattle.pnm_serial.specs.declared.fault.RunFault.{RunFault}
use Rattle.pnm_serial.specs.declared.fault.RunFault.TheVariants.{NoStart, Input, Tool as OfTool, Output, PeerGone}
use Rattle.pnm_serial.specs.declared.summary.Summary.{Summary}

-- ---- refusals of images

-- the text is accepted: the refusal of the first tool that refuses one of the images, or nothing where none does
abbrev pub RefusalIs : List ℕ → List Tool → Option Refusal → Type 0
RefusalIs text tools found = (images : List Image) × AreSaid text images × (refusal_of tools images ≡ found)

-- the text is accepted and no tool refuses one of the images: why the form can't hold their results, or nothing where
-- it can
pub record HasResults (text : List ℕ) (job : Job) (found : Option SinkFault) : Type 0 where
  pub images : List Image
  pub results : List Image
  pub said : AreSaid text images
  pub taken : refusal_of job.tools images ≡ None
  pub made : AreResultsInTurn job.tools images results
  pub fit : images_fault job.form results ≡ found

-- ---- the verdict

-- The verdict is the fault of the text, if it has one; else, of the images said of it, the refusal of the first
-- tool that refuses one of the images which the tools before it made, none of which these refused; else the reason for
-- which the form can't hold the results of all images; else there is none.
abbrev pub IsVerdict : List ℕ → Job → Option RunFault → Type 0
IsVerdict text job None = HasResults text job None
IsVerdict text job (Some NoStart) = ⊥
IsVerdict text job (Some (Input fault)) = fault_of text ≡ Some fault
IsVerdict text job (Some (OfTool number fault)) =
    RefusalIs text job.tools (Some (record { number = number; fault = fault }))
IsVerdict text job (Some (Output fault)) = HasResults text job (Some fault)
IsVerdict text job (Some (PeerGone number)) = ⊥

-- the text and the job have this verdict and no other
pub record HasOneVerdict (text : List ℕ) (job : Job) : Type 0 where
  pub verdict : Option RunFault
  pub holds : IsVerdict text job verdict
  pub only : (other : Option RunFault) → IsVerdict text job other → other ≡ verdict

-- each text has exactly one verdict with each job
abbrev pub OneVerdictForEachText : Type 0
OneVerdictForEachText = (text : List ℕ) (job : Job) → HasOneVerdict text job

-- ---- answers

-- the fault tells of what failed around a run: a thread's start, the other end of a ring, memory, the reader or the
-- writer
abbrev pub IsFromOutside : RunFault → Type 0
IsFromOutside NoStart = Unit {0}
IsFromOutside (Input fault) = IsOutsideFault fault
IsFromOutside (OfTool number fault) = fault ≡ Memory
IsFromOutside (Output fault) = fault ≡ WriteFailed
IsFromOutside (PeerGone number) = Unit {0}

-- What a run may answer in place of the verdict, since something failed around it: the reader; memory, where the text
-- and the tools before that one have no fault; the writer, where no tool has one; or a ring's other end.
abbrev pub FailsAround : List ℕ → Job → RunFault → Type 0
FailsAround text job NoStart = ⊥
FailsAround text job (Input fault) = IsOutsideFault fault
FailsAround text job (OfTool number fault) = (fault ≡ Memory) × (1 ≤ number) × (number ≤ length job.tools)
    × RefusalIs text (take (number - 1) job.tools) None
FailsAround text job (Output fault) = (fault ≡ WriteFailed) × RefusalIs text job.tools None
FailsAround text job (PeerGone number) = number ≤ length job.tools + 1

-- the images and the rows of a stream; each count stays at the greatest u64
abbrev pub summary_of : List Image → Summary
summary_of images =
    record {
      images = min (length images) (2 ^ 64 - 1);
      rows = min (sum_by (λ i. i.head.shape.height) images) (2 ^ 64 - 1);
    }

-- a run over the text answers so: it ends well, with a summary of the results, only where there is no verdict, and each
-- fault is the verdict, or tells of what failed around the run
abbrev pub IsAnswer : List ℕ → Job → Result Summary RunFault → Type 0
IsAnswer text job (Ok summary) = (found : HasResults text job None) × (summary ≡ summary_of found.results)
IsAnswer text job (Err fault) = IsVerdict text job (Some fault) ⊎ FailsAround text job fault

-- a run ends well only where there is no verdict, and each fault that it answers is the verdict, or is from outside
abbrev pub AnswersVerdict : {A : Type 0} → List ℕ → Job → Result A RunFault → Type 0
AnswersVerdict text job (Ok x) = IsVerdict text job None
AnswersVerdict text job (Err fault) = IsFromOutside fault ⊎ IsVerdict text job (Some fault)

-- a verdict with lawful tools never is a fault from outside, nor that a message came out of order; of the output it is
-- a fault of the job's form
abbrev pub VerdictsAreOfTexts : Type 0
VerdictsAreOfTexts = (text : List ℕ) (job : Job) (fault : RunFault) → AreLawfulTools job.tools
    → IsVerdict text job (Some fault) → ¬ IsFromOutside fault × ((number : ℕ) → fault ≢ OfTool number OutOfOrder)
    × ((out : SinkFault) → fault ≡ Output out → IsFormFault job.form out)
