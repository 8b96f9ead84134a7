-- What comes of a run over a text in memory: the reader never fails, and the writer only where memory runs out.
use Rattle.std.specs.Prelude.{◌≡◌, ◌⊎◌, ◌≤◌, ◌-◌, ◌^◌, ℕ, List, [], length, Some, None, Result, IfOk, IfErr}
use Rattle.pnm_image.specs.Images.{Image}
use Rattle.pnm_read.specs.declared.fault.InputFault.TheVariants.{ReadFailed, Memory as InputMemory}
use Rattle.pnm_read.specs.Said.{said_of, AreSaid}
use Rattle.pnm_tools.specs.declared.fault.ToolFault.TheVariants.{Memory as ToolMemory}
use Rattle.pnm_tools.specs.Chains.{AreResultsInTurn}
use Rattle.pnm_write.specs.declared.fault.SinkFault.TheVariants.{WriteFailed}
use Rattle.pnm_write.specs.Encoding.{encoding_of}
use Rattle.pnm_write.specs.Forms.{images_fault}
use Rattle.pnm_serial.specs.Jobs.{Job}
use Rattle.pnm_serial.specs.RunFacts.{IsPrefixOfBytesDue}
use Rattle.pnm_serial.specs.SerialRuns.{IsOfOneThread}
use Rattle.pnm_serial.specs.Verdicts.{IsVerdict, summary_of}
use Rattle.pnm_serial.specs.declared.fault.RunFault.{RunFault}
use Rattle.pnm_serial.specs.declared.fault.RunFault.TheVariants.{NoStart, Input, Tool as OfTool, Output, PeerGone}
use Rattle.pnm_serial.specs.declared.summary.Summary.{Summary}

-- images are said of the text, none of which a tool refuses, the form can hold their results, the bytes are the
-- encoding of these, and the summary counts them
pub record IsConversion (text : List ℕ) (job : Job) (written : List ℕ) (summary : Summary) : Type 0 where
  pub images : List Image
  pub results : List Image
  pub said : AreSaid text images
  pub made : AreResultsInTurn job.tools images results
  pub fit : images_fault job.form results ≡ None
  pub encoded : written ≡ encoding_of job.form results
  pub counts : summary ≡ summary_of results

-- memory ran out: for the input, for a tool, or for the results
abbrev pub IsWantOfMemory : RunFault → Type 0
IsWantOfMemory NoStart = ⊥
IsWantOfMemory (Input fault) = fault ≡ InputMemory
IsWantOfMemory (OfTool number fault) = fault ≡ ToolMemory
IsWantOfMemory (Output fault) = fault ≡ WriteFailed
IsWantOfMemory (PeerGone number) = ⊥

-- of the text more messages are said than a run takes
abbrev pub FailsAtMostMessages : List ℕ → RunFault → Type 0
FailsAtMostMessages text fault = (fault ≡ Input ReadFailed) × (2 ^ 64 - 1 ≤ length (said_of text))

-- the job was done on this text, with this answer, and these bytes were written
pub record HasConverted (text : List ℕ) (job : Job) (answer : Result Summary RunFault) (written : List ℕ)
    : Type 0 where
  -- It ends well only where the bytes are all the results.
  pub well : IfOk answer (IsConversion text job written)
  -- Each fault is the verdict, or want of memory.
  pub fault : IfErr answer
      (λ fault. IsVerdict text job (Some fault) ⊎ IsWantOfMemory fault ⊎ FailsAtMostMessages text fault)
  -- However it ends, what was written is a prefix of what is due.
  pub prefix : IsPrefixOfBytesDue text job (Some []) (Some written)
  pub one_thread : IsOfOneThread answer
