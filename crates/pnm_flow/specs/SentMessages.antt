-- What the tools of a run over threads may have sent to one another: a law that follows from the promise of a run.
use Rattle.std.specs.Prelude.{◌≡◌, ◌≢◌, ℕ, List, [], ◌∷◌, Option, Some, None, Result, Err}
use Rattle.std.specs.Io.KnownBytes.{Appends}
use Rattle.pnm_image.specs.Devices.{Failed}
use Rattle.pnm_image.specs.declared.message.Message.{Message}
use Rattle.pnm_image.specs.Messages.{without_stop}
use Rattle.pnm_read.specs.declared.fault.InputFault.{InputFault}
use Rattle.pnm_read.specs.Said.{said_of}
use Rattle.pnm_tools.specs.declared.fault.ToolFault.{ToolFault}
use Rattle.pnm_tools.specs.declared.tool.Tool.{Tool}
use Rattle.pnm_tools.specs.Chains.{AreLawfulTools}
use Rattle.pnm_write.specs.Encoding.{written_of}
use Rattle.pnm_serial.specs.declared.fault.RunFault.{RunFault}
use Rattle.pnm_serial.specs.declared.fault.RunFault.TheVariants.{Input, Tool as OfTool, PeerGone as Gone}
use Rattle.pnm_stages.specs.declared.stage.StageEnd.{StageEnd}
use Rattle.pnm_serial.specs.declared.summary.Summary.{Summary}
use Rattle.pnm_serial.specs.Jobs.{Job}
use Rattle.pnm_serial.specs.Runs.{Change, HasRun}
use Rattle.pnm_stages.specs.Stages.{HasEndedSo}
use Rattle.pnm_lanes.specs.Lanes.{HaveLanesEndedSo}
use Rattle.pnm_flow.specs.ChainRuns.{ByLanes}
use Rattle.pnm_flow.specs.ThreadedRuns.{first_fault_from}

-- a tool has ended so
abbrev pub HasEndedOver : ℕ → Tool → StageEnd → List Message → List Message → Type 0
HasEndedOver lanes tool end l g = ByLanes lanes tool (HaveLanesEndedSo tool end l g) (HasEndedSo tool end l g)

-- each tool has ended so for what the one before it sent; where a tool saw a ring's other end dropped, no more is known
abbrev pub HaveEnded : ℕ → List Tool → List StageEnd → List Message → List Message → Type 0
HaveEnded lanes [] [] took gave = gave ≡ took
HaveEnded lanes [] (end ∷ ends) took gave = ⊥
HaveEnded lanes (tool ∷ tools) [] took gave = ⊥
HaveEnded lanes (tool ∷ tools) (end ∷ ends) took gave = (middle : List Message)
    × HasEndedOver lanes tool end took middle × HaveEnded lanes tools ends middle gave

-- the tools have ended so for all that is said of the text, and what the last one sent was written, as far as the form
-- takes it; the first fault of their ends is the one that is answered, or there is none
pub record IsAllSent (text : List ℕ) (lanes : ℕ) (job : Job) (answer : Result Summary RunFault)
    (old new : Option (List ℕ)) : Type 0 where
  pub ends : List StageEnd
  pub given : List Message
  pub first : (number : ℕ) (fault : ToolFault) → answer ≡ Err (OfTool number fault)
      → first_fault_from 1 ends ≡ Some (OfTool number fault)
  pub none : ((number : ℕ) (fault : ToolFault) → answer ≢ Err (OfTool number fault)) → first_fault_from 1 ends ≡ None
  pub ended : HaveEnded lanes job.tools ends (said_of text) given
  pub written : Appends old new (written_of job.form (without_stop given))

-- so it is in each run over threads whose answer is neither of the input nor of a ring's end, unless the writer failed
abbrev pub WhatTheToolsSent : Type 0
WhatTheToolsSent = (lanes : ℕ) (job : Job) (answer : Result Summary RunFault) (reader writer : Change)
    → AreLawfulTools job.tools → HasRun lanes ⊥ job answer reader writer
    → (text : List ℕ) → reader.old ≡ Some text → ((fault : InputFault) → answer ≢ Err (Input fault))
    → ((number : ℕ) → answer ≢ Err (Gone number)) → ¬ Failed writer.failures_old writer.failures_new
    → IsAllSent text lanes job answer writer.old writer.new
