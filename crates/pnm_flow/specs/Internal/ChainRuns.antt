-- Between functions: what a chain of tools has received and sent once all have ended: each in a thread of its own, or
-- over lanes, with a ring between it and the next.
use Rattle.std.specs.Prelude.{◌≡◌, ◌⊎◌, ◌≤◌, ℕ, ◌+◌, List, [], ◌++◌}
use Rattle.std.specs.Prelude.{vec_capacity}
use Rattle.pnm_stages.specs.declared.sender.Sender.{Sender}
use Rattle.pnm_stages.specs.declared.receiver.Receiver.{Receiver}
use Rattle.pnm_stages.specs.Rings.{sent, received, known_items, SameSender, SameReceiver}
use Rattle.pnm_image.specs.declared.message.Message.{Message}
use Rattle.pnm_tools.specs.declared.tool.Tool.{Tool}
use Rattle.pnm_flow.specs.declared.chain.ChainDone.{ChainDone}
use Rattle.pnm_flow.specs.declared.chain.Link.{Link}
use Rattle.pnm_flow.specs.declared.tool_run.Plan.{Plan}
use Rattle.pnm_flow.specs.declared.tool_run.Plan.TheVariants.{Stage, Lanes}
use Rattle.pnm_stages.specs.declared.stage.StageDone.{StageDone}
use Rattle.pnm_stages.specs.declared.stage.StageEnd.{StageEnd}
use Rattle.pnm_stages.specs.Rings.{IsEnded}
use Rattle.pnm_lanes.specs.Internal.LaneRings.{AreLaneRings}
use Rattle.pnm_lanes.specs.LaneRuns.{HasRunLanes}
use Rattle.pnm_stages.specs.Stages.{HasRunStage}
use Rattle.pnm_flow.specs.ChainRuns.{RunsInLanes, IsStageOver, AreStages}

-- ---- one tool

-- a tool has run as one stage over these ring ends, which came back
abbrev pub IsOneStageRun : Tool → Receiver → Sender → StageDone → Type 0
IsOneStageRun tool input output done =
    SameReceiver input done.input × SameSender output done.output
    × HasRunStage tool done.end (received input) (received done.input) (known_items done.input) (sent output)
    (sent done.output)

-- a tool of a chain has ended so, by the messages that its two rings had passed before and have passed now, and those
-- of the first that its end has seen and not received: none, or the end of the stream was received
pub record HasRunTool (lanes : ℕ) (tool : Tool) (end : StageEnd)
    (received_old received_new seen sent_old sent_new : List Message) : Type 0 where
  pub took : List Message
  pub gave : List Message
  pub input : received_new ≡ received_old ++ took
  pub output : sent_new ≡ sent_old ++ gave
  pub seen_taken : IsEnded took ⊎ (seen ≡ [])
  pub stage : IsStageOver lanes tool end took gave

-- over these ring ends, which came back
abbrev pub IsToolRun : ℕ → Tool → Receiver → Sender → StageDone → Type 0
IsToolRun lanes tool input output done =
    SameReceiver input done.input × SameSender output done.output
    × HasRunTool lanes tool done.end (received input) (received done.input) (known_items done.input) (sent output)
    (sent done.output)

-- a tool has run over several lanes, between these ring ends, which came back
abbrev pub IsLanesRun : Tool → Receiver → Sender → StageDone → Type 0
IsLanesRun tool input output done =
    SameReceiver input done.input × SameSender output done.output
    × HasRunLanes tool done.end (received input) (received done.input) (known_items done.input) (sent output)
    (sent done.output)

-- what the tool works over: one stage, or the rings of its lanes
abbrev pub IsPlan : ℕ → Tool → Plan → Type 0
IsPlan lanes tool Stage = RunsInLanes lanes tool → ⊥
IsPlan lanes tool (Lanes rings notify notified) = RunsInLanes lanes tool × AreLaneRings rings

-- ---- all of them

-- the stages of a chain, by the messages that its two outer rings had passed before and have passed now
pub record HasRunStages (lanes : ℕ) (tools : List Tool) (ends : List StageEnd) (links : List Link)
    (received_old received_new sent_old sent_new : List Message) : Type 0 where
  pub took : List Message
  pub gave : List Message
  pub input : received_new ≡ received_old ++ took
  pub output : sent_new ≡ sent_old ++ gave
  pub stages : AreStages lanes tools ends links took gave

-- the stages of a chain between these ring ends, which came back; the lists still have so much room
pub record HasRunBetween (lanes : ℕ) (tools : List Tool) (links_reserved ends_reserved : ℕ) (input : Receiver)
    (output : Sender) (done : ChainDone) : Type 0 where
  pub same_input : SameReceiver input done.input
  pub same_output : SameSender output done.output
  pub ran : HasRunStages lanes tools done.ends.items done.links.items (received input) (received done.input)
      (sent output) (sent done.output)
  pub for_links : vec_capacity done.links ≡ links_reserved
  pub for_ends : vec_capacity done.ends ≡ ends_reserved

-- ---- before a chain has started

-- two lists without members have room for the links and the ends of so many tools
pub record IsReserved (count : ℕ) (links : List Link) (links_reserved : ℕ) (ends : List StageEnd)
    (ends_reserved : ℕ) : Type 0 where
  pub no_links : links ≡ []
  pub no_ends : ends ≡ []
  pub for_links : count ≤ links_reserved
  pub for_ends : count ≤ ends_reserved
