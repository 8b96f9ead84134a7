-- What a chain of tools has received and sent once all have ended: each in a thread of its own, or over lanes, with a
-- ring between it and the next.
use Rattle.std.specs.Prelude.{◌≡◌, ◌≢◌, ◌⊎◌, ◌<◌, ℕ, ◌+◌, true, length, List, [], ◌∷◌, ◌++◌}
use Rattle.std.specs.List.{AllByRecursion}
use Rattle.pnm_stages.specs.Rings.{sent, received}
use Rattle.pnm_image.specs.declared.message.Message.{Message}
use Rattle.pnm_image.specs.Images.{Image, messages_of_stream}
use Rattle.pnm_image.specs.Completion.{IsStreamOf}
use Rattle.pnm_tools.specs.declared.tool.Tool.{Tool}
use Rattle.pnm_tools.specs.Chains.{AreResultsInTurn, due_in_turn}
use Rattle.pnm_tools.specs.Tools.{is_row_wise}
use Rattle.pnm_flow.specs.declared.chain.Link.{Link}
use Rattle.pnm_stages.specs.declared.stage.StageDone.{StageDone}
use Rattle.pnm_stages.specs.declared.stage.StageEnd.{StageEnd}
use Rattle.pnm_stages.specs.declared.stage.StageEnd.TheVariants.{Well, PeerGone}
use Rattle.pnm_flow.specs.Links.{IsWhole, IsDrained}
use Rattle.pnm_stages.specs.Prefixes.{IsPrefixOfDue}
use Rattle.pnm_stages.specs.Stages.{IsStage}
use Rattle.pnm_lanes.specs.Lanes.{IsStageOfLanes}

-- ---- one tool

-- the tool runs over several lanes
abbrev pub RunsInLanes : ℕ → Tool → Type 0
RunsInLanes lanes tool = (1 < lanes) × (is_row_wise tool ≡ true)

-- one thing where it does, and another where it doesn't
abbrev pub ByLanes : ℕ → Tool → Type 0 → Type 0 → Type 0
ByLanes lanes tool Several One = (RunsInLanes lanes tool × Several) ⊎ ((RunsInLanes lanes tool → ⊥) × One)

-- what a tool of a chain has received and sent, by its end
abbrev pub IsStageOver : ℕ → Tool → StageEnd → List Message → List Message → Type 0
IsStageOver lanes tool end l g = ByLanes lanes tool (IsStageOfLanes tool end l g) (IsStage tool end l g)

-- ---- all of them

-- the first of these stages saw no neighbour's end dropped
abbrev pub FirstIsThere : List StageEnd → Type 0
FirstIsThere [] = ⊥
FirstIsThere (end ∷ ends) = end ≢ PeerGone

-- each tool has ended so with the messages of its two rings: the first received these, the last sent those, and the
-- ring between a tool and the next is whole, and drained unless one of the two saw a neighbour's end dropped
abbrev pub AreStages : ℕ → List Tool → List StageEnd → List Link → List Message → List Message → Type 0
AreStages lanes [] ends links took gave = ⊥
AreStages lanes (tool ∷ tools) [] links took gave = ⊥
AreStages lanes (tool ∷ tools) (end ∷ ends) [] took gave = (tools ≡ []) × (ends ≡ [])
    × IsStageOver lanes tool end took gave
AreStages lanes (tool ∷ tools) (end ∷ ends) (link ∷ links) took gave =
    IsStageOver lanes tool end took (sent link.producer) × IsWhole link
    × (end ≢ PeerGone → FirstIsThere ends → IsDrained link)
    × AreStages lanes tools ends links (received link.consumer) gave

-- the stream of the chain's results was sent for the stream that was received
pub record HasAnsweredStream (tools : List Tool) (took gave : List Message) : Type 0 where
  pub images : List Image
  pub results : List Image
  pub stream : IsStreamOf took images
  pub made : AreResultsInTurn tools images results
  pub answer : gave ≡ messages_of_stream results

-- a chain has ended so, by the messages that its two outer rings had passed before and have passed now
pub record HasRunChain (lanes : ℕ) (tools : List Tool) (ends : List StageEnd) (links : List Link)
    (received_old received_new sent_old sent_new : List Message) : Type 0 where
  pub took : List Message
  pub gave : List Message
  pub input : received_new ≡ received_old ++ took
  pub output : sent_new ≡ sent_old ++ gave
  -- There is an end for each tool and a link between each two, and each is in its relation.
  pub count : length ends ≡ length tools
  pub between : length links + 1 ≡ length tools
  pub stages : AreStages lanes tools ends links took gave
  -- Where no stage saw a neighbour's end dropped, nothing is left in a ring.
  pub drained : AllByRecursion (λ end. end ≢ PeerGone) ends → AllByRecursion IsDrained links
  -- Where all ended well, the results of all images were sent.
  pub well : AllByRecursion (λ end. end ≡ Well) ends → HasAnsweredStream tools took gave
  -- However they ended, what was sent is a prefix of what is due.
  pub due : IsPrefixOfDue (due_in_turn tools) took gave
