-- What the parts of a stage's work have received and sent.
use Rattle.std.specs.Prelude.{◌≡◌, ◌⊎◌, Bool, true, false, List, [], ◌∷◌, ◌++◌, Option}
use Rattle.pnm_image.specs.declared.message.Message.{Message}
use Rattle.pnm_image.specs.declared.message.Message.TheVariants.{Stop}
use Rattle.pnm_tools.specs.declared.fault.ToolFault.{ToolFault}
use Rattle.pnm_tools.specs.declared.tool.Tool.{Tool}
use Rattle.pnm_tools.specs.Answers.{Answers}
use Rattle.pnm_image.specs.declared.message.Ending.{Ending}
use Rattle.pnm_image.specs.declared.message.Ending.TheVariants.{More}
use Rattle.pnm_image.specs.Messages.{EndsBy}
use Rattle.pnm_tools.specs.declared.fused_filter.FusedFilter.{FusedFilter}
use Rattle.pnm_stages.specs.declared.stage.StageEnd.{StageEnd}
use Rattle.pnm_stages.specs.declared.stage.StageEnd.TheVariants.{Fault, PeerGone}
use Rattle.pnm_stages.specs.Rings.{HasDrainedAfter}
use Rattle.pnm_tools.specs.FusedFilters.{FilterAt, FilterBusy}

-- what was given answers a prefix of what was received
pub record HasAnsweredPart (tool : Tool) (received given : List Message) : Type 0 where
  pub accepted : List Message
  pub rest : List Message
  pub parts : received ≡ accepted ++ rest
  pub answers : Answers tool accepted given

-- a tool has sent answers: all that was due, or until the other end was seen dropped
pub record HasSentAnswers {F : Type 0} (at : F → Tool → List Message → List Message → Type 0) (all_given : F → Bool)
    (stopped : F → Option ToolFault) (all : Bool) (old new : FusedFilter F) (sent_old sent_new : List Message)
    : Type 0 where
  pub more : List Message
  pub added : sent_new ≡ sent_old ++ more
  pub full : all ≡ true → (tool : Tool) (l g : List Message) → FilterBusy at stopped old tool l g
      → FilterAt at all_given stopped new tool l (g ++ more)
  pub part : (tool : Tool) (l g : List Message) → FilterBusy at stopped old tool l g
      → HasAnsweredPart tool l (g ++ more)

-- a tool was passed these messages and its answers were sent: all of them, or until the other end was seen dropped
pub record HasPassed {F : Type 0} (at : F → Tool → List Message → List Message → Type 0) (all_given : F → Bool)
    (stopped : F → Option ToolFault) (all : Bool) (old new : FusedFilter F) (passed sent_old sent_new : List Message)
    : Type 0 where
  pub more : List Message
  pub added : sent_new ≡ sent_old ++ more
  pub full : all ≡ true → (tool : Tool) (l g : List Message) → EndsBy More l
      → FilterAt at all_given stopped old tool l g
      → FilterAt at all_given stopped new tool (l ++ passed) (g ++ more)
  pub part : (tool : Tool) (l g : List Message) → EndsBy More l → FilterAt at all_given stopped old tool l g
      → HasAnsweredPart tool (l ++ passed) (g ++ more)

-- a stage was broken off after a message with this ending: Stop was sent and the input was drained; or Stop wasn't
-- sent, or the input wasn't drained, since the other end of a ring was seen dropped
abbrev pub HasBrokenOffAfter : ToolFault → Ending → StageEnd → List Message → List Message → List Message → List Message
    → List Message → Type 0
HasBrokenOffAfter fault ending end received_old received_new seen sent_old sent_new =
    ((end ≡ Fault fault) × (sent_new ≡ sent_old ++ Stop ∷ [])
    × HasDrainedAfter ending true received_old received_new seen)
    ⊎ ((end ≡ PeerGone) × (sent_new ≡ sent_old ++ Stop ∷ [])
    × HasDrainedAfter ending false received_old received_new seen)
    ⊎ ((end ≡ PeerGone) × (sent_new ≡ sent_old)
    × ((drained : Bool) × HasDrainedAfter ending drained received_old received_new seen))
