-- What the stages of a chain in one thread have received and given, each a tool at work on what the one before it gave.
-- After its refusal a stage gives nothing more, not even Stop.
use Rattle.std.specs.Prelude.{◌≡◌, ◌⊎◌, ◌<◌, ◌+◌, ℕ, true, List, [], ◌∷◌, ◌++◌, Option, Some, None}
use Rattle.std.specs.List.{AllByRecursion}
use Rattle.pnm_image.specs.declared.message.Message.{Message}
use Rattle.pnm_image.specs.declared.message.Message.TheVariants.{Begin, Row, ImageEnd, StreamEnd, Stop}
use Rattle.pnm_image.specs.Messages.{IsMessage, EndsBy}
use Rattle.pnm_image.specs.Places.{IsLawful}
use Rattle.pnm_tools.specs.declared.fault.ToolFault.{ToolFault}
use Rattle.pnm_tools.specs.declared.fault.ToolFault.TheVariants.{Memory}
use Rattle.pnm_tools.specs.declared.tool.Tool.{Tool}
use Rattle.pnm_image.specs.declared.message.Ending.TheVariants.{More}
use Rattle.pnm_tools.specs.Answers.{Answers, AnswersInFull, RefusesFirst}
use Rattle.pnm_tools.specs.Tools.{AreTaken}

-- messages of images that have rows, without Stop
abbrev pub IsSound : Message → Type 0
IsSound (Begin head) = 0 < head.shape.height
IsSound (Row row) = Unit {0}
IsSound ImageEnd = Unit {0}
IsSound StreamEnd = Unit {0}
IsSound Stop = ⊥

-- messages as they come from files: in order, of images that have rows, without Stop
pub record AreSound (l : List Message) : Type 0 where
  pub lawful : IsLawful l
  pub messages : AllByRecursion IsMessage l
  pub sound : AllByRecursion IsSound l

-- the next message is refused so
abbrev pub IsRefusedNext : Tool → ToolFault → List Message → List Message → Type 0
IsRefusedNext tool fault accepted rest = RefusesFirst true tool accepted rest fault

-- a tool that refused: it answered what it accepted, in full unless memory ran out, and took no more
pub record HasRefused (tool : Tool) (fault : ToolFault) (received given : List Message) : Type 0 where
  pub accepted : List Message
  pub rest : List Message
  pub parts : received ≡ accepted ++ rest
  pub taken : AreTaken tool accepted
  pub answers : Answers tool accepted given
  pub refused : ((fault ≡ Memory) × EndsBy More given)
      ⊎ (AnswersInFull tool accepted given × IsRefusedNext tool fault accepted rest)

-- what a stage has given for what it received, by its fault
abbrev pub HasAnswered : Tool → Option ToolFault → List Message → List Message → Type 0
HasAnswered tool None received given = AnswersInFull tool received given
HasAnswered tool (Some fault) received given = HasRefused tool fault received given

-- what a chain of stages has given for what the first of them received
abbrev pub HaveAnswered : List Tool → List (Option ToolFault) → List Message → List Message → Type 0
HaveAnswered [] [] received given = given ≡ received
HaveAnswered [] (fault ∷ faults) received given = ⊥
HaveAnswered (tool ∷ tools) [] received given = ⊥
HaveAnswered (tool ∷ tools) (fault ∷ faults) received given = (middle : List Message)
    × HasAnswered tool fault received middle × HaveAnswered tools faults middle given

-- no stage has refused
abbrev pub AreWell : List (Option ToolFault) → Type 0
AreWell [] = Unit {0}
AreWell (None ∷ faults) = AreWell faults
AreWell (Some fault ∷ faults) = ⊥

-- the first fault of stages, whose numbers begin here
abbrev pub IsFirstFault : ℕ → List (Option ToolFault) → ℕ → ToolFault → Type 0
IsFirstFault from [] number fault = ⊥
IsFirstFault from (None ∷ faults) number fault = IsFirstFault (from + 1) faults number fault
IsFirstFault from (Some other ∷ faults) number fault = (number ≡ from) × (fault ≡ other)
