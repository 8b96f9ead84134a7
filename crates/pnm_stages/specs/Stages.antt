-- What a stage has received and sent once it has ended: a tool between two rings, in a thread of its own.
use Rattle.std.specs.Prelude.{◌≡◌, ◌⊎◌, List, [], ◌∷◌, ◌++◌}
use Rattle.std.specs.List.{AllByRecursion}
use Rattle.pnm_image.specs.declared.message.Message.{Message}
use Rattle.pnm_image.specs.declared.message.Message.TheVariants.{Stop}
use Rattle.pnm_image.specs.Images.{Image, messages_of_stream}
use Rattle.pnm_image.specs.Messages.{IsMessage, EndsBy}
use Rattle.pnm_image.specs.Places.{IsLawful}
use Rattle.pnm_image.specs.Completion.{IsStreamOf}
use Rattle.pnm_tools.specs.declared.fault.ToolFault.{ToolFault}
use Rattle.pnm_tools.specs.declared.tool.Tool.{Tool}
use Rattle.pnm_image.specs.declared.message.Ending.TheVariants.{More, BrokenOff}
use Rattle.pnm_tools.specs.Answers.{AnswersInFull, AreResults}
use Rattle.pnm_tools.specs.ChainAnswers.{HasRefused}
use Rattle.pnm_tools.specs.Tools.{output_due}
use Rattle.pnm_stages.specs.declared.stage.StageEnd.{StageEnd}
use Rattle.pnm_stages.specs.declared.stage.StageEnd.TheVariants.{Well, Broken, Fault, PeerGone}
use Rattle.pnm_stages.specs.Prefixes.{IsPrefixOfDue}
use Rattle.pnm_stages.specs.Rings.{IsEnded, EndsAtMostOnce}

-- ---- how it ended

-- a whole stream was received, and the stream of its results was sent
pub record HasEndedWell (tool : Tool) (l g : List Message) : Type 0 where
  pub images : List Image
  pub results : List Image
  pub stream : IsStreamOf l images
  pub made : AreResults tool images results
  pub answer : g ≡ messages_of_stream results
  pub full : AnswersInFull tool l g

-- the stream was broken off, and so was its full answer
pub record HasBrokenOff (tool : Tool) (l g : List Message) : Type 0 where
  pub lawful : IsLawful l
  pub ends : EndsBy BrokenOff l
  pub full : AnswersInFull tool l g

-- the tool refused: what it had given was sent, and then Stop. What was received is what the tool accepted, the message
-- that it refused, unless memory ran out at its start or at an answer, and what was dropped after that.
pub record HasFailed (tool : Tool) (fault : ToolFault) (l g : List Message) : Type 0 where
  pub given : List Message
  pub refused : HasRefused tool fault l given
  pub unbroken : EndsBy More given
  pub answer : g ≡ given ++ Stop ∷ []
  pub ends : IsEnded l

-- by its end; where the other end of a ring was seen dropped, no more is known than however it ended
abbrev pub HasEndedSo : Tool → StageEnd → List Message → List Message → Type 0
HasEndedSo tool Well l g = HasEndedWell tool l g
HasEndedSo tool Broken l g = HasBrokenOff tool l g
HasEndedSo tool (Fault fault) l g = HasFailed tool fault l g
HasEndedSo tool PeerGone l g = Unit {0}

-- ---- however it ended

-- the messages that a stage has received and sent
pub record IsStage (tool : Tool) (end : StageEnd) (l g : List Message) : Type 0 where
  pub ended : HasEndedSo tool end l g
  pub messages : AllByRecursion IsMessage l
  pub once : EndsAtMostOnce l
  pub due : IsPrefixOfDue (output_due tool) l g

-- a stage has ended so, by the messages that its two rings had passed before and have passed now, and those of the
-- first that its end has seen and not received: none, or the end of the stream was received
pub record HasRunStage (tool : Tool) (end : StageEnd)
    (received_old received_new seen sent_old sent_new : List Message) : Type 0 where
  pub took : List Message
  pub gave : List Message
  pub input : received_new ≡ received_old ++ took
  pub output : sent_new ≡ sent_old ++ gave
  pub seen_taken : IsEnded took ⊎ (seen ≡ [])
  pub stage : IsStage tool end took gave
