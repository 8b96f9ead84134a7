-- What a thread that deals rows to lanes has received and sent once it has ended.
use Rattle.std.specs.Prelude.{◌≡◌, ◌⊎◌, ℕ, ◌+◌, List, [], ◌∷◌, ◌++◌, length}
use Rattle.std.specs.List.{AllByRecursion}
use Rattle.pnm_stages.specs.declared.sender.Sender.{Sender}
use Rattle.pnm_stages.specs.Rings.{sent, SameSender}
use Rattle.pnm_image.specs.declared.message.Message.{Message}
use Rattle.pnm_image.specs.declared.message.Message.TheVariants.{Stop}
use Rattle.pnm_image.specs.Messages.{IsMessage, without_stop, EndsBy}
use Rattle.pnm_image.specs.Places.{IsLawful}
use Rattle.pnm_image.specs.Completion.{IsPrefixOf}
use Rattle.pnm_tools.specs.declared.fault.ToolFault.{ToolFault}
use Rattle.pnm_tools.specs.declared.fault.ToolFault.TheVariants.{CutOutside, ChannelOutside, TooLarge, OutOfOrder}
use Rattle.pnm_tools.specs.declared.fault.ToolFault.TheVariants.{Memory}
use Rattle.pnm_image.specs.declared.message.Ending.TheVariants.{More, Whole, BrokenOff}
use Rattle.pnm_tools.specs.Dealing.{dealt}
use Rattle.pnm_stages.specs.declared.stage.StageEnd.{StageEnd}
use Rattle.pnm_stages.specs.declared.stage.StageEnd.TheVariants.{Well, Broken, Fault, PeerGone}
use Rattle.pnm_stages.specs.Prefixes.{IsLongestLawfulPrefix}
use Rattle.pnm_stages.specs.Rings.{IsEnded, EndsAtMostOnce}

-- ---- lanes, numbered from 0

-- two lists have as many members, and this holds of each two that stand at one place and of the number of that place,
-- the first having this one
abbrev pub AtEachFrom : {A : Type 0} → (ℕ → A → A → Type 0) → ℕ → List A → List A → Type 0
AtEachFrom P lane [] [] = Unit {0}
AtEachFrom P lane [] (new ∷ news) = ⊥
AtEachFrom P lane (old ∷ olds) [] = ⊥
AtEachFrom P lane (old ∷ olds) (new ∷ news) = P lane old new × AtEachFrom P (lane + 1) olds news

-- this holds of each two and of their number, the first having 0
abbrev pub AtEach : {A : Type 0} → (ℕ → A → A → Type 0) → List A → List A → Type 0
AtEach P olds news = AtEachFrom P 0 olds news

-- ---- how it ended

-- what was received, by the end. Where the other end of a ring was seen dropped, no more is known than however it
-- ended.
abbrev pub HasReceivedSo : StageEnd → List Message → Type 0
HasReceivedSo Well l = IsLawful l × EndsBy Whole l
HasReceivedSo Broken l = IsLawful l × EndsBy BrokenOff l
HasReceivedSo (Fault CutOutside) l = ⊥
HasReceivedSo (Fault ChannelOutside) l = ⊥
HasReceivedSo (Fault TooLarge) l = ⊥
HasReceivedSo (Fault OutOfOrder) l = IsEnded l × (IsLawful l → ⊥)
HasReceivedSo (Fault Memory) l = IsEnded l
HasReceivedSo PeerGone l = Unit {0}

-- all that is dealt of the longest lawful prefix of what was received: what was sent to a lane before a fault, unless
-- there was no memory
abbrev pub IsAllBefore : ToolFault → ℕ → ℕ → List Message → List Message → Type 0
IsAllBefore CutOutside lane lanes l given = ⊥
IsAllBefore ChannelOutside lane lanes l given = ⊥
IsAllBefore TooLarge lane lanes l given = ⊥
IsAllBefore OutOfOrder lane lanes l given =
    (prefix : List Message) × IsLongestLawfulPrefix prefix l × (given ≡ dealt lane lanes prefix)
IsAllBefore Memory lane lanes l given = Unit {0}

-- and what was sent to a lane: all that is dealt to it; or, after a fault, messages that don't end the stream, and Stop
abbrev pub HasSentSo : StageEnd → ℕ → ℕ → List Message → List Message → Type 0
HasSentSo Well lane lanes l g = g ≡ dealt lane lanes l
HasSentSo Broken lane lanes l g = g ≡ dealt lane lanes l
HasSentSo (Fault fault) lane lanes l g =
    (given : List Message) × (g ≡ given ++ Stop ∷ []) × EndsBy More given × IsAllBefore fault lane lanes l given
HasSentSo PeerGone lane lanes l g = Unit {0}

-- ---- however it ended

-- what was sent to a lane is a prefix of what is dealt to it of a lawful prefix of what was received; a last Stop aside
pub record IsPrefixOfDealt (lane lanes : ℕ) (l g : List Message) : Type 0 where
  pub accepted : List Message
  pub rest : List Message
  pub parts : l ≡ accepted ++ rest
  pub lawful : IsLawful accepted
  pub prefix : IsPrefixOf (without_stop g) (dealt lane lanes accepted)

-- what a lane was sent, of so many, where these messages were received
pub record HasLane (end : StageEnd) (lanes : ℕ) (l : List Message) (lane : ℕ) (old new : Sender) : Type 0 where
  pub ring : SameSender old new
  pub gave : List Message
  pub output : sent new ≡ sent old ++ gave
  pub ended : HasSentSo end lane lanes l gave
  pub prefix : IsPrefixOfDealt lane lanes l gave

-- the dealing has ended so, by the messages that the input had passed before and has passed now and those that it has
-- seen and not received, and by the lanes' rings before and now: there are none of these, or the end of the stream was
-- received
pub record HasDealt (end : StageEnd) (received_old received_new seen : List Message)
    (olds news : List Sender) : Type 0 where
  pub took : List Message
  pub input : received_new ≡ received_old ++ took
  pub seen_taken : IsEnded took ⊎ (seen ≡ [])
  pub messages : AllByRecursion IsMessage took
  pub once : EndsAtMostOnce took
  pub ended : HasReceivedSo end took
  pub lanes : AtEach (HasLane end (length olds) took) olds news

-- ---- laws

-- what was sent to a lane is a prefix of what is dealt to it of the longest lawful prefix of what was received
abbrev pub LongestPrefixIsDealt : Type 0
LongestPrefixIsDealt = (lane lanes : ℕ) (l g prefix : List Message)
    → IsPrefixOfDealt lane lanes l g → IsLongestLawfulPrefix prefix l
    → IsPrefixOf (without_stop g) (dealt lane lanes prefix)
