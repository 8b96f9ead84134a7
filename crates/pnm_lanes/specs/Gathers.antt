-- What the gatherer of lanes has received and sent once it has ended: the lanes' messages, put together again.
use Rattle.std.specs.Prelude.{◌≡◌, ◌⊎◌, ◌<◌, ℕ, zero, suc, List, [], ◌∷◌, ◌++◌}
use Rattle.std.specs.List.{AllByRecursion}
use Rattle.pnm_stages.specs.declared.receiver.Receiver.{Receiver}
use Rattle.pnm_stages.specs.Rings.{SameReceiver}
use Rattle.pnm_image.specs.declared.message.Message.{Message}
use Rattle.pnm_image.specs.declared.message.Message.TheVariants.{Begin, Row, ImageEnd, StreamEnd, Stop}
use Rattle.pnm_image.specs.Completion.{IsPrefixOf}
use Rattle.pnm_image.specs.Images.{Image, AreImages, messages_of_stream}
use Rattle.pnm_image.specs.Messages.{IsMessage, without_stop, EndsBy}
use Rattle.pnm_image.specs.Places.{IsLawful}
use Rattle.pnm_tools.specs.declared.fault.ToolFault.TheVariants.{OutOfOrder, Memory}
use Rattle.pnm_image.specs.declared.message.Ending.TheVariants.{More, Whole, BrokenOff}
use Rattle.pnm_tools.specs.Dealing.{dealt}
use Rattle.pnm_stages.specs.declared.stage.StageEnd.{StageEnd}
use Rattle.pnm_stages.specs.declared.stage.StageEnd.TheVariants.{Well, Broken, Fault, PeerGone}
use Rattle.pnm_stages.specs.Rings.{IsEnded, EndsAtMostOnce}

-- ---- lists of ring ends, one for each lane

-- what has passed over the ring of a lane, or was seen in it; nothing where there is no such lane
abbrev pub at_lane : {X : Type 0} → (X → List Message) → List X → ℕ → List Message
at_lane of [] lane = []
at_lane of (end ∷ ends) zero = of end
at_lane of (end ∷ ends) (suc lane) = at_lane of ends lane

-- the ends of the same rings, in the same order
abbrev pub AreSameInputs : List Receiver → List Receiver → Type 0
AreSameInputs [] [] = Unit {0}
AreSameInputs [] (new ∷ news) = ⊥
AreSameInputs (old ∷ olds) [] = ⊥
AreSameInputs (old ∷ olds) (new ∷ news) = SameReceiver old new × AreSameInputs olds news

-- ---- how it ended

-- the messages that were sent go on, and then Stop
abbrev pub IsStopped : List Message → Type 0
IsStopped gave = (given : List Message) × (gave ≡ given ++ Stop ∷ []) × EndsBy More given

-- by its end. Well: a whole stream was sent, and each lane gave its part of it. Broken: each lane has ended, and one of
-- them by Stop. Fault: each lane has ended. Where the other end of a ring was seen dropped, no more is known than
-- however it ended.
abbrev pub HasPassedSo : StageEnd → ℕ → (ℕ → List Message) → List Message → Type 0
HasPassedSo Well lanes took gave = EndsBy Whole gave × ((lane : ℕ) → lane < lanes → took lane ≡ dealt lane lanes gave)
HasPassedSo Broken lanes took gave = ((lane : ℕ) → lane < lanes → IsEnded (took lane))
    × ((lane : ℕ) × (lane < lanes) × EndsBy BrokenOff (took lane)) × IsStopped gave
HasPassedSo (Fault fault) lanes took gave = ((fault ≡ OutOfOrder) ⊎ (fault ≡ Memory))
    × ((lane : ℕ) → lane < lanes → IsEnded (took lane)) × IsStopped gave
HasPassedSo PeerGone lanes took gave = Unit {0}

-- ---- lanes to which the messages of images were dealt

-- each lane gave a prefix of its part of the stream of these images, but for a last Stop
pub record AreDealt (is : List Image) (lanes : ℕ) (took : ℕ → List Message) : Type 0 where
  pub images : AreImages is
  pub prefixes : (lane : ℕ) → lane < lanes
      → IsPrefixOf (without_stop (took lane)) (dealt lane lanes (messages_of_stream is))

-- a message that begins or ends an image
abbrev pub BeginsOrEnds : Message → Type 0
BeginsOrEnds (Begin head) = Unit {0}
BeginsOrEnds (Row row) = ⊥
BeginsOrEnds ImageEnd = Unit {0}
BeginsOrEnds StreamEnd = ⊥
BeginsOrEnds Stop = ⊥

-- the beginning and the end of each image that all lanes gave were sent, with all that comes before them
abbrev pub HasSentAll : List Image → ℕ → (ℕ → List Message) → List Message → Type 0
HasSentAll is lanes took gave =
    (prefix : List Message) (m : Message) → BeginsOrEnds m → IsPrefixOf (prefix ++ m ∷ []) (messages_of_stream is)
    → ((lane : ℕ) → lane < lanes → IsPrefixOf (dealt lane lanes (prefix ++ m ∷ [])) (took lane))
    → IsPrefixOf (prefix ++ m ∷ []) gave

-- the only fault is want of memory then. Well: the stream of these images was sent. Broken: all that all lanes gave
-- was.
abbrev pub HasGatheredSo : StageEnd → List Image → ℕ → (ℕ → List Message) → List Message → Type 0
HasGatheredSo Well is lanes took gave = gave ≡ messages_of_stream is
HasGatheredSo Broken is lanes took gave = HasSentAll is lanes took gave
HasGatheredSo (Fault fault) is lanes took gave = fault ≡ Memory
HasGatheredSo PeerGone is lanes took gave = Unit {0}

pub record HasGatheredImages (end : StageEnd) (is : List Image) (lanes : ℕ) (took : ℕ → List Message)
    (gave : List Message) : Type 0 where
  pub prefix : IsPrefixOf (without_stop gave) (messages_of_stream is)
  pub so : HasGatheredSo end is lanes took gave

-- ---- however it ended

-- what was received of the lanes are messages of a program, of which at most the last ends the stream. What was sent is
-- lawful: each lane gave its part of it, and gave the end of the stream where that was sent.
pub record IsGathered (end : StageEnd) (lanes : ℕ) (took : ℕ → List Message) (gave : List Message) : Type 0 where
  pub ended : HasPassedSo end lanes took gave
  pub messages : (lane : ℕ) → lane < lanes → AllByRecursion IsMessage (took lane)
  pub once : (lane : ℕ) → lane < lanes → EndsAtMostOnce (took lane)
  pub lawful : IsLawful gave
  pub parts : (lane : ℕ) → lane < lanes → IsPrefixOf (dealt lane lanes (without_stop gave)) (took lane)
  pub whole : EndsBy Whole gave → (lane : ℕ) → lane < lanes → EndsBy Whole (took lane)
  pub images : (is : List Image) → AreDealt is lanes took → HasGatheredImages end is lanes took gave

-- a gatherer has ended so, by the messages that its rings had passed before and have passed now, and those of the
-- lanes' rings that it has seen and not received: of each lane none, or it has ended
pub record HasGathered (end : StageEnd) (lanes : ℕ) (received_old received_new seen : ℕ → List Message)
    (sent_old sent_new : List Message) : Type 0 where
  pub took : ℕ → List Message
  pub gave : List Message
  pub inputs : (lane : ℕ) → lane < lanes → received_new lane ≡ received_old lane ++ took lane
  pub output : sent_new ≡ sent_old ++ gave
  pub seen_taken : (lane : ℕ) → lane < lanes → IsEnded (took lane) ⊎ (seen lane ≡ [])
  pub gathered : IsGathered end lanes took gave
