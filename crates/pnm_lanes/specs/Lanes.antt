-- What a row-wise tool over several lanes has received and sent once it has ended: a thread that deals rows to the
-- lanes, a thread for each lane, and one that gathers the rows that they make.
use Rattle.std.specs.Prelude.{◌≡◌, ◌≢◌, ◌⊎◌, ◌<◌, ℕ, true, List, ◌∷◌, ◌++◌, Err}
use Rattle.std.specs.List.{AllByRecursion}
use Rattle.pnm_image.specs.declared.message.Message.{Message}
use Rattle.pnm_image.specs.declared.message.Message.TheVariants.{Begin}
use Rattle.pnm_image.specs.Completion.{IsPrefixOf}
use Rattle.pnm_image.specs.Heads.{HeadValue}
use Rattle.pnm_image.specs.Messages.{IsMessage}
use Rattle.pnm_image.specs.Places.{IsLawful}
use Rattle.pnm_tools.specs.declared.fault.ToolFault.{ToolFault}
use Rattle.pnm_tools.specs.declared.fault.ToolFault.TheVariants.{CutOutside, ChannelOutside, TooLarge, OutOfOrder}
use Rattle.pnm_tools.specs.declared.fault.ToolFault.TheVariants.{Memory}
use Rattle.pnm_tools.specs.declared.tool.Tool.{Tool}
use Rattle.pnm_tools.specs.Tools.{IsLawfulTool, is_row_wise, AreTaken, result_head, output_due}
use Rattle.pnm_stages.specs.declared.stage.StageEnd.{StageEnd}
use Rattle.pnm_stages.specs.declared.stage.StageEnd.TheVariants.{Well, Broken, Fault, PeerGone}
use Rattle.pnm_stages.specs.Prefixes.{IsPrefixOfDue}
use Rattle.pnm_stages.specs.Rings.{IsEnded, EndsAtMostOnce}
use Rattle.pnm_stages.specs.Stages.{HasEndedWell, HasBrokenOff, IsStage}
use Rattle.pnm_lanes.specs.Deals.{HasReceivedSo, HasSentSo, IsPrefixOfDealt}
use Rattle.pnm_lanes.specs.Gathers.{IsGathered, IsStopped}

-- ---- how it ended

-- the tool refuses a head of these messages so, and takes those before it
pub record IsFirstRefusedHead (tool : Tool) (fault : ToolFault) (l : List Message) : Type 0 where
  pub prefix : List Message
  pub head : HeadValue
  pub rest : List Message
  pub parts : l ≡ prefix ++ Begin head ∷ rest
  pub taken : AreTaken tool prefix
  pub refused : result_head tool head ≡ Err fault

-- what a fault says of the messages that were received: the tool's refusal comes only where these are lawful, since the
-- dealer's fault comes before the lanes'
abbrev pub IsFaultOf : Tool → ToolFault → List Message → Type 0
IsFaultOf tool CutOutside l = ⊥
IsFaultOf tool ChannelOutside l = IsLawful l × IsFirstRefusedHead tool ChannelOutside l
IsFaultOf tool TooLarge l = IsLawful l × IsFirstRefusedHead tool TooLarge l
IsFaultOf tool OutOfOrder l = IsLawful l → ⊥
IsFaultOf tool Memory l = Unit {0}

-- messages that don't end the stream were sent, and then Stop
pub record HasFailedInLanes (tool : Tool) (fault : ToolFault) (l g : List Message) : Type 0 where
  pub of_input : IsFaultOf tool fault l
  pub answer : IsStopped g
  pub ends : IsEnded l

-- by its end: well and broken off as over one lane. Where the other end of a ring was seen dropped, no more is known
-- than however it ended.
abbrev pub HaveLanesEndedSo : Tool → StageEnd → List Message → List Message → Type 0
HaveLanesEndedSo tool Well l g = HasEndedWell tool l g
HaveLanesEndedSo tool Broken l g = HasBrokenOff tool l g
HaveLanesEndedSo tool (Fault fault) l g = HasFailedInLanes tool fault l g
HaveLanesEndedSo tool PeerGone l g = Unit {0}

-- the messages that a tool over several lanes has received and sent
pub record IsStageOfLanes (tool : Tool) (end : StageEnd) (l g : List Message) : Type 0 where
  pub ended : HaveLanesEndedSo tool end l g
  pub messages : AllByRecursion IsMessage l
  pub once : EndsAtMostOnce l
  pub due : IsPrefixOfDue (output_due tool) l g

-- ---- the parts

-- a thread that ended well, or was broken off
abbrev pub IsFine : StageEnd → Type 0
IsFine Well = Unit {0}
IsFine Broken = Unit {0}
IsFine (Fault fault) = ⊥
IsFine PeerGone = ⊥

-- none of them saw the other end of a ring dropped
abbrev pub AreThere : ℕ → StageEnd → (ℕ → StageEnd) → StageEnd → Type 0
AreThere lanes dealer lane_ends gatherer = (dealer ≢ PeerGone) × ((lane : ℕ) → lane < lanes → lane_ends lane ≢ PeerGone)
    × (gatherer ≢ PeerGone)

-- the first fault in this order: the dealer's, the lanes' from the first on, the gatherer's
abbrev pub IsFirstOfThreads : ℕ → StageEnd → (ℕ → StageEnd) → StageEnd → ToolFault → Type 0
IsFirstOfThreads lanes dealer lane_ends gatherer fault =
    (dealer ≡ Fault fault)
    ⊎ (IsFine dealer
    × ((lane : ℕ) × (lane < lanes) × (lane_ends lane ≡ Fault fault)
    × ((before : ℕ) → before < lane → IsFine (lane_ends before))))
    ⊎ (IsFine dealer × ((lane : ℕ) → lane < lanes → IsFine (lane_ends lane)) × (gatherer ≡ Fault fault))

-- the end of all by the ends of the dealer, of the lanes and of the gatherer: the first fault in their order, or the
-- gatherer's end where none has one
abbrev pub IsEndOfAll : ℕ → StageEnd → (ℕ → StageEnd) → StageEnd → StageEnd → Type 0
IsEndOfAll lanes dealer lane_ends gatherer Well = (gatherer ≡ Well) × IsFine dealer
    × ((lane : ℕ) → lane < lanes → IsFine (lane_ends lane))
IsEndOfAll lanes dealer lane_ends gatherer Broken = (gatherer ≡ Broken) × IsFine dealer
    × ((lane : ℕ) → lane < lanes → IsFine (lane_ends lane))
IsEndOfAll lanes dealer lane_ends gatherer (Fault fault) = IsFirstOfThreads lanes dealer lane_ends gatherer fault
    × AreThere lanes dealer lane_ends gatherer
IsEndOfAll lanes dealer lane_ends gatherer PeerGone = Unit {0}

-- what the dealer received, what it sent to each lane and each lane received and sent, and what the gatherer received
-- of each and sent, by their ends
pub record HaveThreadsRun (tool : Tool) (lanes : ℕ) (dealer : StageEnd) (lane_ends : ℕ → StageEnd)
    (gatherer : StageEnd) (l : List Message) (dealt_to received_by sent_by gathered_from : ℕ → List Message)
    (g : List Message) : Type 0 where
  pub messages : AllByRecursion IsMessage l
  pub once : EndsAtMostOnce l
  pub input : HasReceivedSo dealer l
  pub dealt : (lane : ℕ) → lane < lanes → HasSentSo dealer lane lanes l (dealt_to lane)
  pub prefix : (lane : ℕ) → lane < lanes → IsPrefixOfDealt lane lanes l (dealt_to lane)
  pub received : (lane : ℕ) → lane < lanes → IsPrefixOf (received_by lane) (dealt_to lane)
  pub stages : (lane : ℕ) → lane < lanes → IsStage tool (lane_ends lane) (received_by lane) (sent_by lane)
  pub taken : (lane : ℕ) → lane < lanes → IsPrefixOf (gathered_from lane) (sent_by lane)
  pub gathered : IsGathered gatherer lanes gathered_from g

-- threads of a dealer, of 1 or more lanes and of a gatherer have run together, and this is the end of all
pub record HaveThreadsEnded (tool : Tool) (end : StageEnd) (l g : List Message) : Type 0 where
  pub lanes : ℕ
  pub some : 0 < lanes
  pub dealer : StageEnd
  pub lane_ends : ℕ → StageEnd
  pub gatherer : StageEnd
  pub dealt_to : ℕ → List Message
  pub received_by : ℕ → List Message
  pub sent_by : ℕ → List Message
  pub gathered_from : ℕ → List Message
  pub together : HaveThreadsRun tool lanes dealer lane_ends gatherer l dealt_to received_by sent_by gathered_from g
  pub end_of_all : IsEndOfAll lanes dealer lane_ends gatherer end

-- ---- laws

-- together they are a stage of the tool
abbrev pub LanesAreAStage : Type 0
LanesAreAStage = (tool : Tool) (lanes : ℕ) (dealer : StageEnd) (lane_ends : ℕ → StageEnd) (gatherer end : StageEnd)
    (l g : List Message) (dealt_to received_by sent_by gathered_from : ℕ → List Message)
    → HaveThreadsRun tool lanes dealer lane_ends gatherer l dealt_to received_by sent_by gathered_from g
    → 0 < lanes → IsLawfulTool tool → is_row_wise tool ≡ true → IsEndOfAll lanes dealer lane_ends gatherer end
    → IsStageOfLanes tool end l g
