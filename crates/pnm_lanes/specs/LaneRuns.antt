-- What a row-wise tool over several lanes has received and sent once all of its threads have ended.
use Rattle.std.specs.Global.{Vec}
use Rattle.std.specs.Prelude.{◌≡◌, ◌⊎◌, ℕ, List, [], ◌∷◌, ◌++◌, length, vec_capacity}
use Rattle.pnm_stages.specs.declared.sender.Sender.{Sender}
use Rattle.pnm_stages.specs.declared.receiver.Receiver.{Receiver}
use Rattle.pnm_stages.specs.Rings.{sent, received, known_items, SameSender, SameReceiver}
use Rattle.pnm_image.specs.declared.message.Message.{Message}
use Rattle.pnm_tools.specs.declared.tool.Tool.{Tool}
use Rattle.pnm_stages.specs.declared.stage.StageEnd.{StageEnd}
use Rattle.pnm_stages.specs.declared.stage.StageEnd.TheVariants.{Well, Broken, Fault, PeerGone}
use Rattle.pnm_stages.specs.Rings.{IsEnded}
use Rattle.pnm_stages.specs.Stages.{HasRunStage}
use Rattle.pnm_stages.specs.declared.stage.StageDone.{StageDone}
use Rattle.pnm_lanes.specs.declared.dealing.DealDone.{DealDone}
use Rattle.pnm_lanes.specs.declared.gathering.GatherDone.{GatherDone}
use Rattle.pnm_lanes.specs.declared.merging.LanesDone.{LanesDone}
use Rattle.pnm_lanes.specs.declared.lane_rings.LaneRingEnds.{LaneRingEnds}
use Rattle.pnm_lanes.specs.declared.around.OuterRingEnds.{OuterRingEnds}
use Rattle.pnm_lanes.specs.Deals.{HasDealt}
use Rattle.pnm_lanes.specs.Gathers.{at_lane, AreSameInputs, HasGathered}
use Rattle.pnm_lanes.specs.Lanes.{IsStageOfLanes, HaveThreadsEnded}
use Rattle.pnm_lanes.specs.LaneLimits.{IsLaneCount}

-- ---- the end

-- the end of two threads, of which the first comes before the other: that one of them saw the other end of a ring
-- dropped; else the first fault; else the other's end
abbrev pub end_of_both : StageEnd → StageEnd → StageEnd
end_of_both PeerGone other = PeerGone
end_of_both (Fault fault) PeerGone = PeerGone
end_of_both (Fault fault) Well = Fault fault
end_of_both (Fault fault) Broken = Fault fault
end_of_both (Fault fault) (Fault later) = Fault fault
end_of_both Well other = other
end_of_both Broken other = other

-- the end of lanes in their order, the first one before the others, and of the thread behind them
abbrev pub end_of_lanes : List StageDone → StageEnd → StageEnd
end_of_lanes [] gatherer = gatherer
end_of_lanes (lane ∷ lanes) gatherer = end_of_both lane.end (end_of_lanes lanes gatherer)

-- the end of all threads: of the dealer, of the lanes and of the gatherer
abbrev pub end_of_threads : LanesDone → StageEnd
end_of_threads done = end_of_both done.dealt.end (end_of_lanes done.lanes.items done.gathered.end)

-- ---- the run

-- a tool over several lanes has ended so, by the messages that its two outer rings had passed before and have passed
-- now, and those of the first that its end has seen and not received: none, or the end of the stream was received. It
-- is a stage of the tool, and its end is that of its threads, in their order.
pub record HasRunLanes (tool : Tool) (end : StageEnd)
    (received_old received_new seen sent_old sent_new : List Message) : Type 0 where
  pub took : List Message
  pub gave : List Message
  pub input : received_new ≡ received_old ++ took
  pub output : sent_new ≡ sent_old ++ gave
  pub seen_taken : IsEnded took ⊎ (seen ≡ [])
  pub stage : IsStageOfLanes tool end took gave
  pub threads : HaveThreadsEnded tool end took gave

-- ---- its parts

-- a lane has ended
abbrev pub IsLaneRun : Tool → Receiver → Sender → StageDone → Type 0
IsLaneRun tool input output done =
    SameReceiver input done.input × SameSender output done.output
    × HasRunStage tool done.end (received input) (received done.input) (known_items done.input) (sent output)
    (sent done.output)

-- the dealer has ended
abbrev pub IsDealerRun : Receiver → List Sender → DealDone → Type 0
IsDealerRun input outputs done =
    SameReceiver input done.input
    × HasDealt done.end (received input) (received done.input) (known_items done.input) outputs done.outputs.items

-- the gatherer has ended
abbrev pub IsGathererRun : List Receiver → Sender → GatherDone → Type 0
IsGathererRun inputs output done =
    AreSameInputs inputs done.inputs.items × SameSender output done.output
    × HasGathered done.end (length inputs) (at_lane received inputs) (at_lane received done.inputs.items)
    (at_lane known_items done.inputs.items) (sent output) (sent done.output)

-- the dealer and the gatherer have ended, and what is reserved for the lanes is as before
abbrev pub HaveDealtAndGathered : OuterRingEnds → Vec StageDone → LanesDone → Type 0
HaveDealtAndGathered outer reserved done =
    IsDealerRun outer.input outer.outputs.items done.dealt × IsGathererRun outer.inputs.items outer.output done.gathered
    × (done.lanes ≡ reserved)

-- each lane has ended
abbrev pub AreLanesRun : Tool → List LaneRingEnds → List StageDone → Type 0
AreLanesRun tool [] [] = Unit {0}
AreLanesRun tool [] (done ∷ dones) = ⊥
AreLanesRun tool (ends ∷ lanes) [] = ⊥
AreLanesRun tool (ends ∷ lanes) (done ∷ dones) = IsLaneRun tool ends.input ends.output done
    × AreLanesRun tool lanes dones

-- the dealer, these lanes and the gatherer have ended, each over its ring ends; the list of the lanes still has so much
-- room
pub record HaveRun (tool : Tool) (lanes : List LaneRingEnds) (outer : OuterRingEnds) (reserved : ℕ)
    (done : LanesDone) : Type 0 where
  pub input : SameReceiver outer.input done.dealt.input
  pub dealt : HasDealt done.dealt.end (received outer.input) (received done.dealt.input) (known_items done.dealt.input)
      outer.outputs.items done.dealt.outputs.items
  pub lanes_run : AreLanesRun tool lanes done.lanes.items
  pub inputs : AreSameInputs outer.inputs.items done.gathered.inputs.items
  pub output : SameSender outer.output done.gathered.output
  pub gathered : HasGathered done.gathered.end (length outer.inputs.items) (at_lane received outer.inputs.items)
      (at_lane received done.gathered.inputs.items)
      (at_lane known_items done.gathered.inputs.items) (sent outer.output) (sent done.gathered.output)
  pub for_lanes : vec_capacity done.lanes ≡ reserved

-- both threads beside the lanes have as many ring ends, 1 to 8
abbrev pub AreAround : OuterRingEnds → Type 0
AreAround outer = IsLaneCount (length outer.outputs.items) × (length outer.inputs.items ≡ length outer.outputs.items)
