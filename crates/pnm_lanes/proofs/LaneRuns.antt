-- A tool over several lanes is a stage, however it ends.
use Rattle.pnm_lanes.proofs.Words.{◌≡◌, ℕ, ◌<◌, true, List, subst, Message, Tool, IsLawfulTool, is_row_wise, StageEnd, Well, Broken, Fault, PeerGone}
use Rattle.pnm_lanes.proofs.Words.{HaveLanesEndedSo, IsStageOfLanes, IsEndOfAll, HaveThreadsRun}
use Rattle.pnm_lanes.proofs.LaneStages.{together_due}
use Rattle.pnm_lanes.proofs.LaneEnds.{together_well, together_broken}
use Rattle.pnm_lanes.proofs.LaneFaults.{together_failed}

-- ended so
ended_so : {tool : Tool} {lanes : ℕ} {dealer : StageEnd} {e : ℕ → StageEnd} {gatherer : StageEnd} (end : StageEnd) {l g : List Message}
    {d i o r : ℕ → List Message} → HaveThreadsRun tool lanes dealer e gatherer l d i o r g → 0 < lanes → IsLawfulTool tool → is_row_wise tool ≡ true
    → IsEndOfAll lanes dealer e gatherer end → HaveLanesEndedSo tool end l g
ended_so {tool} {lanes} {dealer} {e} Well {l} {g} {d} {i} {o} {r} run some lawful row_wise of_all =
    together_well (subst (λ (x : StageEnd). HaveThreadsRun tool lanes dealer e x l d i o r g) of_all.0 run) some lawful row_wise of_all.1 of_all.2
ended_so {tool} {lanes} {dealer} {e} Broken {l} {g} {d} {i} {o} {r} run some lawful row_wise of_all =
    together_broken (subst (λ (x : StageEnd). HaveThreadsRun tool lanes dealer e x l d i o r g) of_all.0 run) some lawful row_wise of_all.1 of_all.2
ended_so {gatherer} (Fault fault) run some lawful row_wise of_all = together_failed gatherer run fault some lawful row_wise of_all.0 of_all.1
ended_so PeerGone run some lawful row_wise of_all = tt

pub lanes_are_a_stage : (tool : Tool) (lanes : ℕ) (dealer : StageEnd) (e : ℕ → StageEnd) (gatherer end : StageEnd) (l g : List Message)
    (d i o r : ℕ → List Message) → HaveThreadsRun tool lanes dealer e gatherer l d i o r g
    → 0 < lanes → IsLawfulTool tool → is_row_wise tool ≡ true → IsEndOfAll lanes dealer e gatherer end → IsStageOfLanes tool end l g
lanes_are_a_stage tool lanes dealer e gatherer end l g d i o r run some lawful row_wise of_all = record {
  ended = ended_so end run some lawful row_wise of_all;
  messages = run.messages;
  once = run.once;
  due = together_due run some lawful row_wise;
}
