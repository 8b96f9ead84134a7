-- What comes of a tool's threads, and of what is done beside them.
use Rattle.pnm_flow.proofs.Words.{◌≡◌, ℕ, List, [], ◌∷◌, ◌∙◌, length, Option, Some, None, inl, sym, ap, subst, IfSome, Vec, Tool, Sender, Receiver, StageDone}
use Rattle.pnm_flow.proofs.Words.{Plan, Lanes, OuterRingEnds, LanesDone, LaneRingEnds, LaneRings, Message, sent, received, known_items, SameSender, HasRunStage}
use Rattle.pnm_flow.proofs.Words.{same_output, AreLanesRun, HaveDealtAndGathered, HaveRun, IsLaneRun, RunsInLanes, IsPlan, IsToolRun, IsLanesRun}
use Rattle.std.specs.Prelude.{vec_capacity}

-- what threads, and what was done beside them, came back with
pub came_so : {B : Type 0} (P : B → Type 0) (result : Option B) (b : B) → IfSome result P → result ≡ Some b → P b
came_so {B = B} P result b has is = subst (λ (x : Option B). IfSome x P) is has

-- a tool that has run over several lanes
lanes_ran : (lanes : ℕ) (tool : Tool) (input : Receiver) (output : Sender) (done : StageDone) → RunsInLanes lanes tool
    → IsLanesRun tool input output done → IsToolRun lanes tool input output done
lanes_ran lanes tool input output done several run = (
  run.0,
  run.1,
  record {
    took = run.2.took;
    gave = run.2.gave;
    input = run.2.input;
    output = run.2.output;
    seen_taken = run.2.seen_taken;
    stage = inl (several, run.2.stage);
  },
)

-- its threads came back
pub lanes_came_back : (lanes : ℕ) (tool : Tool) (plan : Plan) (rings : LaneRings) (notify : Sender) (notified : Receiver) (input : Receiver) (output : Sender)
    (result : Option StageDone) (done : StageDone)
    → IsPlan lanes tool plan → plan ≡ Lanes rings notify notified → IfSome result (IsLanesRun tool input output) → result ≡ Some done
    → IsToolRun lanes tool input output done
lanes_came_back lanes tool plan rings notify notified input output result done over is has came =
    lanes_ran lanes tool input output done (subst (IsPlan lanes tool) is over).0
    (came_so (IsLanesRun tool input output) result done has came)

-- a lane whose sending end has its home has run as one whose end hasn't
pub ran_from_home : (tool : Tool) (input : Receiver) (before output : Sender) (done : StageDone) → SameSender before output → sent output ≡ sent before
    → IsLaneRun tool input output done → IsLaneRun tool input before done
ran_from_home tool input before output done same as_sent run = (
  run.0,
  same_output before output done.output same run.1,
  subst (λ (l : List Message). HasRunStage tool done.end (received input) (received done.input) (known_items done.input) l (sent done.output)) as_sent run.2,
)

-- the threads around lanes came back, of which none is left
pub none_left : {B : Type 0} (tool : Tool) (lanes : List LaneRingEnds) (outer : OuterRingEnds) (reserved : Vec StageDone) (result : Option (LanesDone × B))
    → length lanes ≡ 0 → reserved.items ≡ [] → IfSome result (λ r. HaveDealtAndGathered outer reserved r.0)
    → IfSome result (λ r. HaveRun tool lanes outer (vec_capacity reserved) r.0)
none_left tool (x ∷ lanes) outer reserved result none empty run = absurd cc
none_left tool [] outer reserved None none empty run = tt
none_left tool [] outer reserved (Some (done, b)) none empty run = record {
  input = run.0.0;
  dealt = run.0.1;
  lanes_run = subst (AreLanesRun tool []) (sym (ap (λ (v : Vec StageDone). v.items) run.2 ∙ empty)) tt;
  inputs = run.1.0;
  output = run.1.1;
  gathered = run.1.2;
  for_lanes = ap (λ (v : Vec StageDone). vec_capacity v) run.2;
}
