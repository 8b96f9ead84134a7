-- The threads of lanes, one lane more.
use Rattle.pnm_lanes.proofs.Words.{◌≡◌, ℕ, List, [], ◌∷◌, ◌++◌, length, suc, Option, Some, refl, sym, ap, subst, ◌∙◌, IfSome, Vec, Tool, StageDone, LanesDone}
use Rattle.pnm_lanes.proofs.Words.{LaneRingEnds, OuterRingEnds, IsLaneRun, AreLanesRun, HaveRun}
use Rattle.std.specs.Prelude.{vec_capacity}

lanes_run_more : (tool : Tool) (es : List LaneRingEnds) (ds : List StageDone) (e : LaneRingEnds) (d : StageDone) → AreLanesRun tool es ds
    → IsLaneRun tool e.input e.output d → AreLanesRun tool (es ++ e ∷ []) (ds ++ d ∷ [])
lanes_run_more tool [] [] e d run one = (one, tt)
lanes_run_more tool [] (y ∷ ds) e d run one = absurd run
lanes_run_more tool (x ∷ es) [] e d run one = absurd run
lanes_run_more tool (x ∷ es) (y ∷ ds) e d run one = (run.0, lanes_run_more tool es ds e d run.1 one)

pub as_many_run : (tool : Tool) (es : List LaneRingEnds) (ds : List StageDone) → AreLanesRun tool es ds → length ds ≡ length es
as_many_run tool [] [] run = refl
as_many_run tool [] (y ∷ ds) run = absurd run
as_many_run tool (x ∷ es) [] run = absurd run
as_many_run tool (x ∷ es) (y ∷ ds) run = ap suc (as_many_run tool es ds run.1)

-- the threads that came back, and what was done beside them
pub came_back : {B : Type 0} (tool : Tool) (es : List LaneRingEnds) (outer : OuterRingEnds) (reserved : ℕ) (P : B → Type 0) (result : Option (LanesDone × B))
    (done : LanesDone) (b : B)
    → IfSome result (λ r. HaveRun tool es outer reserved r.0 × P r.1) → result ≡ Some (done, b) → HaveRun tool es outer reserved done
came_back {B = B} tool es outer reserved P result done b run is =
    (subst (λ (x : Option (LanesDone × B)). IfSome x (λ r. HaveRun tool es outer reserved r.0 × P r.1)) is run).0

pub has_run_more : (tool : Tool) (all es : List LaneRingEnds) (outer : OuterRingEnds) (reserved : ℕ) (done : LanesDone) (lanes : Vec StageDone)
    (e : LaneRingEnds)
    (d : StageDone) → HaveRun tool es outer reserved done → IsLaneRun tool e.input e.output d
    → all ≡ es ++ e ∷ [] → lanes.items ≡ done.lanes.items ++ d ∷ [] → vec_capacity lanes ≡ vec_capacity done.lanes
    → HaveRun tool all outer reserved (record { dealt = done.dealt; lanes = lanes; gathered = done.gathered })
has_run_more tool all es outer reserved done lanes e d run one is added same = record {
  input = run.input;
  dealt = run.dealt;
  lanes_run = subst (λ (x : List LaneRingEnds). AreLanesRun tool x lanes.items) (sym is)
      (subst (AreLanesRun tool (es ++ e ∷ [])) (sym added) (lanes_run_more tool es done.lanes.items e d run.lanes_run one));
  inputs = run.inputs;
  output = run.output;
  gathered = run.gathered;
  for_lanes = same ∙ run.for_lanes;
}
