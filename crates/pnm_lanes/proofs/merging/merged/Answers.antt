use Rattle.pnm_lanes.proofs.Words.{◌++◌, refl, sym, ap, ◌∙◌, arith, false≢true, known_items, end_of_both}
use Rattle.pnm_lanes.proofs.MergeSteps.{as_many_pairs, merges_none, taken_pairs, merges_one, merges_all}
use Rattle.pnm_lanes.proofs.LaneNumbers.{lanes_have_run}
use Rattle.pnm_lanes.proofs.LaneRunSteps.{as_many_run}
use Rattle.pnm_lanes.proofs.merging.merged.Goals as goal

pub loop-lane-init : goal.loop-lane-init
loop-lane-init c = merges_none c.args.done.dealt.outputs.items c.args.done.lanes.items c.args.done.gathered.inputs.items c.args.done.gathered.end
    c.requires.rings

-- each lane that is left has a ring from it
pub unreachable-requires-in_default-pop-2 : goal.unreachable-requires-in_default-pop-2
unreachable-requires-in_default-pop-2 c =
    let pairs = as_many_pairs c.loop-lane.outputs.items c.loop-lane.lanes.items c.loop-lane.inputs.items c.loop-lane.invariant.pairs in
    let some = c.in-Some.ensures.variant.0 refl in
    false≢true (c.in_default-pop-2.ensures.variant.1 (omega (arith, pairs.1, some, c.loop-lane.lanes.ok, c.loop-lane.inputs.ok)))

pub look_beside-requires : goal.look_beside-requires
look_beside-requires c =
    (taken_pairs
    c.pop-in-Some.new.self.items c.pop.new.self.items c.pop-in-Some-2.new.self.items c.in-Some-pop.sender c.in-Some.lane c.in-Some-pop-2.receiver
    c.loop-lane.invariant
    (record { sender = c.in-Some-pop.ensures.items; lane = c.in-Some.ensures.items; receiver = c.in-Some-pop-2.ensures.items })).1

pub look_beside-requires-in-Some : goal.look_beside-requires-in-Some
look_beside-requires-in-Some c =
    (taken_pairs
    c.pop-in-Some.new.self.items c.pop.new.self.items c.pop-in-Some-2.new.self.items c.in-Some-pop.sender c.in-Some.lane c.in-Some-pop-2.receiver
    c.loop-lane.invariant
    (record { sender = c.in-Some-pop.ensures.items; lane = c.in-Some.ensures.items; receiver = c.in-Some-pop-2.ensures.items })).2

pub loop-lane-preserved : goal.loop-lane-preserved
loop-lane-preserved c =
    merges_one c.args.done.dealt.outputs.items c.args.done.lanes.items c.args.done.gathered.inputs.items c.args.done.gathered.end c.loop-lane.outputs.items
    c.pop-in-Some.new.self.items c.loop-lane.lanes.items c.pop.new.self.items
    c.loop-lane.inputs.items c.pop-in-Some-2.new.self.items c.loop-lane.end c.end_of_both-end.result c.in-Some-pop.sender c.in-Some.lane
    c.in-Some-pop-2.receiver c.loop-lane.invariant
    (record { sender = c.in-Some-pop.ensures.items; lane = c.in-Some.ensures.items; receiver = c.in-Some-pop-2.ensures.items }) (
      known_items c.look_beside.new.self,
      sym (ap (λ (x : _). x ++ known_items c.look_beside.new.self) (sym c.look_beside.ensures.looked.1)
          ∙ c.look_beside.ensures.in_order ∙ c.look_beside.ensures.sender.1),
    ) (
      known_items c.look_beside-in-Some.new.self,
      sym (ap (λ (x : _). x ++ known_items c.look_beside-in-Some.new.self) (sym c.look_beside-in-Some.ensures.looked.1)
          ∙ c.look_beside-in-Some.ensures.in_order ∙ c.look_beside-in-Some.ensures.sender.1),
    )
    c.end_of_both-end.ensures

pub returns-clause-end : goal.returns-clause-end
returns-clause-end c =
    let all = merges_all c.loop-lane.invariant (let ok = c.loop-lane.lanes.ok in
    let none = c.in_default.ensures.cases.0 in omega (arith, ok, none)) in
    c.end_of_both.ensures ∙ ap (end_of_both c.args.done.dealt.end) all.1

pub returns-clause-ran : goal.returns-clause-ran
returns-clause-ran c tool lanes outer reserved lawful row_wise some unused run =
    let all = merges_all c.loop-lane.invariant (let ok = c.loop-lane.lanes.ok in
    let none = c.in_default.ensures.cases.0 in omega (arith, ok, none)) in
    lanes_have_run unused run all.0 (c.end_of_both.ensures ∙ ap (end_of_both c.args.done.dealt.end) all.1)
    some (as_many_run tool lanes c.args.done.lanes.items run.lanes_run) lawful row_wise
