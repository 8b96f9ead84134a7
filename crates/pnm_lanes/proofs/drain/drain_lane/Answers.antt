use Rattle.pnm_lanes.proofs.Words.{◌≡◌, Some, None, rules, Open, state_at}
use Rattle.pnm_lanes.proofs.LaneLists.{are_themselves, one_changed}
use Rattle.pnm_lanes.proofs.DrainSteps.{carries_one}
use Rattle.pnm_lanes.proofs.drain.drain_lane.Goals as goal

pub returns-then-ne-clause-inputs : goal.returns-then-ne-clause-inputs
returns-then-ne-clause-inputs c = are_themselves c.args.inputs.now

pub returns-in-Some-clause-inputs : goal.returns-in-Some-clause-inputs
returns-in-Some-clause-inputs c = one_changed c.args.inputs.now c.args.lane c.drain_one.new.input c.index-inputs-lane.result c.requires.lane
    c.drain_one.ensures.ring

pub returns-in-Some-clause-carried : goal.returns-in-Some-clause-carried
returns-in-Some-clause-carried c =
    let is_open : state_at c.args.states.now c.args.lane ≡ Open = search rules in
    carries_one c.args.inputs.now c.args.lane c.drain_one.new.input c.index-inputs-lane.result (Some c.in-Some.state) c.requires.lane
    c.requires.states is_open c.in-Some.ensures.drained

pub returns-in-None-clause-inputs : goal.returns-in-None-clause-inputs
returns-in-None-clause-inputs c = one_changed c.args.inputs.now c.args.lane c.drain_one.new.input c.index-inputs-lane.result c.requires.lane
    c.drain_one.ensures.ring

pub returns-in-None-clause-carried : goal.returns-in-None-clause-carried
returns-in-None-clause-carried c =
    let is_open : state_at c.args.states.now c.args.lane ≡ Open = search rules in
    carries_one c.args.inputs.now c.args.lane c.drain_one.new.input c.index-inputs-lane.result None c.requires.lane c.requires.states is_open
    c.in-None.ensures.drained
