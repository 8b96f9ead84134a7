use Rattle.pnm_lanes.proofs.Words.{◌<◌, ◌≤◌, length, ◌∙◌, arith, length-set}
use Rattle.pnm_lanes.proofs.HeadSteps.{one_alike, one_unlike, no_whole, whole_taken}
use Rattle.pnm_lanes.proofs.agreement.take_heads.Goals as goal

pub returns-in_err-heights-clause-none : goal.returns-in_err-heights-clause-none
returns-in_err-heights-clause-none c =
    let below : c.loop-lane.lane < length c.args.held.now =
    omega (arith, c.loop-lane-test.true, length-set c.args.held.now 0 c.take_head.new.self) in
    rw c.from_residual-in_err-heights.ensures (λ head is dealt. one_unlike head c.index-held-lane.result c.loop-lane.invariant.0 c.loop-lane.invariant.3
    below (omega (arith, below, c.loop-lane.invariant.2)) c.in_err-heights.ensures.not dealt)

pub loop-lane-preserved : goal.loop-lane-preserved
loop-lane-preserved c = (
  one_alike c.loop-lane.lane c.in_ok-heights.field-0 c.take_alike.new.held c.index-held-lane.result c.loop-lane.invariant.0
      (omega (arith, c.loop-lane-test.true, c.loop-lane.invariant.2))
      (omega (arith, c.loop-lane-test.true, c.requires.few, c.loop-lane.invariant.1)) c.in_ok-heights.ensures.alike,
  length-set c.loop-lane.heights c.loop-lane.lane c.in_ok-heights.field-0 ∙ c.loop-lane.invariant.1,
  length-set c.loop-lane.held c.loop-lane.lane c.take_alike.new.held ∙ c.loop-lane.invariant.2,
  omega arith,
)

pub returns-in_err-height-clause-none : goal.returns-in_err-height-clause-none
returns-in_err-height-clause-none c =
    let reached : length c.args.held.now ≤ c.loop-lane.lane =
    omega (arith, c.loop-lane-test.false, length-set c.args.held.now 0 c.take_head.new.self) in
    rw c.from_residual-in_err-height.ensures (λ head is dealt. no_whole c.loop-lane.invariant.0 reached (length c.loop-lane.held) c.loop-lane.invariant.2
    (omega (arith, c.requires.few, c.loop-lane.invariant.1)) head c.in_err-height.ensures.none is dealt)

pub returns-clause-taken : goal.returns-clause-taken
returns-clause-taken c =
    let reached : length c.args.held.now ≤ c.loop-lane.lane =
    omega (arith, c.loop-lane-test.false, length-set c.args.held.now 0 c.take_head.new.self) in
    whole_taken c.loop-lane.invariant.0 reached (length c.loop-lane.held) c.loop-lane.invariant.2 (omega (arith, c.requires.few, c.loop-lane.invariant.1))
    c.in_ok-height.height c.with_height.result c.with_height.ensures c.in_ok-height.ensures.found.1
