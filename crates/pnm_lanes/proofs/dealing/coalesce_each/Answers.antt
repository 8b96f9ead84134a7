use Rattle.pnm_lanes.proofs.Words.{◌≡◌, ◌<◌, refl, length, arith}
use Rattle.pnm_lanes.proofs.SendSteps.{wakes_none, wakes_one, woken_count}
use Rattle.pnm_lanes.proofs.dealing.coalesce_each.Goals as goal

pub loop-lane-init : goal.loop-lane-init
loop-lane-init c = wakes_none c.args.outputs.now

pub loop-lane-preserved : goal.loop-lane-preserved
loop-lane-preserved c =
    let count : length c.loop-lane.outputs ≡ length c.args.outputs.now = woken_count c.args.outputs.now c.loop-lane.outputs c.loop-lane.invariant in
    let below : c.loop-lane.lane < length c.loop-lane.outputs = omega (arith, c.loop-lane-test.true, count) in
    wakes_one c.loop-lane.lane c.args.outputs.now c.loop-lane.outputs c.coalesce_wakes.new.self c.index-outputs-lane.result below refl
    c.coalesce_wakes.ensures.ring c.coalesce_wakes.ensures.sent c.loop-lane.invariant
