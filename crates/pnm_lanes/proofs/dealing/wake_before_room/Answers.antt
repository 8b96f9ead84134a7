use Rattle.pnm_lanes.proofs.Words.{refl, slice_set}
use Rattle.pnm_lanes.proofs.SendSteps.{wakes_none, wakes_one, wakes_then}
use Rattle.pnm_lanes.proofs.dealing.wake_before_room.Goals as goal

pub returns-else-not-has_room : goal.returns-else-not-has_room
returns-else-not-has_room c =
    wakes_one c.args.lane c.args.outputs.now c.args.outputs.now c.has_room.new.self c.index-outputs-lane.result c.requires refl c.has_room.ensures.ring
    c.has_room.ensures.sent (wakes_none c.args.outputs.now)

pub returns-then-not-has_room : goal.returns-then-not-has_room
returns-then-not-has_room c =
    wakes_then c.args.outputs.now (slice_set c.args.outputs.now c.args.lane c.has_room.new.self) c.wake_each.new.outputs
    (wakes_one c.args.lane c.args.outputs.now c.args.outputs.now c.has_room.new.self c.index-outputs-lane.result c.requires refl c.has_room.ensures.ring
    c.has_room.ensures.sent (wakes_none c.args.outputs.now)) c.wake_each.ensures
