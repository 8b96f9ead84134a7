use Rattle.pnm_lanes.proofs.Words.{◌<◌, refl, sym, subst, length, arith, slice_set, Option, messages_in, packet_list, AtEach, IsSentTo}
use Rattle.pnm_lanes.proofs.SendSteps.{sends_to, sends_none, wakes_one, woken_count}
use Rattle.pnm_lanes.proofs.dealing.send_to.Goals as goal

-- the lane gets nothing
pub returns-in_default-clause-given : goal.returns-in_default-clause-given
returns-in_default-clause-given g c = λ _.
    subst (λ (packet : Option _). AtEach (IsSentTo c.args.lane (packet_list packet)) c.args.outputs.now c.args.outputs.now) (sym c.in_default.is)
    (sends_none c.args.lane c.args.outputs.now)

pub returns-clause-given : goal.returns-clause-given
returns-clause-given g c = λ is.
    let nows = c.wake_before_room.new.outputs in
    let below : c.args.lane < length nows = omega (arith, c.requires, woken_count c.args.outputs.now nows c.wake_before_room.ensures) in
    subst (λ (packet : Option _). AtEach (IsSentTo c.args.lane (packet_list packet)) c.args.outputs.now
    (slice_set nows c.args.lane c.send.new.self)) (sym c.in-Some.is)
    (sends_to c.args.lane c.args.outputs.now nows (messages_in c.in-Some.packet) c.send.new.self c.index-outputs-lane.result c.wake_before_room.ensures
    below refl c.send.ensures.ring (c.send.ensures.given is))

pub returns-clause-gone : goal.returns-clause-gone
returns-clause-gone g c = λ is.
    let nows = c.wake_before_room.new.outputs in
    let below : c.args.lane < length nows = omega (arith, c.requires, woken_count c.args.outputs.now nows c.wake_before_room.ensures) in
    wakes_one c.args.lane c.args.outputs.now nows c.send.new.self c.index-outputs-lane.result below refl c.send.ensures.ring (c.send.ensures.gone is)
    c.wake_before_room.ensures
