use Rattle.pnm_stages.proofs.Words.{◌≡◌, ◌++◌, true, arith, common_steps, messages_in, sent}
use Rattle.std.proofs.Common.{IsTrue}
use Rattle.pnm_stages.proofs.sender.Sender.send.Goals as goal

pub send_reserved-requires : goal.send_reserved-requires
send_reserved-requires g c = let _room : c.if-has_room.room ≡ true = assumption in grind (arith, common_steps)

pub returns-then-room-clause-given : goal.returns-then-room-clause-given
returns-then-room-clause-given g c =
    let given : IsTrue c.if-has_room.room → sent c.send_reserved.new.self ≡ sent c.args.self.now ++ messages_in c.args.packet =
    grind (arith, common_steps) in
    given
