use Rattle.pnm_io_loop.proofs.Words.{arith, common_steps}
use Rattle.pnm_io_loop.proofs.ingress.Ingress.send_held.Goals as goal

pub loop-preserved : goal.loop-preserved
loop-preserved g c = grind (arith, common_steps)

pub returns-then-not-has_room-clause-sending : goal.returns-then-not-has_room-clause-sending
returns-then-not-has_room-clause-sending g c = grind (arith, common_steps)

pub send_next-requires-clause-room : goal.send_next-requires-clause-room
send_next-requires-clause-room g c = grind (arith, common_steps)

pub loop-init : goal.loop-init
loop-init g c = grind (arith, common_steps)

pub returns-then-not-has_room-clause-ring : goal.returns-then-not-has_room-clause-ring
returns-then-not-has_room-clause-ring g c = grind (arith, common_steps)
