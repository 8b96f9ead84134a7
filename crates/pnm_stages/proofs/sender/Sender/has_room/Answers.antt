use Rattle.pnm_stages.proofs.Words.{arith, common_steps}
use Rattle.pnm_stages.proofs.sender.Sender.has_room.Goals as goal

pub returns-then-cached_slots-kept_free-clause-room : goal.returns-then-cached_slots-kept_free-clause-room
returns-then-cached_slots-kept_free-clause-room c = grind (arith, common_steps)
