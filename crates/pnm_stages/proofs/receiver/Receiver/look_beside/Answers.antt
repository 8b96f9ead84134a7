use Rattle.pnm_stages.proofs.Words.{arith}
use Rattle.pnm_stages.proofs.PacketLaws.{of_both}
use Rattle.pnm_stages.proofs.receiver.Receiver.look_beside.Goals as goal

pub returns-clause-in_order : goal.returns-clause-in_order
returns-clause-in_order c = grind (arith, of_both)
