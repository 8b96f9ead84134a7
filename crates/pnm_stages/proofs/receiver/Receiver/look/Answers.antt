use Rattle.pnm_stages.proofs.Words.{arith, known_items}
use Rattle.pnm_stages.proofs.PacketLaws.{none_known}
use Rattle.pnm_stages.proofs.receiver.Receiver.look.Goals as goal

pub returns-clause-none : goal.returns-clause-none
returns-clause-none c = λ none. none_known (known_items c.slots-seen.new.self) c.slots-seen.ensures.value (grind (arith, none))
