use Rattle.pnm_stages.proofs.Words.{arith, known_packets}
use Rattle.pnm_stages.proofs.PacketLaws.{none_known}
use Rattle.pnm_stages.proofs.receiver.Receiver.has_seen_message.Goals as goal

pub returns-clause-none : goal.returns-clause-none
returns-clause-none c = λ none. none_known (known_packets c.args.self.now) c.cached_slots.ensures (grind (arith, none))
