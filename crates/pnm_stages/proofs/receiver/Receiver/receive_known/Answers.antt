use Rattle.pnm_stages.proofs.Words.{ap, ◌∙◌, messages_of}
use Rattle.pnm_stages.proofs.PacketLaws.{one_more}
use Rattle.rtrb.specs.Ring.{received}
use Rattle.pnm_stages.proofs.receiver.Receiver.receive_known.Goals as goal

pub returns-clause-received : goal.returns-clause-received
returns-clause-received c = ap messages_of c.pop_known-packet.ensures.received.0 ∙ one_more (received c.args.self.now.ring) c.pop_known-packet.result
