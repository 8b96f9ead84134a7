use Rattle.pnm_stages.proofs.Words.{ap, ◌∙◌, arith, common_steps, messages_of}
use Rattle.pnm_stages.proofs.PacketLaws.{one_more}
use Rattle.rtrb.specs.Ring.{sent}
use Rattle.pnm_stages.proofs.sender.Sender.send_reserved.Goals as goal

pub returns-then-self-clause-sent : goal.returns-then-self-clause-sent
returns-then-self-clause-sent c = ap messages_of c.push_reserved.ensures.sent.0 ∙ one_more (sent c.args.self.now.ring) c.args.packet

pub returns-clause-sent : goal.returns-clause-sent
returns-clause-sent c =
    let now = ap messages_of c.push_reserved.ensures.sent.0 ∙ one_more (sent c.args.self.now.ring) c.args.packet in
    grind (arith, common_steps, now)
