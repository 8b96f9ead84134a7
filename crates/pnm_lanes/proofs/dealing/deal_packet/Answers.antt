use Rattle.pnm_lanes.proofs.Words.{List, Message, subst, HasDealtMessages}
use Rattle.pnm_lanes.proofs.dealing.deal_packet.Goals as goal

pub returns : goal.returns
returns g c =
    subst (λ (l : List Message). HasDealtMessages c.args.place.now c.deal_unfed.new.place l c.deal_unfed.result c.args.outputs.now
    c.deal_unfed.new.outputs) c.of.ensures c.deal_unfed.ensures
