use Rattle.pnm_lanes.proofs.Words.{◌≡◌, ◌∙◌, ◌++◌, Option, Packet, ap, messages_in, packet_list, unfed_in}
use Rattle.pnm_lanes.proofs.MessageSteps.{not_in_order}
use Rattle.pnm_lanes.proofs.dealing.next_lawful.Goals as goal

pub returns-in-None-clause-refused : goal.returns-in-None-clause-refused
returns-in-None-clause-refused c =
    let rest = unfed_in c.first_of.new.self in
    let parts : unfed_in c.args.unfed.now ≡ messages_in c.in-Ok-first_of.first ++ rest =
    c.in-Ok.ensures.taken ∙ ap (λ (p : Option Packet). packet_list p ++ unfed_in c.next.new.self) c.in-Some.is ∙ c.in-Ok-first_of.ensures.parts in
    not_in_order c.args.place.now (messages_in c.in-Ok-first_of.first) rest c.in-Ok-first_of.ensures.one parts c.in-None.ensures
