use Rattle.pnm_stages.proofs.Words.{◌≡◌, None, Some, Option, ap, sym, subst, ◌∙◌, AllByRecursion, HeadValue, IsMessage, EndsBy, messages_in, ending_of_packet}
use Rattle.pnm_stages.proofs.Words.{part_messages, More, Packet}
use Rattle.pnm_stages.proofs.PacketLaws.{rest_is_messages, part_is_messages, part_ends_nothing}
use Rattle.pnm_stages.proofs.receiver.recognise.Goals as goal

pub returns-clause-messages : goal.returns-clause-messages
returns-clause-messages c =
    let rows = c.parts.result.1.now in
    let ends = c.parts.result.2 in
    let same : messages_in c.args.packet.now ≡ part_messages (Some c.in-Some.head) rows ends =
    ap messages_in c.in-Part.is ∙ c.parts.ensures.parts ∙ ap (λ (head : Option HeadValue). part_messages head rows ends) c.in-Some.is in
    subst (AllByRecursion IsMessage) (sym same) (part_is_messages c.in-Some.head rows ends c.shape.ensures.sound)

pub returns-clause-ends : goal.returns-clause-ends
returns-clause-ends c =
    subst (λ (packet : Packet). EndsBy (ending_of_packet packet) (messages_in packet)) (sym c.in-Part.is)
    (subst (EndsBy More) (sym c.parts.ensures.parts) (part_ends_nothing c.parts.result.0.now c.parts.result.1.now c.parts.result.2))

pub returns-in_default-0₀-clause-messages : goal.returns-in_default-0₀-clause-messages
returns-in_default-0₀-clause-messages c =
    let rows = c.parts.result.1.now in
    let ends = c.parts.result.2 in
    let same : messages_in c.args.packet.now ≡ part_messages None rows ends =
    ap messages_in c.in-Part.is ∙ c.parts.ensures.parts ∙ ap (λ (head : Option HeadValue). part_messages head rows ends) c.in_default-0₀.is in
    subst (AllByRecursion IsMessage) (sym same) (rest_is_messages rows ends)

pub returns-in_default-0₀-clause-ends : goal.returns-in_default-0₀-clause-ends
returns-in_default-0₀-clause-ends c =
    subst (λ (packet : Packet). EndsBy (ending_of_packet packet) (messages_in packet)) (sym c.in-Part.is)
    (subst (EndsBy More) (sym c.parts.ensures.parts) (part_ends_nothing c.parts.result.0.now c.parts.result.1.now c.parts.result.2))
