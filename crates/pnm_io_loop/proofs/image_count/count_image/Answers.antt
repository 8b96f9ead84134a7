use Rattle.pnm_io_loop.proofs.Words.{◌≡◌, Bool, true, false, List, ap, sym, ◌∙◌, Message, messages_in, part_messages, images_in, images_in-part}
use Rattle.pnm_io_loop.proofs.image_count.count_image.Goals as goal

pub returns-then-parts : goal.returns-then-parts
returns-then-parts c =
    let n = c.args.images.now in
    let head = c.parts.result.0.now in
    let rows = c.parts.result.1.now in
    let same : messages_in c.args.packet.now ≡ part_messages head rows true = ap messages_in c.in-Part.is ∙ c.parts.ensures.parts
    ∙ ap (λ (ends : Bool). part_messages head rows ends) c.if-parts.true in
    c.saturating_add.ensures ∙ sym (images_in-part n head rows true) ∙ ap (λ (l : List Message). images_in n l) (sym same)

pub returns-else-parts : goal.returns-else-parts
returns-else-parts c =
    let n = c.args.images.now in
    let head = c.parts.result.0.now in
    let rows = c.parts.result.1.now in
    let same : messages_in c.args.packet.now ≡ part_messages head rows false = ap messages_in c.in-Part.is ∙ c.parts.ensures.parts
    ∙ ap (λ (ends : Bool). part_messages head rows ends) c.if-parts.false in
    sym (images_in-part n head rows false) ∙ ap (λ (l : List Message). images_in n l) (sym same)
