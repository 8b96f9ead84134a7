use Rattle.pnm_serial.proofs.Words.{◌≡◌, ℕ, Bool, true, false, List, ap, sym, ◌∙◌, Message, ImageEnd, messages_in, part_messages, image_count_after, images_in}
use Rattle.pnm_serial.proofs.Words.{rows_in}
use Rattle.pnm_serial.proofs.MessageSteps.{images_in-part, rows_in-part}
use Rattle.pnm_serial.proofs.summary.Summary.count.Goals as goal

pub returns-then-ends_image-clause-images : goal.returns-then-ends_image-clause-images
returns-then-ends_image-clause-images c =
    let n = c.args.self.now.images in
    let head = c.parts-ends_image.result.0.now in
    let rows = c.parts-ends_image.result.1.now in
    let same : messages_in c.args.packet.now ≡ part_messages head rows true = ap messages_in c.in-Part.is ∙ c.parts-ends_image.ensures.parts
    ∙ ap (λ (ends : Bool). part_messages head rows ends) c.if-ends_image.true in
    c.saturating_add-self.ensures ∙ ap (λ (k : ℕ). image_count_after k ImageEnd) c.count_rows.ensures.images ∙ sym (images_in-part n head rows true)
    ∙ ap (λ (l : List Message). images_in n l) (sym same)

pub returns-else-ends_image-clause-images : goal.returns-else-ends_image-clause-images
returns-else-ends_image-clause-images c =
    let n = c.args.self.now.images in
    let head = c.parts-ends_image.result.0.now in
    let rows = c.parts-ends_image.result.1.now in
    let same : messages_in c.args.packet.now ≡ part_messages head rows false = ap messages_in c.in-Part.is ∙ c.parts-ends_image.ensures.parts
    ∙ ap (λ (ends : Bool). part_messages head rows ends) c.if-ends_image.false in
    c.count_rows.ensures.images ∙ sym (images_in-part n head rows false) ∙ ap (λ (l : List Message). images_in n l) (sym same)

pub returns-then-ends_image-clause-rows : goal.returns-then-ends_image-clause-rows
returns-then-ends_image-clause-rows c =
    let n = c.args.self.now.rows in
    let part = c.parts-ends_image.result in
    c.count_rows.ensures.rows ∙ sym (rows_in-part n part.0.now part.1.now part.2)
    ∙ ap (λ (l : List Message). rows_in n l) (sym (ap messages_in c.in-Part.is ∙ c.parts-ends_image.ensures.parts))

pub returns-else-ends_image-clause-rows : goal.returns-else-ends_image-clause-rows
returns-else-ends_image-clause-rows c =
    let n = c.args.self.now.rows in
    let part = c.parts-ends_image.result in
    c.count_rows.ensures.rows ∙ sym (rows_in-part n part.0.now part.1.now part.2)
    ∙ ap (λ (l : List Message). rows_in n l) (sym (ap messages_in c.in-Part.is ∙ c.parts-ends_image.ensures.parts))
