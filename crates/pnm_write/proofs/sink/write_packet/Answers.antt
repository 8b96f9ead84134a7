use Rattle.pnm_write.proofs.Words.{◌++◌, refl, rules, ap, ◌∙◌, messages_in, rows_list, sending_part, header_text, rows_bytes}
use Rattle.pnm_write.proofs.PartLaws.{begin_sending}
use Rattle.pnm_write.proofs.RowMessages.{begun_bytes, begun_rows, inside_bytes, inside_rows, outside_bytes}
use Rattle.pnm_write.proofs.WriteCallSteps.{call_failed, call_on}
use Rattle.pnm_write.proofs.sink.write_packet.Goals as goal

pub write_repeated-requires : goal.write_repeated-requires
write_repeated-requires g c =
    let part = c.parts.result in
    let is = ap messages_in c.in-Part.is ∙ c.parts.ensures.parts in
    rw (c.shape.ensures.shape) (begun_rows c.args.place part.1.now part.2 c.in-Some.is is c.requires)

pub write_repeated-requires-in-Inside : goal.write_repeated-requires-in-Inside
write_repeated-requires-in-Inside g c =
    let part = c.parts.result in
    let is = ap messages_in c.in-Part.is ∙ c.parts.ensures.parts in
    inside_rows part.1.now part.2 c.in-Inside.is c.in_default-head.is is c.requires

pub returns-in_err-write_header : goal.returns-in_err-write_header
returns-in_err-write_header g c =
    let part = c.parts.result in
    let is = ap messages_in c.in-Part.is ∙ c.parts.ensures.parts in
    let head = c.in-Some.head in
    let header = header_text c.args.form head in
    let rows = rows_bytes c.args.form head.shape (rows_list part.1.now) in
    let writer = c.args.writer.now in
    rw (begun_bytes c.args.form c.args.place part.1.now part.2 c.in-Some.is is)
    (call_failed g.W.BytesOut.held g.W.BytesOut.failures g.W.BytesOut.same writer writer c.write_header.new.writer (header ++ rows) (header ++ rows) header rows
    c.from_residual.result c.from_residual.ensures.0 refl
    (begin_sending g.W.BytesOut.held g.W.BytesOut.failures g.W.BytesOut.same writer (header ++ rows) (g.met.W.BytesOut.same_at_once writer))
    c.in_err-write_header.ensures.failed c.in_err-write_header.ensures.same_device)

pub returns-in-Some : goal.returns-in-Some
returns-in-Some g c =
    let part = c.parts.result in
    let is = ap messages_in c.in-Part.is ∙ c.parts.ensures.parts in
    let head = c.in-Some.head in
    let header = header_text c.args.form head in
    let rows = rows_bytes c.args.form head.shape (rows_list part.1.now) in
    let writer = c.args.writer.now in
    let wrote = c.in_ok-write_header.ensures in
    let start = begin_sending g.W.BytesOut.held g.W.BytesOut.failures g.W.BytesOut.same writer (header ++ rows) (g.met.W.BytesOut.same_at_once writer) in
    let first = sending_part g.W.BytesOut.held g.W.BytesOut.failures g.W.BytesOut.same writer writer c.write_header.new.writer (header ++ rows) (header ++ rows)
    header rows refl start wrote.written wrote.count wrote.same_device in
    let rest = rw (c.shape.ensures.shape) at c.write_repeated.ensures in
    rw (begun_bytes c.args.form c.args.place part.1.now part.2 c.in-Some.is is) (call_on c.write_repeated.result first rest
    (g.met.W.BytesOut.same_later _ _ _ wrote.same_device c.write_repeated.ensures.same_device))

pub returns-in-Inside : goal.returns-in-Inside
returns-in-Inside g c =
    let part = c.parts.result in
    let is = ap messages_in c.in-Part.is ∙ c.parts.ensures.parts in
    rw (inside_bytes c.args.form part.1.now part.2 c.in-Inside.is c.in_default-head.is is) c.write_repeated-in-Inside.ensures

pub returns-in-Between : goal.returns-in-Between
returns-in-Between g c =
    let part = c.parts.result in
    let is = ap messages_in c.in-Part.is ∙ c.parts.ensures.parts in
    rw (outside_bytes c.args.form c.args.place part.1.now part.2 c.in-Between.is c.in_default-head.is is) (search rules)
