use Rattle.pnm_read.proofs.Words.{◌≡◌, ◌++◌, ◌+◌, List, ℕ, sym, ap, ◌∙◌, Message, head_messages, end_messages, row_messages, rows_list, due_at, after_messages}
use Rattle.pnm_read.proofs.AwaitedSteps.{part_said, part_some, rows_mapped}
use Rattle.pnm_read.proofs.source.Source.part.Goals as goal

pub new-requires : goal.new-requires
new-requires g c =
    let same : rows_list c.map.result ≡ rows_list c.args.rows = rows_mapped c.args.rows c.map.result c.map.ensures.cases in
    record { some = rw (same) (part_some c.args.head (rows_list c.args.rows) c.awaited_at-awaited.result.1 c.requires.some) }

pub returns-clause-said : goal.returns-clause-said
returns-clause-said g c = λ text.
    let raster = c.args.raster.now in
    let head = c.args.head in
    let awaited = c.awaited_at-awaited.result in
    let same : rows_list c.map.result ≡ rows_list c.args.rows = rows_mapped c.args.rows c.map.result c.map.ensures.cases in
    part_said raster c.after_rows.result head (rows_list c.args.rows) awaited.1 awaited.0 text c.after_rows.ensures.format c.after_rows.ensures.shape
    (c.after_rows.ensures.y ∙ ap (λ (n : ℕ). raster.y + n) c.count_of.ensures) (c.awaited_at-awaited.ensures.due text)
    ∙ ap (λ (l : List Message). after_messages l (due_at awaited.0 text))
    (ap (λ (rows : List (List ℕ)). head_messages head ++ (row_messages rows ++ end_messages awaited.1)) (sym same) ∙ sym c.new.ensures)
