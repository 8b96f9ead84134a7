use Rattle.std.proofs.Common.{◌≡◌, ◌∙◌}
use Rattle.pnm_image.specs.Heads.{row_length}
use Rattle.pnm_image.proofs.RowLaws.{known_rows, rows_need}
use Rattle.pnm_image.proofs.place.are_rows_of.Goals as goal

pub returns-then-row_length : goal.returns-then-row_length
returns-then-row_length c =
    let s = c.args.shape.now in
    let rows = c.args.rows.now in
    let same : c.row_length.result ≡ row_length s = c.if-row_length.true ∙ c.row_length-2.ensures in (
      λ yes. known_rows s c.row_length.result rows c.row_length.ensures.each same (c.are_within.ensures.0 yes),
      λ are. c.are_within.ensures.1 (rows_need s c.row_length.result rows c.row_length.ensures.some c.row_length.ensures.each are).1,
    )
