use Rattle.pnm_read.proofs.Words.{ℕ, ◌*◌, List, length, take, ap, ◌∙◌, held_of, rows_held}
use Rattle.pnm_read.proofs.RowsTogether.{rows_taken, length-rows_held}
use Rattle.pnm_read.proofs.held_rows.take_rows.Goals as goal

pub returns-clause-count : goal.returns-clause-count
returns-clause-count g c =
    ap (λ (l : List (List ℕ)). length l) c.rows_of-rows.ensures
    ∙ length-rows_held c.args.raster.now.sample_width c.args.raster.now.shape c.args.count c.in-Ok.copy.items

pub returns-clause-rows : goal.returns-clause-rows
returns-clause-rows g c =
    let raster = c.args.raster.now in
    let held = held_of c.args.input.now in
    rows_taken c.requires.held (c.rows_of-rows.ensures ∙ ap (rows_held raster.sample_width raster.shape c.args.count) (c.in-Ok.ensures
    ∙ ap (λ (l : List ℕ). take (c.args.count * raster.units) l) c.bytes-held.ensures)) c.advance.ensures.held
