use Rattle.pnm_repeat_tools.proofs.Words.{◌*◌, ◌%◌, ◌<◌, ◌++◌, ap, ◌∙◌, arith, mod-lt, row_ends_within, row_of_samples, tiled_row}
use Rattle.pnm_repeat_tools.proofs.TileRowsLaws.{piece_more, row_of_slice}
use Rattle.pnm_repeat_tools.proofs.tile.tile.Goals as goal

pub overflow_add-start : goal.overflow_add-start
overflow_add-start g c =
    let s = c.args.shape in
    let below : c.loop-at.at % c.args.kept < c.args.kept = mod-lt c.loop-at.at c.requires.some.0 in
    omega (arith, row_ends_within c.args.kept (s.width * s.depth) (c.loop-at.at % c.args.kept) below, c.requires.rows)

pub loop-at-preserved : goal.loop-at-preserved
loop-at-preserved g c =
    let s = c.args.shape in
    let each = s.width * s.depth in
    let row = row_of_slice c.args.samples.now (c.loop-at.at % c.args.kept) each in
    piece_more (row_of_samples c.args.width s.width s.depth c.args.kept c.args.samples.now) c.args.y c.loop-at.at (omega arith) c.loop-at.invariant
    (c.in_ok-tile_row.ensures.made ∙ ap (λ l. c.loop-at.tiled.items ++ tiled_row c.args.width s.width s.depth l) row)
