use Rattle.pnm_repeat_tools.proofs.Words.{arith, row_of_tiles}
use Rattle.pnm_repeat_tools.proofs.TileBitLaws.{next_part, pixel_row_more, row_has_pixels, row_is_kept}
use Rattle.pnm_repeat_tools.proofs.tile.tile_pixels.Goals as goal

pub row-requires : goal.row-requires
row-requires c =
    let p = c.parts-kept in
    row_is_kept p.result.1 p.result.2 c.loop-at.at p.result.0.now c.requires.rows.0 p.ensures.rows

pub tile_bit_row-requires-clause-row : goal.tile_bit_row-requires-clause-row
tile_bit_row-requires-clause-row c =
    let p = c.parts-kept in
    row_has_pixels c.args.each p.result.1 p.result.2 c.loop-at.at c.row.result.1 p.result.0.now c.row.result.0.now c.args.rows.now c.requires.rows.0
    c.requires.rows.1 p.ensures.rows c.row.ensures.pixels c.row.ensures.packed

pub loop-at-preserved : goal.loop-at-preserved
loop-at-preserved c =
    let p = c.parts-kept in
    let part = next_part c.args.each p.result.1 p.result.2 c.loop-at.at c.row.result.1 p.result.0.now c.row.result.0.now c.args.rows.now c.requires.rows.0
    c.requires.rows.1 p.ensures.rows c.row.ensures.pixels c.row.ensures.packed c.args.filled c.clear.new.self c.tile_bit_row.new.tiled
    c.as_bytes.result.now c.requires.some c.clear.ensures c.in_ok-tile_bit_row.ensures c.as_bytes.ensures.count c.as_bytes.ensures.pixels in
    pixel_row_more (row_of_tiles c.args.filled c.args.each 1 c.args.rows.now) c.args.filled c.args.y c.loop-at.at c.loop-at.tiled.items
    c.as_bytes.result.now (omega arith) c.loop-at.invariant.0 c.loop-at.invariant.1 part.0 part.1 c.in_ok-extend_from_slice.ensures.items
