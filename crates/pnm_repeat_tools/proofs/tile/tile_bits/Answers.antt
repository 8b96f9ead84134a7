use Rattle.pnm_repeat_tools.proofs.Words.{◌≡◌, ◌*◌, ◌∙◌, map, refl, range_with_len, IfOk-weaker, row_of_tiles}
use Rattle.pnm_repeat_tools.proofs.TileBitLaws.{rows_of_samples}
use Rattle.pnm_repeat_tools.proofs.tile.tile_bits.Goals as goal

pub returns-then-filled-each-clause-made : goal.returns-then-filled-each-clause-made
returns-then-filled-each-clause-made c =
    let s = c.args.shape in
    let tiles = c.requires.tiles in
    let rows = c.args.rows.now in
    let numbers = range_with_len c.args.y c.args.count in
    IfOk-weaker c.tile_bytes.result (λ made. made ≡ map (row_of_tiles (c.args.width * s.depth) (s.width * s.depth) 1 rows) numbers)
    (λ made. made ≡ map (row_of_tiles c.args.width s.width s.depth rows) numbers) (λ made is. is
    ∙ rows_of_samples c.args.width s.width s.depth c.args.y c.args.count rows tiles.some tiles.width tiles.lengths refl refl) c.tile_bytes.ensures.made

pub returns-else-filled-each-clause-made : goal.returns-else-filled-each-clause-made
returns-else-filled-each-clause-made c =
    let s = c.args.shape in
    let tiles = c.requires.tiles in
    let rows = c.args.rows.now in
    let numbers = range_with_len c.args.y c.args.count in
    IfOk-weaker c.tile_pixels.result (λ made. made ≡ map (row_of_tiles (c.args.width * s.depth) (s.width * s.depth) 1 rows) numbers)
    (λ made. made ≡ map (row_of_tiles c.args.width s.width s.depth rows) numbers) (λ made is. is
    ∙ rows_of_samples c.args.width s.width s.depth c.args.y c.args.count rows tiles.some tiles.width tiles.lengths refl refl) c.tile_pixels.ensures.made
