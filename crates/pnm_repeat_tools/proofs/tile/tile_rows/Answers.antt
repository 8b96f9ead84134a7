use Rattle.pnm_repeat_tools.proofs.Words.{◌≡◌, ◌*◌, ◌∙◌, List, ℕ, ap, map, subst, sym, range_with_len, RowSlice, AreSliceRows, slice_lists, row_of_tiles, tiled}
use Rattle.pnm_repeat_tools.proofs.Words.{HasTiles}
use Rattle.pnm_repeat_tools.proofs.TileRowsLaws.{rows_alike, tiles_of_samples}
use Rattle.pnm_repeat_tools.proofs.tile.tile_rows.Goals as goal

pub tile_bits-requires-clause-tiles : goal.tile_bits-requires-clause-tiles
tile_bits-requires-clause-tiles c =
    let s = c.args.shape in
    let each = s.width * s.depth in
    let parts = c.parts-kept in
    let same = subst (λ (held : RowSlice). slice_lists parts.result.1 each held ≡ c.args.rows.now) c.in-Bits.is
    (parts.ensures.rows each c.requires.tiles.lengths) in
    subst (λ (rows : List (List ℕ)). HasTiles (tiled c.args.width 0 s.width s.depth rows 0)) (sym same) c.requires.tiles

pub returns-in_ok-tiled-in-Bits-clause-whole : goal.returns-in_ok-tiled-in-Bits-clause-whole
returns-in_ok-tiled-in-Bits-clause-whole c =
    let s = c.args.shape in
    let each = s.width * s.depth in
    let parts = c.parts-kept in
    let same = subst (λ (held : RowSlice). slice_lists parts.result.1 each held ≡ c.args.rows.now) c.in-Bits.is
    (parts.ensures.rows each c.requires.tiles.lengths) in
    let numbers = range_with_len c.args.y c.args.count in
    rows_alike c.args.width s.width s.depth c.args.y c.args.count c.args.rows.now c.requires.tiles (c.in_ok-tiled-in-Bits.ensures.made
    ∙ ap (λ (rows : List (List ℕ)). map (row_of_tiles c.args.width s.width s.depth rows) numbers) same)

pub returns-in_ok-tiled-in-Bits-clause-made : goal.returns-in_ok-tiled-in-Bits-clause-made
returns-in_ok-tiled-in-Bits-clause-made c =
    let s = c.args.shape in
    let each = s.width * s.depth in
    let parts = c.parts-kept in
    let same = subst (λ (held : RowSlice). slice_lists parts.result.1 each held ≡ c.args.rows.now) c.in-Bits.is
    (parts.ensures.rows each c.requires.tiles.lengths) in
    let numbers = range_with_len c.args.y c.args.count in
    c.in_ok-tiled-in-Bits.ensures.made
    ∙ ap (λ (rows : List (List ℕ)). map (row_of_tiles c.args.width s.width s.depth rows) numbers) same

pub tile-requires-clause-rows : goal.tile-requires-clause-rows
tile-requires-clause-rows c =
    let s = c.args.shape in
    let each = s.width * s.depth in
    let parts = c.parts-kept in
    subst (AreSliceRows parts.result.1 each) c.in-Bytes.is (parts.ensures.whole each c.requires.tiles.lengths)

pub returns-in_ok-tiled-in-Bytes-clause-whole : goal.returns-in_ok-tiled-in-Bytes-clause-whole
returns-in_ok-tiled-in-Bytes-clause-whole c =
    let s = c.args.shape in
    let each = s.width * s.depth in
    let parts = c.parts-kept in
    let same = subst (λ (held : RowSlice). slice_lists parts.result.1 each held ≡ c.args.rows.now) c.in-Bytes.is
    (parts.ensures.rows each c.requires.tiles.lengths) in
    (tiles_of_samples c.args.width s.width s.depth c.args.y c.args.count c.in-Bytes.bytes.now c.requires.tiles same parts.ensures.count
    c.in_ok-tiled-in-Bytes.ensures.made).0

pub returns-in_ok-tiled-in-Bytes-clause-made : goal.returns-in_ok-tiled-in-Bytes-clause-made
returns-in_ok-tiled-in-Bytes-clause-made c =
    let s = c.args.shape in
    let each = s.width * s.depth in
    let parts = c.parts-kept in
    let same = subst (λ (held : RowSlice). slice_lists parts.result.1 each held ≡ c.args.rows.now) c.in-Bytes.is
    (parts.ensures.rows each c.requires.tiles.lengths) in
    (tiles_of_samples c.args.width s.width s.depth c.args.y c.args.count c.in-Bytes.bytes.now c.requires.tiles same parts.ensures.count
    c.in_ok-tiled-in-Bytes.ensures.made).1

pub tile-requires-in-Words-clause-rows : goal.tile-requires-in-Words-clause-rows
tile-requires-in-Words-clause-rows c =
    let s = c.args.shape in
    let each = s.width * s.depth in
    let parts = c.parts-kept in
    subst (AreSliceRows parts.result.1 each) c.in-Words.is (parts.ensures.whole each c.requires.tiles.lengths)

pub returns-in_ok-tiled-in-Words-clause-whole : goal.returns-in_ok-tiled-in-Words-clause-whole
returns-in_ok-tiled-in-Words-clause-whole c =
    let s = c.args.shape in
    let each = s.width * s.depth in
    let parts = c.parts-kept in
    let same = subst (λ (held : RowSlice). slice_lists parts.result.1 each held ≡ c.args.rows.now) c.in-Words.is
    (parts.ensures.rows each c.requires.tiles.lengths) in
    (tiles_of_samples c.args.width s.width s.depth c.args.y c.args.count c.in-Words.words.now c.requires.tiles same parts.ensures.count
    c.in_ok-tiled-in-Words.ensures.made).0

pub returns-in_ok-tiled-in-Words-clause-made : goal.returns-in_ok-tiled-in-Words-clause-made
returns-in_ok-tiled-in-Words-clause-made c =
    let s = c.args.shape in
    let each = s.width * s.depth in
    let parts = c.parts-kept in
    let same = subst (λ (held : RowSlice). slice_lists parts.result.1 each held ≡ c.args.rows.now) c.in-Words.is
    (parts.ensures.rows each c.requires.tiles.lengths) in
    (tiles_of_samples c.args.width s.width s.depth c.args.y c.args.count c.in-Words.words.now c.requires.tiles same parts.ensures.count
    c.in_ok-tiled-in-Words.ensures.made).1
