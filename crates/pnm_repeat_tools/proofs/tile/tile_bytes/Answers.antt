use Rattle.pnm_repeat_tools.proofs.Words.{◌≡◌, ◌∙◌, ◌*◌, ℕ, ap, arith, bytes_for}
use Rattle.pnm_repeat_tools.proofs.TileBitLaws.{rows_of_tiled_bytes, bytes_of_each, length_of_tiled_bytes}
use Rattle.pnm_repeat_tools.proofs.tile.tile_bytes.Goals as goal

pub tile-requires-clause-rows : goal.tile-requires-clause-rows
tile-requires-clause-rows c =
    let p = c.parts-kept in
    let width : c.div_ceil.result ≡ bytes_for c.args.each = omega (arith, c.div_ceil.ensures) in
    bytes_of_each c.args.each c.div_ceil.result p.result.1 p.result.2 p.result.0.now c.args.rows.now c.requires.rows.0 c.requires.rows.1
    width p.ensures.rows p.ensures.whole

pub new-requires : goal.new-requires
new-requires c =
    let p = c.parts-kept in
    let width : c.div_ceil.result ≡ bytes_for c.args.each = omega (arith, c.div_ceil.ensures) in
    let size : c.div_ceil-2.result ≡ bytes_for c.args.filled = omega (arith, c.div_ceil-2.ensures) in
    length_of_tiled_bytes c.args.each c.div_ceil.result p.result.1 p.result.2 p.result.0.now c.args.rows.now c.requires.rows.0 c.requires.rows.1
    width p.ensures.rows p.ensures.whole c.div_ceil-2.result c.args.y c.args.count c.in_ok-tiled.tiled.items
    (omega (arith, width, c.requires.some.0)) c.in_ok-tiled.ensures.made
    ∙ ap (λ (n : ℕ). c.args.count * n) size

pub returns-clause-made : goal.returns-clause-made
returns-clause-made c =
    let p = c.parts-kept in
    let width : c.div_ceil.result ≡ bytes_for c.args.each = omega (arith, c.div_ceil.ensures) in
    let size : c.div_ceil-2.result ≡ bytes_for c.args.filled = omega (arith, c.div_ceil-2.ensures) in
    c.new.ensures
    ∙ rows_of_tiled_bytes c.args.each c.div_ceil.result p.result.1 p.result.2 p.result.0.now c.args.rows.now c.requires.rows.0 c.requires.rows.1
    width p.ensures.rows p.ensures.whole c.args.filled c.div_ceil-2.result c.args.y c.args.count c.in_ok-tiled.tiled.items
    c.requires.some.0 c.requires.whole size c.in_ok-tiled.ensures.made
