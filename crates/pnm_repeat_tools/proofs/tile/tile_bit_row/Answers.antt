use Rattle.pnm_repeat_tools.proofs.Words.{◌≡◌, ◌/◌, ◌%◌, refl, arith, on_ok_weaker, all_pixels, length-all_pixels}
use Rattle.pnm_repeat_tools.proofs.TileRowLaws.{row_more, rows_and_part}
use Rattle.pnm_repeat_tools.proofs.tile.tile_bit_row.Goals as goal

pub loop-preserved : goal.loop-preserved
loop-preserved c =
    let pixels = all_pixels c.args.bytes.now in
    row_more c.args.each c.loop.counter c.args.tiled.now pixels
    (omega (arith, c.requires.row, length-all_pixels c.args.bytes.now)) c.loop.invariant c.in_ok-append_pixels.ensures.appended

pub returns : goal.returns
returns c =
    let pixels = all_pixels c.args.bytes.now in
    let all : c.loop.counter ≡ c.args.filled / c.args.each = omega (arith, c.loop-test.false, c.loop.auto.counter-end) in
    on_ok_weaker c.append_pixels-2.result (λ appended. rows_and_part c.args.filled c.args.each c.args.tiled.now pixels
    c.requires.some c.loop.invariant appended all refl) c.append_pixels-2.ensures.appended
