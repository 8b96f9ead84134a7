use Rattle.pnm_samples.proofs.Words.{◌/◌, ◌%◌, ◌<◌, length, get_or, arith}
use Rattle.pnm_samples.proofs.PixelLaws.{filled_up, placed_beyond, placed_in_byte}
use Rattle.pnm_samples.proofs.bits.place_within.Goals as goal

pub returns-then-free-count : goal.returns-then-free-count
returns-then-free-count c =
    let lt : c.args.held / 8 < length c.args.buffer.now = omega arith in
    let known = filled_up (get_or c.args.buffer.now (c.args.held / 8) 0) c.byte_after.result c.window.result (c.args.held % 8) (omega arith) c.window.ensures in
    placed_beyond c.args.buffer.now c.args.from.now c.args.held c.args.start c.args.count c.window.result c.byte_after.result c.requires.within.0
    c.requires.buffer lt known c.byte_after.ensures c.requires.run c.fill_run.new.buffer c.if-free-count.true c.fill_run.ensures

pub returns-else-free-count : goal.returns-else-free-count
returns-else-free-count c =
    let lt : c.args.held / 8 < length c.args.buffer.now = omega arith in
    let known = filled_up (get_or c.args.buffer.now (c.args.held / 8) 0) c.byte_after.result c.window.result (c.args.held % 8) (omega arith) c.window.ensures in
    placed_in_byte c.args.buffer.now c.args.from.now c.args.held c.args.start c.args.count c.window.result c.byte_after.result c.requires.within.0
    c.requires.buffer lt known c.byte_after.ensures c.requires.run c.if-free-count.false
