use Rattle.pnm_samples.proofs.Words.{◌≡◌, ◌*◌, ◌/◌, ◌%◌, ◌∙◌, ap, arith, ℕ, length, take, drop, length-take, all_pixels}
use Rattle.pnm_samples.proofs.PixelLaws.{run_filled, run_of_whole_bytes}
use Rattle.pnm_samples.proofs.bits.fill_run.Goals as goal

pub returns-then-whole-buffer : goal.returns-then-whole-buffer
returns-then-whole-buffer c =
    let n = c.args.count / 8 in
    let size : length (take n c.args.buffer.now) ≡ n = omega (arith, length-take n c.args.buffer.now) in
    run_filled c.args.from.now c.args.buffer.now c.fill_whole.new.buffer c.args.start c.args.count c.byte_after.result c.requires.buffer c.if-whole-buffer.true
    (omega (arith, size))
    (c.fill_whole.ensures ∙ ap (λ (k : ℕ). take (8 * k) (drop c.args.start (all_pixels c.args.from.now))) size)
    (c.byte_after.ensures (c.args.count % 8) (omega arith) (omega arith))

pub returns-else-whole-buffer : goal.returns-else-whole-buffer
returns-else-whole-buffer c =
    let n = c.args.count / 8 in
    let size : length (take n c.args.buffer.now) ≡ n = omega (arith, length-take n c.args.buffer.now) in
    run_of_whole_bytes c.args.from.now c.args.buffer.now c.fill_whole.new.buffer c.args.start c.args.count c.requires.buffer c.if-whole-buffer.false
    (omega (arith, size))
    (c.fill_whole.ensures ∙ ap (λ (k : ℕ). take (8 * k) (drop c.args.start (all_pixels c.args.from.now))) size)
