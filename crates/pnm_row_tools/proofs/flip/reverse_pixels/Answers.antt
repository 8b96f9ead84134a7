use Rattle.pnm_row_tools.proofs.Words.{◌≡◌, ◌*◌, ◌∙◌, ℕ, ap, drop, reverse, arith, columns_end, common_steps}
use Rattle.pnm_row_tools.proofs.FlipRowLaws.{pixel_more, pixels_turned, one_plane}
use Rattle.pnm_row_tools.proofs.flip.reverse_pixels.Goals as goal

pub loop-x-preserved : goal.loop-x-preserved
loop-x-preserved g c =
    pixel_more c.args.pixels c.args.size c.args.samples.now c.loop-x.x _ c.loop-x-test.true
    c.requires.pixels (omega arith) c.loop-x.invariant c.reverse-in-loop-x.ensures.after (omega arith)

pub returns-else-size-gt1 : goal.returns-else-size-gt1
returns-else-size-gt1 g c = one_plane c.args.pixels c.args.size c.args.samples.now c.requires.size c.if-size-gt1.false c.requires.pixels c.reverse.ensures.after

pub overflow_mul-x : goal.overflow_mul-x
overflow_mul-x g c =
    omega (arith, columns_end c.args.pixels c.args.size c.loop-x.x c.loop-x-test.true, c.requires.pixels)

pub overflow_mul-x-in-loop-x : goal.overflow_mul-x-in-loop-x
overflow_mul-x-in-loop-x g c =
    omega (arith, columns_end c.args.pixels c.args.size c.loop-x.x c.loop-x-test.true, c.requires.pixels)

pub loop-x-init : goal.loop-x-init
loop-x-init g c =
    let none : 0 ≡ 0 * c.args.size = omega arith in
    c.reverse.ensures.after ∙ ap (λ (n : ℕ). drop n (reverse c.args.samples.now)) none

pub slice_bounds-reverse-end : goal.slice_bounds-reverse-end
slice_bounds-reverse-end g c =
    omega (arith, columns_end c.args.pixels c.args.size c.loop-x.x c.loop-x-test.true, c.requires.pixels)

pub offset_bounds-samples-x : goal.offset_bounds-samples-x
offset_bounds-samples-x g c = grind (arith, common_steps)

pub returns-after-loop-x : goal.returns-after-loop-x
returns-after-loop-x g c = pixels_turned c.args.pixels c.args.size c.args.samples.now c.loop-x.x c.requires.pixels (omega arith) c.loop-x.invariant
