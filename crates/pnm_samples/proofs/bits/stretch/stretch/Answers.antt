use Rattle.pnm_samples.proofs.Words.{◌≡◌, ◌*◌, ◌-◌, ◌++◌, ◌∙◌, ℕ, length, take, replicate, ap, sym, arith, mul-le-mul_right, take_all, pixels, all_pixels}
use Rattle.pnm_samples.proofs.PixelLaws.{length-pixels, length-all_pixels, get_or-pixels}
use Rattle.pnm_samples.proofs.RepeatLaws.{repeated}
use Rattle.pnm_samples.proofs.StretchLaws.{stretched_step, white_pixels}
use Rattle.pnm_samples.proofs.bits.stretch.stretch.Goals as goal

pub overflow_mul-i : goal.overflow_mul-i
overflow_mul-i c = omega (arith, mul-le-mul_right {m = c.loop-i.i} {n = 8} c.args.times (omega arith))

pub paint-requires-clause-buffer : goal.paint-requires-clause-buffer
paint-requires-clause-buffer c = omega (arith, mul-le-mul_right {m = c.loop-i.i} {n = 8} c.args.times (omega arith))

pub paint-requires-clause-held : goal.paint-requires-clause-held
paint-requires-clause-held c =
    let old = all_pixels c.loop-i.buffer in let kept = c.loop-i.i * c.args.times in
    c.loop-i.invariant.1 ∙ ap (λ (k : ℕ). take kept old ++ replicate (k - kept) c.loop-i.held) (length-all_pixels c.loop-i.buffer)

pub loop-i-init : goal.loop-i-init
loop-i-init c =
    let none : 0 * c.args.times ≡ 0 = omega arith in
    white_pixels none c.requires.white

pub loop-i-preserved : goal.loop-i-preserved
loop-i-preserved c =
    let i = c.loop-i.i in let times = c.args.times in let old = all_pixels c.loop-i.buffer in let pixel = c.pixel_at-pixel.result in
    let size : 8 * length c.loop-i.buffer ≡ length old = sym (length-all_pixels c.loop-i.buffer) in
    stretched_step times i old (all_pixels c.paint.new.buffer) (pixels c.args.byte) (omega arith) (length-pixels c.args.byte)
    (omega (arith, size)) (get_or-pixels c.args.byte i (omega arith) ∙ sym c.pixel_at-pixel.ensures) c.loop-i.invariant.0
    (c.paint.ensures ∙ ap (λ (k : ℕ). take (i * times) old ++ replicate (k - i * times) pixel) size)

pub returns : goal.returns
returns c =
    let all : c.loop-i.i ≡ 8 = omega arith in
    ap (λ (k : ℕ). take (k * c.args.times) (all_pixels c.loop-i.buffer)) (sym all) ∙ c.loop-i.invariant.0
    ∙ ap (repeated c.args.times) (take_all c.loop-i.i (pixels c.args.byte) (omega (arith, length-pixels c.args.byte)))
