use Rattle.pnm_samples.proofs.Words.{◌≡◌, ◌+◌, ◌-◌, ◌*◌, ◌≤◌, ◌∙◌, List, ℕ, length, take, drop, replicate, refl, ap, sym, arith, mul-le-mul_right, length-take}
use Rattle.pnm_samples.proofs.Words.{length-drop, take-replicate, take_all, all_pixels}
use Rattle.pnm_samples.proofs.RepeatLaws.{repeated}
use Rattle.pnm_samples.proofs.StretchLaws.{stretched_more, white_behind}
use Rattle.pnm_samples.proofs.bits.stretch.stretch_each.Goals as goal

pub overflow_mul-at : goal.overflow_mul-at
overflow_mul-at c = omega (arith, mul-le-mul_right {m = c.loop-i.i} {n = length c.args.bytes.now} c.args.times (omega arith))

pub overflow_add-at : goal.overflow_add-at
overflow_add-at c = omega (arith, mul-le-mul_right {m = c.loop-i.i + 1} {n = length c.args.bytes.now} c.args.times (omega arith))

pub slice_bounds-stretch-count : goal.slice_bounds-stretch-count
slice_bounds-stretch-count c = omega arith

pub slice_bounds-stretch-start : goal.slice_bounds-stretch-start
slice_bounds-stretch-start c = omega arith

pub slice_bounds-stretch-end : goal.slice_bounds-stretch-end
slice_bounds-stretch-end c = omega (arith, mul-le-mul_right {m = c.loop-i.i + 1} {n = length c.args.bytes.now} c.args.times (omega arith))

pub stretch-requires-clause-buffer : goal.stretch-requires-clause-buffer
stretch-requires-clause-buffer c =
    let at = c.loop-i.i * c.args.times in let size = at + c.args.times - at in
    let end : (c.loop-i.i + 1) * c.args.times ≤ length c.args.bytes.now * c.args.times = mul-le-mul_right {m = c.loop-i.i + 1} c.args.times (omega arith) in
    omega (arith, length-take size (drop at c.loop-i.buffer), length-drop at c.loop-i.buffer)

pub stretch-requires-clause-white : goal.stretch-requires-clause-white
stretch-requires-clause-white c =
    let at = c.loop-i.i * c.args.times in let size = at + c.args.times - at in let buffer = c.loop-i.buffer in
    let end : (c.loop-i.i + 1) * c.args.times ≤ length c.args.bytes.now * c.args.times = mul-le-mul_right {m = c.loop-i.i + 1} c.args.times (omega arith) in
    let long : size ≡ length (take size (drop at buffer)) = omega (arith, length-take size (drop at buffer), length-drop at buffer) in
    ap (take size) c.loop-i.invariant.1 ∙ take-replicate size (length buffer - at) 0 (omega arith) ∙ ap (λ (k : ℕ). replicate k 0) long

pub returns : goal.returns
returns c =
    let all : c.loop-i.i ≡ length c.args.bytes.now = omega arith in
    ap (λ (k : ℕ). take (8 * (k * c.args.times)) (all_pixels c.loop-i.buffer)) (sym all) ∙ c.loop-i.invariant.0
    ∙ ap (λ (l : List ℕ). repeated c.args.times (all_pixels l)) (take_all c.loop-i.i c.args.bytes.now (omega arith))

pub loop-i-preserved : goal.loop-i-preserved
loop-i-preserved c =
    let times = c.args.times in let i = c.loop-i.i in let at = i * times in let size = at + times - at in
    let buffer = c.loop-i.buffer in let part = c.stretch.new.buffer in let bytes = c.args.bytes.now in
    let same : size ≡ times = omega arith in
    let enough : (i + 1) * times ≤ length bytes * times = mul-le-mul_right {m = i + 1} {n = length bytes} times (omega arith) in
    let within : at + size ≤ length buffer = omega (arith, c.loop-i.auto.buffer, c.requires.buffer) in
    let long : length part ≡ size = omega (arith, c.stretch.auto.buffer, length-take size (drop at buffer), length-drop at buffer) in (
      stretched_more times i buffer part bytes (omega arith) refl (omega arith) long within refl c.loop-i.invariant.0 c.stretch.ensures,
      white_behind at ((i + 1) * times) buffer part within long (omega arith) refl c.loop-i.invariant.1,
    )
