use Rattle.pnm_samples.proofs.Words.{◌≡◌, ◌+◌, ◌-◌, ◌*◌, ◌/◌, ◌%◌, ◌<◌, ◌≤◌, ◌∙◌, List, ℕ, length, get_or, take, drop, refl, ap, sym, arith, mul-le-mul_right}
use Rattle.pnm_samples.proofs.Words.{length-take, length-drop, take_all, all_pixels}
use Rattle.pnm_samples.proofs.RepeatLaws.{repeated}
use Rattle.pnm_samples.proofs.StretchLaws.{stretched_more, overlaid_byte, half_at}
use Rattle.pnm_samples.proofs.bits.stretch.fill_stretched.Goals as goal

-- what a half's picture ends at
half_ends : (half step long : ℕ) → half < 16 → 16 * step ≤ long → half * step + step ≤ long
half_ends half step long lt enough = omega (arith, mul-le-mul_right {m = half + 1} {n = 16} step (omega arith))

-- how long a range of so many bytes is
part_long : (at size : ℕ) (bytes : List ℕ) → at + size ≤ length bytes → length (take (at + size - at) (drop at bytes)) ≡ size
part_long at size bytes within = omega (arith, length-take (at + size - at) (drop at bytes), length-drop at bytes)

pub overflow_mul-high : goal.overflow_mul-high
overflow_mul-high c =
    let lt : get_or c.args.bytes.now c.loop-i.i 0 < 256 = omega (arith, c.type_inv.bytes c.loop-i.i) in
    omega (arith, half_ends (get_or c.args.bytes.now c.loop-i.i 0 / 16) c.stride_of-stride.result (16 * c.stride_of-stride.result) (omega arith) (omega arith))

pub overflow_mul-low : goal.overflow_mul-low
overflow_mul-low c =
    omega (arith, half_ends (get_or c.args.bytes.now c.loop-i.i 0 % 16) c.stride_of-stride.result (16 * c.stride_of-stride.result) (omega arith) (omega arith))

pub overflow_mul-at : goal.overflow_mul-at
overflow_mul-at c = omega (arith, mul-le-mul_right {m = c.loop-i.i} {n = length c.args.bytes.now} c.args.times (omega arith))

pub overflow_add-at : goal.overflow_add-at
overflow_add-at c = omega (arith, mul-le-mul_right {m = c.loop-i.i + 1} {n = length c.args.bytes.now} c.args.times (omega arith))

pub slice_bounds-overlay-count : goal.slice_bounds-overlay-count
slice_bounds-overlay-count c = omega arith

pub slice_bounds-overlay-start : goal.slice_bounds-overlay-start
slice_bounds-overlay-start c = omega arith

pub slice_bounds-overlay-end : goal.slice_bounds-overlay-end
slice_bounds-overlay-end c = omega (arith, mul-le-mul_right {m = c.loop-i.i + 1} {n = length c.args.bytes.now} c.args.times (omega arith))

pub overflow_add-high : goal.overflow_add-high
overflow_add-high c =
    let lt : get_or c.args.bytes.now c.loop-i.i 0 < 256 = omega (arith, c.type_inv.bytes c.loop-i.i) in
    let step = c.stride_of-stride.result in
    omega (arith, half_ends (get_or c.args.bytes.now c.loop-i.i 0 / 16) step (16 * step) (omega arith) (omega arith))

pub slice_bounds-overlay-count-in-loop-i : goal.slice_bounds-overlay-count-in-loop-i
slice_bounds-overlay-count-in-loop-i c = omega arith

pub slice_bounds-overlay-start-in-loop-i : goal.slice_bounds-overlay-start-in-loop-i
slice_bounds-overlay-start-in-loop-i c = omega arith

pub slice_bounds-overlay-end-in-loop-i : goal.slice_bounds-overlay-end-in-loop-i
slice_bounds-overlay-end-in-loop-i c =
    let lt : get_or c.args.bytes.now c.loop-i.i 0 < 256 = omega (arith, c.type_inv.bytes c.loop-i.i) in
    let step = c.stride_of-stride.result in
    omega (
      arith,
      half_ends (get_or c.args.bytes.now c.loop-i.i 0 / 16) step (16 * step) (omega arith) (omega arith),
      c.requires.left.enough,
      c.stride_of-stride.ensures.whole,
    )

pub overflow_add-low : goal.overflow_add-low
overflow_add-low c =
    let step = c.stride_of-stride.result in
    omega (arith, half_ends (get_or c.args.bytes.now c.loop-i.i 0 % 16) step (16 * step) (omega arith) (omega arith))

pub slice_bounds-overlay-count-in-loop-i-2 : goal.slice_bounds-overlay-count-in-loop-i-2
slice_bounds-overlay-count-in-loop-i-2 c = omega arith

pub slice_bounds-overlay-start-in-loop-i-2 : goal.slice_bounds-overlay-start-in-loop-i-2
slice_bounds-overlay-start-in-loop-i-2 c = omega arith

pub slice_bounds-overlay-end-in-loop-i-2 : goal.slice_bounds-overlay-end-in-loop-i-2
slice_bounds-overlay-end-in-loop-i-2 c =
    let step = c.stride_of-stride.result in
    omega (
      arith,
      half_ends (get_or c.args.bytes.now c.loop-i.i 0 % 16) step (16 * step) (omega arith) (omega arith),
      c.requires.right.enough,
      c.stride_of-stride.ensures.whole,
    )

pub overlay-requires-clause-whole : goal.overlay-requires-clause-whole
overlay-requires-clause-whole c =
    let at = c.loop-i.i * c.args.times in let step = c.stride_of-stride.result in let buffer = c.loop-i.buffer in
    let end : (c.loop-i.i + 1) * c.args.times ≤ length c.args.bytes.now * c.args.times = mul-le-mul_right {m = c.loop-i.i + 1} c.args.times (omega arith) in
    omega (arith, part_long at step buffer (omega arith), c.stride_of-stride.ensures.whole)

pub overlay-requires-clause-left : goal.overlay-requires-clause-left
overlay-requires-clause-left c =
    let at = c.loop-i.i * c.args.times in let step = c.stride_of-stride.result in let buffer = c.loop-i.buffer in
    let half = get_or c.args.bytes.now c.loop-i.i 0 / 16 in
    let end : (c.loop-i.i + 1) * c.args.times ≤ length c.args.bytes.now * c.args.times = mul-le-mul_right {m = c.loop-i.i + 1} c.args.times (omega arith) in
    let lt : get_or c.args.bytes.now c.loop-i.i 0 < 256 = omega (arith, c.type_inv.bytes c.loop-i.i) in
    let within : half * step + step ≤ length c.args.left.now =
    half_ends half step (length c.args.left.now) (omega arith) (omega (arith, c.requires.left.enough, c.stride_of-stride.ensures.whole)) in
    part_long (half * step) step c.args.left.now within ∙ sym (part_long at step buffer (omega arith))

pub overlay-requires-clause-right : goal.overlay-requires-clause-right
overlay-requires-clause-right c =
    let at = c.loop-i.i * c.args.times in let step = c.stride_of-stride.result in let buffer = c.loop-i.buffer in
    let half = get_or c.args.bytes.now c.loop-i.i 0 % 16 in
    let end : (c.loop-i.i + 1) * c.args.times ≤ length c.args.bytes.now * c.args.times = mul-le-mul_right {m = c.loop-i.i + 1} c.args.times (omega arith) in
    let within : half * step + step ≤ length c.args.right.now =
    half_ends half step (length c.args.right.now) (omega arith) (omega (arith, c.requires.right.enough, c.stride_of-stride.ensures.whole)) in
    part_long (half * step) step c.args.right.now within ∙ sym (part_long at step buffer (omega arith))

pub returns : goal.returns
returns c =
    let all : c.loop-i.i ≡ length c.args.bytes.now = omega arith in
    ap (λ (k : ℕ). take (8 * (k * c.args.times)) (all_pixels c.loop-i.buffer)) (sym all) ∙ c.loop-i.invariant
    ∙ ap (λ (l : List ℕ). repeated c.args.times (all_pixels l)) (take_all c.loop-i.i c.args.bytes.now (omega arith))

pub loop-i-preserved : goal.loop-i-preserved
loop-i-preserved c =
    let times = c.args.times in let i = c.loop-i.i in let at = i * times in let step = c.stride_of-stride.result in let size = at + step - at in
    let buffer = c.loop-i.buffer in let part = c.overlay.new.buffer in let bytes = c.args.bytes.now in let byte = get_or bytes i 0 in
    let high = byte / 16 * step in let low = byte % 16 * step in
    let left = take (high + step - high) (drop high c.args.left.now) in let right = take (low + step - low) (drop low c.args.right.now) in
    let lt : byte < 256 = omega (arith, c.type_inv.bytes i) in
    let enough : (i + 1) * times ≤ length bytes * times = mul-le-mul_right {m = i + 1} {n = length bytes} times (omega arith) in
    let within : at + size ≤ length buffer = omega arith in
    let long : length part ≡ size = omega (arith, c.overlay.auto.buffer, length-take size (drop at buffer), length-drop at buffer) in
    let first : byte / 16 * step + step ≤ length c.args.left.now =
    omega (arith, c.requires.left.enough, mul-le-mul_right {m = byte / 16 + 1} {n = 16} step (omega arith), c.stride_of-stride.ensures.whole) in
    let second : byte % 16 * step + step ≤ length c.args.right.now =
    omega (arith, c.requires.right.enough, mul-le-mul_right {m = byte % 16 + 1} {n = 16} step (omega arith), c.stride_of-stride.ensures.whole) in
    stretched_more times i buffer part bytes (omega arith) refl (omega (arith, c.stride_of-stride.ensures.enough)) long within refl c.loop-i.invariant
    (overlaid_byte times byte left right lt c.overlay.ensures (half_at (byte / 16) (high + step - high) c.requires.left (omega arith)
    (ap (λ (k : ℕ). byte / 16 * k) c.stride_of-stride.ensures.whole) (omega (arith, c.stride_of-stride.ensures.whole)))
    (half_at (byte % 16) (low + step - low) c.requires.right (omega arith)
    (ap (λ (k : ℕ). byte % 16 * k) c.stride_of-stride.ensures.whole) (omega (arith, c.stride_of-stride.ensures.whole))))
