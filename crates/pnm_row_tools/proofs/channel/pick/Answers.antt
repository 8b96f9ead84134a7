use Rattle.pnm_row_tools.proofs.Words.{◌≡◌, ℕ, ◌+◌, ◌*◌, length, drop, map, slice_index, slice_index_or, ap, refl, ◌∙◌, arith, range_with_len, common_steps}
use Rattle.pnm_row_tools.proofs.Words.{piece_written, columns_picked, as_wide}
use Rattle.pnm_row_tools.proofs.ChannelRowsLaws.{plane_picked}
use Rattle.pnm_row_tools.proofs.channel.pick.Goals as goal

pub loop-x-init : goal.loop-x-init
loop-x-init g c past =
    let none : 0 ≡ 0 * length c.args.numbers.now = omega arith in
    ap (λ (n : ℕ). drop n c.as_mut_slice-buffer.result.now) none

pub loop-x-preserved : goal.loop-x-preserved
loop-x-preserved g c past =
    let numbers = c.args.numbers.now in
    let size : length c.as_mut_slice-buffer.result.now ≡ c.args.pixels * length numbers = ap length c.as_mut_slice-buffer.ensures.value
    ∙ omega (arith, c.in_ok-picked.ensures.len, c.in_ok-picked.picked.ok.0) in
    piece_written (λ x. map (λ number. slice_index_or c.args.samples.now (x * c.args.shape.depth + number) past) numbers) (length numbers) c.args.pixels
    c.loop-x.x _ c.as_mut_slice-buffer.result.now c.loop-x.buffer c.pick_pixel.new.buffer c.loop-x-test.true size (omega arith) (c.loop-x.invariant past)
    (c.pick_pixel.ensures past) (omega arith)

pub returns : goal.returns
returns g c =
    let picked = c.in_ok-picked.picked in
    let all : c.loop-x.x ≡ c.args.pixels = omega arith in
    let size : length c.as_mut_slice-buffer.result.now ≡ c.loop-x.x * length c.args.numbers.now = ap length c.as_mut_slice-buffer.ensures.value
    ∙ omega (arith, c.in_ok-picked.ensures.len, picked.ok.0, ap (λ (n : ℕ). n * length c.args.numbers.now) all) in
    columns_picked c.args.numbers.now (as_wide c.args.pixels c.args.shape) c.args.samples.now c.loop-x.x picked.len c.as_mut_slice-buffer.result.now
    c.loop-x.buffer picked.items all size (omega arith) c.loop-x.invariant

pub returns-then-count-eq1 : goal.returns-then-count-eq1
returns-then-count-eq1 g c past =
    let picked = c.in_ok-picked.picked in
    let long : length c.pick_plane.new.buffer ≡ picked.len = omega arith in
    let all : picked.len ≡ c.args.pixels = omega (arith, c.in_ok-picked.ensures.len, ap (λ (n : ℕ). c.args.pixels * n) c.if-count-eq1.true) in
    let lent : length c.as_mut_slice-buffer.result.now ≡ c.args.pixels = omega (arith, all, c.as_mut_slice-buffer.ensures.len) in
    let number : ℕ = slice_index c.args.numbers.now 0 in
    plane_picked past c.args.numbers.now c.args.shape c.args.samples.now picked.items c.if-count-eq1.true refl long all (c.pick_plane.ensures past
    ∙ ap (λ (n : ℕ). map (λ x. slice_index_or c.args.samples.now (x * c.args.shape.depth + number) past) (range_with_len 0 n)) lent)

pub offset_bounds-buffer-x : goal.offset_bounds-buffer-x
offset_bounds-buffer-x g c = grind (arith, common_steps)
