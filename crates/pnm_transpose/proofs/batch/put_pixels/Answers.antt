use Rattle.pnm_transpose.proofs.Words.{◌≡◌, ◌+◌, ◌-◌, ◌*◌, ℕ, ap, arith, drop, take, length, subst, pixel_of, mid_len, HavePixels, common_steps}
use Rattle.pnm_transpose.proofs.ColumnLaws.{column_stored, nothing_stored, room_in, within}
use Rattle.pnm_transpose.proofs.batch.put_pixels.Goals as goal

pub loop-k-preserved : goal.loop-k-preserved
loop-k-preserved g c =
    let at = c.args.at in
    let depth = c.args.depth in
    let k = c.loop-k.k in
    let v = c.index-columns-k.result in
    let x = (c.args.first + k) * depth in
    let pixel : (x + depth) - x ≡ depth = omega arith in
    column_stored (λ k. pixel_of depth c.args.row.now (c.args.first + k)) v
    c.store.new.buffer c.loop-k.invariant (omega arith) c.as_mut_slice.ensures.value c.store.auto.buffer c.store.ensures
    (ap (λ (m : ℕ). take m (drop x c.args.row.now)) pixel)

pub loop-k-init : goal.loop-k-init
loop-k-init g c = nothing_stored

pub overflow_mul-x : goal.overflow_mul-x
overflow_mul-x g c =
    let end = within (c.args.first + c.loop-k.k) 1 (c.args.first + length c.args.columns.now) c.args.depth (omega arith) in
    omega (arith, end, c.requires.row)

pub overflow_add-x-in-loop-k : goal.overflow_add-x-in-loop-k
overflow_add-x-in-loop-k g c =
    let end = within (c.args.first + c.loop-k.k) 1 (c.args.first + length c.args.columns.now) c.args.depth (omega arith) in
    omega (arith, end, c.requires.row)

pub returns : goal.returns
returns g c =
    let all : c.loop-k.k ≡ length c.args.columns.now = omega (arith, c.loop-k.invariant.many) in
    subst (λ (n : ℕ). HavePixels n c.args.at (λ k. pixel_of c.args.depth c.args.row.now (c.args.first + k)) c.args.columns.now c.loop-k.columns) all
    c.loop-k.invariant

pub offset_bounds-row-x : goal.offset_bounds-row-x
offset_bounds-row-x g c = grind (arith, common_steps)

pub store-requires : goal.store-requires
store-requires g c =
    let at = c.args.at in
    let depth = c.args.depth in
    let k = c.loop-k.k in
    let x = (c.args.first + k) * depth in
    let end = within (c.args.first + k) 1 (c.args.first + length c.args.columns.now) depth (omega arith) in
    let room = room_in (at + depth) c.index-columns-k.result c.loop-k.invariant c.requires.long (omega arith) c.as_mut_slice.ensures.value in
    omega (arith, room, mid_len x (x + depth) c.args.row.now (omega (arith, end, c.requires.row)))
