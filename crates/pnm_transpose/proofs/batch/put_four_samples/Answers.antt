use Rattle.pnm_transpose.proofs.Words.{ap, drop, get_or, refl, take, [], ◌∙◌, ◌+◌, arith, ◌≡◌, ℕ, length, subst, column_of, HavePixels, common_steps}
use Rattle.pnm_transpose.proofs.ColumnLaws.{column_stored, room_in, four_of, reach, reach_part, row_of_part, row_reaches_at, four_samples, nothing_stored}
use Rattle.pnm_transpose.proofs.batch.put_four_samples.Goals as goal

pub loop-k-preserved : goal.loop-k-preserved
loop-k-preserved g c =
    let at = c.args.at in
    let k = c.loop-k.k in
    let v = c.index-columns-k.result in
    let rows = take 4 (drop c.args.y c.args.rows.now) in
    column_stored (λ k. column_of 1 rows (c.args.first + k)) v
    c.store.new.buffer c.loop-k.invariant (omega arith) c.as_mut_slice.ensures.value c.store.auto.buffer c.store.ensures (four_samples (c.args.first + k) rows
    (four_of c.args.y c.args.rows.now c.requires.four)
    (reach 1 c.args.first _ k rows (omega arith) (reach_part 1 c.args.first c.args.y 4 c.args.rows.now refl c.requires.rows))
    (row_of_part 4 c.args.y 0 c.args.rows.now (omega arith) (omega arith) (c.row-a.ensures ∙ ap (λ (n : ℕ). get_or c.args.rows.now n []) (omega arith)))
    (row_of_part 4 c.args.y 1 c.args.rows.now (omega arith) (omega arith) c.row-b.ensures)
    (row_of_part 4 c.args.y 2 c.args.rows.now (omega arith) (omega arith) c.row-c.ensures)
    (row_of_part 4 c.args.y 3 c.args.rows.now (omega arith) (omega arith) c.row-d.ensures) c.index-a-x.is c.index-b-x.is c.index-c-x.is c.index-d-x.is)

pub bounds-a-x : goal.bounds-a-x
bounds-a-x g c =
    let fits = row_reaches_at 1 c.args.first _ c.loop-k.k (c.args.y + 0) c.args.rows.now (omega arith) (omega arith)
    (c.row-a.ensures ∙ ap (λ (n : ℕ). get_or c.args.rows.now n []) (omega arith)) c.requires.rows in
    omega (arith, fits)

pub bounds-b-x : goal.bounds-b-x
bounds-b-x g c =
    let fits = row_reaches_at 1 c.args.first _ c.loop-k.k (c.args.y + 1) c.args.rows.now (omega arith) (omega arith) c.row-b.ensures c.requires.rows in
    omega (arith, fits)

pub bounds-c-x : goal.bounds-c-x
bounds-c-x g c =
    let fits = row_reaches_at 1 c.args.first _ c.loop-k.k (c.args.y + 2) c.args.rows.now (omega arith) (omega arith) c.row-c.ensures c.requires.rows in
    omega (arith, fits)

pub bounds-d-x : goal.bounds-d-x
bounds-d-x g c =
    let fits = row_reaches_at 1 c.args.first _ c.loop-k.k (c.args.y + 3) c.args.rows.now (omega arith) (omega arith) c.row-d.ensures c.requires.rows in
    omega (arith, fits)

pub loop-k-init : goal.loop-k-init
loop-k-init g c = nothing_stored

pub returns : goal.returns
returns g c =
    let all : c.loop-k.k ≡ length c.args.columns.now = omega (arith, c.loop-k.invariant.many) in
    subst (λ (n : ℕ). HavePixels n c.args.at (λ k. column_of 1 (take 4 (drop c.args.y c.args.rows.now)) (c.args.first + k)) c.args.columns.now
    c.loop-k.columns) all
    c.loop-k.invariant

pub offset_bounds-b-x : goal.offset_bounds-b-x
offset_bounds-b-x g c = grind (arith, common_steps)

pub offset_bounds-d-x : goal.offset_bounds-d-x
offset_bounds-d-x g c = grind (arith, common_steps)

pub offset_bounds-c-x : goal.offset_bounds-c-x
offset_bounds-c-x g c = grind (arith, common_steps)

pub offset_bounds-a-x : goal.offset_bounds-a-x
offset_bounds-a-x g c = grind (arith, common_steps)

pub store-requires : goal.store-requires
store-requires g c = room_in (c.args.at + 4) c.index-columns-k.result c.loop-k.invariant c.requires.long (omega arith) c.as_mut_slice.ensures.value

pub shared_whole_as_slice-store : goal.shared_whole_as_slice-store
shared_whole_as_slice-store g c =
    let room = room_in (c.args.at + 4) c.index-columns-k.result c.loop-k.invariant c.requires.long (omega arith) c.as_mut_slice.ensures.value in
    grind (arith, common_steps, room)
