use Rattle.pnm_transpose.proofs.Words.{◌≡◌, ◌+◌, ◌-◌, ℕ, length, take, drop, subst, arith, HavePixels, column_of, common_steps}
use Rattle.std.proofs.Common.{length-drop}
use Rattle.pnm_transpose.proofs.ColumnLaws.{reach_rest, row_behind, row_of_rest, within}
use Rattle.pnm_transpose.proofs.batch.put_some.Goals as goal

pub overflow_mul-n : goal.overflow_mul-n
overflow_mul-n g c = omega (arith, c.requires.sizes.0, within c.loop-n.n 1 c.args.count c.args.depth (omega arith))

pub overflow_add-at : goal.overflow_add-at
overflow_add-at g c = omega (arith, c.requires.sizes.0, within c.loop-n.n 1 c.args.count c.args.depth (omega arith))

pub loop-n-preserved : goal.loop-n-preserved
loop-n-preserved g c =
    let all = c.args.rows.now in
    let y = c.args.y in
    let part = drop y all in
    let long : length part ≡ length all - y = length-drop y all in
    row_behind c.args.first c.args.depth c.loop-n.n part (omega arith) (row_of_rest y c.loop-n.n all (omega arith) c.row.ensures)
    (reach_rest c.args.depth c.args.first _ y all c.requires.rows) c.loop-n.invariant c.put_pixels.ensures

pub returns : goal.returns
returns g c =
    let count : c.loop-n.n ≡ c.args.count = omega arith in
    subst (λ (n : ℕ). HavePixels (length c.args.columns.now) c.args.at (λ k. column_of c.args.depth (take n (drop c.args.y c.args.rows.now)) (c.args.first + k))
    c.args.columns.now c.loop-n.columns) count c.loop-n.invariant

pub put_pixels-requires-clause-long : goal.put_pixels-requires-clause-long
put_pixels-requires-clause-long g c = grind (arith, common_steps)

pub put_pixels-requires-clause-row : goal.put_pixels-requires-clause-row
put_pixels-requires-clause-row g c = grind (arith, common_steps)
