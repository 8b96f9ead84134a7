use Rattle.pnm_transpose.proofs.Words.{length, arith, common_steps}
use Rattle.pnm_transpose.proofs.ColumnLaws.{row_behind, all_behind, looked_up, within}
use Rattle.pnm_transpose.proofs.batch.put_rows.Goals as goal

pub overflow_mul-n : goal.overflow_mul-n
overflow_mul-n g c = omega (arith, c.requires.sizes.0, within c.loop-n.n 1 (length c.args.rows.now) c.args.depth (omega arith))

pub overflow_add-at : goal.overflow_add-at
overflow_add-at g c = omega (arith, c.requires.sizes.0, within c.loop-n.n 1 (length c.args.rows.now) c.args.depth (omega arith))

pub loop-n-preserved : goal.loop-n-preserved
loop-n-preserved g c =
    row_behind c.args.first c.args.depth c.loop-n.n c.args.rows.now
    c.loop-n-test.true (looked_up c.args.rows.now c.loop-n.n c.as_slice.ensures c.index-rows-n.is) c.requires.rows c.loop-n.invariant c.put_pixels.ensures

pub returns : goal.returns
returns g c = all_behind c.args.first c.args.depth c.loop-n.n c.args.rows.now c.loop-n-test.false c.loop-n.invariant

pub put_pixels-requires-clause-long : goal.put_pixels-requires-clause-long
put_pixels-requires-clause-long g c = grind (arith, common_steps)

pub put_pixels-requires-clause-row : goal.put_pixels-requires-clause-row
put_pixels-requires-clause-row g c = grind (arith, common_steps)
