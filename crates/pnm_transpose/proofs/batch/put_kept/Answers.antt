use Rattle.pnm_transpose.proofs.ColumnLaws.{room_left}
use Rattle.pnm_transpose.proofs.Words.{STRIP_ROWS, ◌*◌, ℕ, ap, refl, arith}
use Rattle.pnm_transpose.proofs.StripLaws.{rows_stored_first, strips_stored_first, kept_samples, reach_lent}
use Rattle.pnm_transpose.proofs.batch.put_kept.Goals as goal

pub returns-then-rows_first : goal.returns-then-rows_first
returns-then-rows_first g c =
    rows_stored_first c.args.rows_first c.args.first c.args.depth c.args.kept.now.strips.items c.args.kept.now.rows c.as_slice-strips.result.now
    c.args.kept.now.rows c.args.columns.now c.put_all.new.columns c.put_rows.new.columns
    c.if-rows_first.true c.as_slice-strips.ensures.value refl c.requires.reach c.put_all.ensures
    (rw c.len.ensures at c.put_rows.ensures)

pub returns-else-rows_first : goal.returns-else-rows_first
returns-else-rows_first g c =
    strips_stored_first c.args.rows_first c.args.first c.args.depth c.args.kept.now.strips.items c.args.kept.now.rows c.as_slice-strips.result.now
    c.args.kept.now.rows c.args.columns.now
    c.put_rows-else-rows_first.new.columns c.put_all-else-rows_first.new.columns
    c.if-rows_first.false c.as_slice-strips.ensures.value refl c.requires.reach c.put_rows-else-rows_first.ensures
    c.put_all-else-rows_first.ensures

pub overflow_mul-strips : goal.overflow_mul-strips
overflow_mul-strips g c =
    let counted = kept_samples c.args.depth c.args.kept.now.strips.items c.args.kept.now.rows c.as_slice-strips.result.now c.args.kept.now.rows
    c.as_slice-strips.ensures.value refl in
    omega (arith, counted, c.requires.sizes.0)

pub put_all-requires-clause-sizes : goal.put_all-requires-clause-sizes
put_all-requires-clause-sizes g c =
    let counted = kept_samples c.args.depth c.args.kept.now.strips.items c.args.kept.now.rows c.as_slice-strips.result.now c.args.kept.now.rows
    c.as_slice-strips.ensures.value refl in
    (omega (arith, counted, c.requires.sizes.0), c.requires.sizes.1, c.requires.sizes.2)

pub put_all-requires-clause-long : goal.put_all-requires-clause-long
put_all-requires-clause-long g c k d below =
    let counted = kept_samples c.args.depth c.args.kept.now.strips.items c.args.kept.now.rows c.as_slice-strips.result.now c.args.kept.now.rows
    c.as_slice-strips.ensures.value refl in
    omega (arith, counted, c.requires.long k d below)

pub put_all-requires-clause-rows : goal.put_all-requires-clause-rows
put_all-requires-clause-rows g c =
    reach_lent c.args.first c.args.depth _ _ _ _ refl refl c.requires.reach.each_row

pub put_rows-requires-clause-sizes : goal.put_rows-requires-clause-sizes
put_rows-requires-clause-sizes g c =
    let many = ap (λ (n : ℕ). n * c.args.depth) c.len.ensures in
    let counted = kept_samples c.args.depth c.args.kept.now.strips.items c.args.kept.now.rows c.as_slice-strips.result.now c.args.kept.now.rows
    c.as_slice-strips.ensures.value refl in
    (omega (arith, counted, many, c.requires.sizes.0), omega (arith, c.requires.sizes.2, c.put_all.ensures.many))

pub put_rows-requires-clause-long : goal.put_rows-requires-clause-long
put_rows-requires-clause-long g c =
    let many = ap (λ (n : ℕ). n * c.args.depth) c.len.ensures in
    let counted = kept_samples c.args.depth c.args.kept.now.strips.items c.args.kept.now.rows c.as_slice-strips.result.now c.args.kept.now.rows
    c.as_slice-strips.ensures.value refl in
    room_left _ _ (omega (arith, counted, many)) c.requires.long c.put_all.ensures

pub put_rows-requires-clause-rows : goal.put_rows-requires-clause-rows
put_rows-requires-clause-rows g c =
    reach_lent c.args.first (STRIP_ROWS * c.args.depth) _ _ _ _ c.as_slice-strips.ensures.value c.put_all.ensures.many c.requires.reach.each_strip

pub put_rows-requires-else-rows_first-clause-sizes : goal.put_rows-requires-else-rows_first-clause-sizes
put_rows-requires-else-rows_first-clause-sizes g c =
    let counted = kept_samples c.args.depth c.args.kept.now.strips.items c.args.kept.now.rows c.as_slice-strips.result.now c.args.kept.now.rows
    c.as_slice-strips.ensures.value refl in
    (omega (arith, counted, c.requires.sizes.0), c.requires.sizes.2)

pub put_rows-requires-else-rows_first-clause-long : goal.put_rows-requires-else-rows_first-clause-long
put_rows-requires-else-rows_first-clause-long g c k d below =
    let counted = kept_samples c.args.depth c.args.kept.now.strips.items c.args.kept.now.rows c.as_slice-strips.result.now c.args.kept.now.rows
    c.as_slice-strips.ensures.value refl in
    omega (arith, counted, c.requires.long k d below)

pub put_rows-requires-else-rows_first-clause-rows : goal.put_rows-requires-else-rows_first-clause-rows
put_rows-requires-else-rows_first-clause-rows g c =
    reach_lent c.args.first (STRIP_ROWS * c.args.depth) _ _ _ _ c.as_slice-strips.ensures.value refl c.requires.reach.each_strip

pub put_all-requires-else-rows_first-clause-sizes : goal.put_all-requires-else-rows_first-clause-sizes
put_all-requires-else-rows_first-clause-sizes g c =
    let counted = kept_samples c.args.depth c.args.kept.now.strips.items c.args.kept.now.rows c.as_slice-strips.result.now c.args.kept.now.rows
    c.as_slice-strips.ensures.value refl in
    (omega (arith, counted, c.requires.sizes.0), c.requires.sizes.1, omega (arith, c.requires.sizes.2, c.put_rows-else-rows_first.ensures.many))

pub put_all-requires-else-rows_first-clause-long : goal.put_all-requires-else-rows_first-clause-long
put_all-requires-else-rows_first-clause-long g c =
    let counted = kept_samples c.args.depth c.args.kept.now.strips.items c.args.kept.now.rows c.as_slice-strips.result.now c.args.kept.now.rows
    c.as_slice-strips.ensures.value refl in
    room_left _ _ (omega (arith, counted)) c.requires.long c.put_rows-else-rows_first.ensures

pub put_all-requires-else-rows_first-clause-rows : goal.put_all-requires-else-rows_first-clause-rows
put_all-requires-else-rows_first-clause-rows g c =
    reach_lent c.args.first c.args.depth _ _ _ _ refl
    c.put_rows-else-rows_first.ensures.many c.requires.reach.each_row
