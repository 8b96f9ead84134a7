use Rattle.pnm_repeat_tools.proofs.Words.{◌≡◌, ◌≤◌, ◌*◌, ℕ, length, map, replicate, ap, sym, subst, arith, flat_map, IfOk-weaker, row_length, AreRows}
use Rattle.pnm_repeat_tools.proofs.Words.{AreSliceRows, HoldsRows, slice_lists, RowVec, rows_need, enlarged_row}
use Rattle.pnm_repeat_tools.proofs.CutRowsLaws.{lengths_of}
use Rattle.pnm_repeat_tools.proofs.WideRowLaws.{only_repeated, only_widened, widened_repeated}
use Rattle.pnm_repeat_tools.proofs.larger.enlarge_held.Goals as goal

pub returns-then-across-eq1-clause-made : goal.returns-then-across-eq1-clause-made
returns-then-across-eq1-clause-made c =
    let s = c.args.shape in
    let rows = c.args.rows.now in
    let each = c.row_length-each.result in
    let count = c.count-count.result in
    let across = c.args.across in
    let down = c.args.down in
    let need = rows_need s each rows c.row_length-each.ensures.some c.row_length-each.ensures.each c.requires.rows in
    let P : RowVec → Type 0 = λ made. HoldsRows (count * down) each (flat_map (replicate down) (slice_lists count each c.as_slice.result)) made in
    let Q : RowVec → Type 0 = λ made. HoldsRows (length rows * down) (row_length s * across)
    (flat_map (replicate down) (map (enlarged_row across s) rows)) made in
    IfOk-weaker c.repeat_rows.result P Q
    (λ made h. only_repeated down s c.as_slice.result made c.if-across-eq1.true c.count-count.ensures.rows need.0 c.requires.rows
    (c.as_slice.ensures.rows each c.row_length-each.ensures.each) h) c.repeat_rows.ensures.made

pub widen_rows-requires-clause-rows : goal.widen_rows-requires-clause-rows
widen_rows-requires-clause-rows c =
    let s = c.args.shape in
    let rows = c.args.rows.now in
    let each = c.row_length-each.result in
    let need = rows_need s each rows c.row_length-each.ensures.some c.row_length-each.ensures.each c.requires.rows in
    subst (λ (n : ℕ). AreSliceRows n (row_length s) c.as_slice-2.result) (sym c.count-count.ensures.rows)
    (subst (λ (n : ℕ). AreSliceRows (length rows) n c.as_slice-2.result) need.0 (c.as_slice-2.ensures.whole each c.row_length-each.ensures.each))

pub returns-then-down-eq1-clause-made : goal.returns-then-down-eq1-clause-made
returns-then-down-eq1-clause-made c =
    let s = c.args.shape in
    let rows = c.args.rows.now in
    let each = c.row_length-each.result in
    let need = rows_need s each rows c.row_length-each.ensures.some c.row_length-each.ensures.each c.requires.rows in
    let lists = c.as_slice-2.ensures.rows (row_length s) (lengths_of s rows c.requires.rows) in
    only_widened c.args.across s c.as_slice-2.result c.in_ok-wide.wide c.if-down-eq1.true c.count-count.ensures.rows lists c.in_ok-wide.ensures.made

pub overflow_mul-each : goal.overflow_mul-each
overflow_mul-each c =
    let need = rows_need c.args.shape c.row_length-each.result c.args.rows.now c.row_length-each.ensures.some c.row_length-each.ensures.each c.requires.rows in
    let wide : c.row_length-each.result * c.args.across ≤ 16777216 = omega (arith, ap (λ (n : ℕ). n * c.args.across) need.0, c.requires.ready.row) in
    omega (arith, wide)

pub repeat_rows-requires-2 : goal.repeat_rows-requires-2
repeat_rows-requires-2 c =
    let s = c.args.shape in
    let count = c.count-count.result in
    let each = c.row_length-each.result in
    let need = rows_need s each c.args.rows.now c.row_length-each.ensures.some c.row_length-each.ensures.each c.requires.rows in
    let wide : row_length s * c.args.across ≡ each * c.args.across = ap (λ (n : ℕ). n * c.args.across) (sym need.0) in
    c.as_slice-3.ensures.whole count (each * c.args.across) (subst (λ (n : ℕ). AreRows count n c.in_ok-wide.wide) wide c.in_ok-wide.ensures.made.1)

pub returns-clause-made : goal.returns-clause-made
returns-clause-made c =
    let s = c.args.shape in
    let rows = c.args.rows.now in
    let each = c.row_length-each.result in
    let count = c.count-count.result in
    let across = c.args.across in
    let down = c.args.down in
    let need = rows_need s each rows c.row_length-each.ensures.some c.row_length-each.ensures.each c.requires.rows in
    let lists = c.as_slice-2.ensures.rows (row_length s) (lengths_of s rows c.requires.rows) in
    let P : RowVec → Type 0 = λ made. HoldsRows (count * down) (each * across)
    (flat_map (replicate down) (slice_lists count (each * across) c.as_slice-3.result)) made in
    let Q : RowVec → Type 0 = λ made. HoldsRows (length rows * down) (row_length s * across)
    (flat_map (replicate down) (map (enlarged_row across s) rows)) made in
    IfOk-weaker c.repeat_rows-2.result P Q
    (λ made h. widened_repeated across down s c.as_slice-2.result c.as_slice-3.result c.in_ok-wide.wide made c.count-count.ensures.rows need.0
    lists c.in_ok-wide.ensures.made (c.as_slice-3.ensures.lists count (each * across)) h) c.repeat_rows-2.ensures.made
