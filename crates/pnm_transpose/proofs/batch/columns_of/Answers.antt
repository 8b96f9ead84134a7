use Rattle.pnm_transpose.proofs.Words.{◌≡◌, ℕ, ◌*◌, length, ap, arith, ◌+◌, sym, subst, ◌∙◌, STRIP_ROWS, ReachColumns}
use Rattle.pnm_transpose.proofs.StripLaws.{kept_columns_made}
use Rattle.pnm_transpose.proofs.ColumnLaws.{blank_enough}
use Rattle.pnm_transpose.proofs.batch.columns_of.Goals as goal

pub returns-clause-made : goal.returns-clause-made
returns-clause-made g c =
    let depth = c.args.depth in
    let strips : c.len.result ≡ length c.args.kept.now.strips.items = omega (arith, c.args.kept.now.strips.ok.0) in
    let rows : c.len-2.result ≡ length c.args.kept.now.rows = c.len-2.ensures in
    let parts = ap (λ (n : ℕ). STRIP_ROWS * depth * n) strips in
    let rest = ap (λ (n : ℕ). depth * n) rows in
    kept_columns_made c.args.rows_first c.args.first c.args.count c.args.depth _ _ c.args.kept.now.strips.items c.args.kept.now.rows
    c.in_ok-columns.columns.items c.as_mut_slice.result.now c.put_kept.new.columns
    (omega (arith, parts, rest)) c.requires.reach c.as_mut_slice.ensures.value (omega (arith, c.in_ok-columns.columns.ok.0)) c.in_ok-columns.ensures.blank
    c.put_kept.ensures

pub overflow_mul-samples-2 : goal.overflow_mul-samples-2
overflow_mul-samples-2 g c =
    let strips : c.len.result ≡ length c.args.kept.now.strips.items = omega (arith, c.args.kept.now.strips.ok.0) in
    let parts = ap (λ (n : ℕ). STRIP_ROWS * c.args.depth * n) strips in
    omega (arith, parts, c.requires.sizes.0)

pub overflow_mul-samples-3 : goal.overflow_mul-samples-3
overflow_mul-samples-3 g c =
    let strips : c.len.result ≡ length c.args.kept.now.strips.items = omega (arith, c.args.kept.now.strips.ok.0) in
    let parts = ap (λ (n : ℕ). STRIP_ROWS * c.args.depth * n) strips in
    let rows : c.len-2.result ≡ length c.args.kept.now.rows = c.len-2.ensures in
    let rest = ap (λ (n : ℕ). c.args.depth * n) rows in
    omega (arith, parts, rest, c.requires.sizes.0)

pub overflow_add-samples : goal.overflow_add-samples
overflow_add-samples g c =
    let strips : c.len.result ≡ length c.args.kept.now.strips.items = omega (arith, c.args.kept.now.strips.ok.0) in
    let parts = ap (λ (n : ℕ). STRIP_ROWS * c.args.depth * n) strips in
    let rows : c.len-2.result ≡ length c.args.kept.now.rows = c.len-2.ensures in
    let rest = ap (λ (n : ℕ). c.args.depth * n) rows in
    omega (arith, parts, rest, c.requires.sizes.0)

pub put_kept-requires-clause-reach : goal.put_kept-requires-clause-reach
put_kept-requires-clause-reach g c =
    let many : length c.as_mut_slice.result.now ≡ c.args.count = ap length c.as_mut_slice.ensures.value ∙ c.in_ok-columns.ensures.blank.many in
    subst (λ (n : ℕ). ReachColumns (c.args.first + n) c.args.depth c.args.kept.now.strips.items c.args.kept.now.rows) (sym many) c.requires.reach

pub put_kept-requires-clause-sizes : goal.put_kept-requires-clause-sizes
put_kept-requires-clause-sizes g c =
    let many : length c.as_mut_slice.result.now ≡ c.args.count = ap length c.as_mut_slice.ensures.value ∙ c.in_ok-columns.ensures.blank.many in
    (c.requires.sizes.0, c.requires.sizes.1, omega (arith, many, c.requires.sizes.2))

pub put_kept-requires-clause-long : goal.put_kept-requires-clause-long
put_kept-requires-clause-long g c =
    let strips : c.len.result ≡ length c.args.kept.now.strips.items = omega (arith, c.args.kept.now.strips.ok.0) in
    let parts = ap (λ (n : ℕ). STRIP_ROWS * c.args.depth * n) strips in
    let rows : c.len-2.result ≡ length c.args.kept.now.rows = c.len-2.ensures in
    let rest = ap (λ (n : ℕ). c.args.depth * n) rows in
    blank_enough _ c.in_ok-columns.ensures.blank c.as_mut_slice.ensures.value (omega (arith, parts, rest))
