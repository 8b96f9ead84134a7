use Rattle.pnm_transpose.proofs.Words.{Bor, ◌≡◌, ◌∙◌, ◌+◌, ◌<◌, ℕ, List, [], ap, arith, drop, get_or, length, map, set, subst, take, with_items, HavePixels}
use Rattle.pnm_transpose.proofs.Words.{column_of}
use Rattle.pnm_transpose.proofs.BlockLaws.{block_reaches, column_of_sixteen}
use Rattle.pnm_transpose.proofs.ColumnLaws.{column_stored}
use Rattle.pnm_transpose.proofs.blocks.put_sixteen.Goals as goal

pub loop-i-preserved : goal.loop-i-preserved
loop-i-preserved c =
    let at = c.args.at in
    let rows = c.args.rows.now in
    let n = c.loop-done.done + c.loop-i.i in
    let x = c.args.first + n in
    let pixels : ℕ → List ℕ = λ k. column_of 1 (take 16 (drop c.args.y rows)) (c.args.first + k) in
    let sixteen = c.sixteen_rows-sixteen.result in
    let below : n < length c.args.columns.now = omega (arith, c.min-count.ensures, c.loop-done.auto.columns) in
    let is : get_or c.lanes_beside-lanes.result c.loop-i.i [] ≡ column_of 1 (take 16 (drop c.args.y rows)) x =
    c.lanes_beside-lanes.ensures.lanes c.loop-i.i (omega (arith, c.min-count.ensures))
    ∙ ap (λ (m : ℕ). map (λ (row : Bor (List ℕ)). get_or row.now m 0) sixteen) (omega arith)
    ∙ column_of_sixteen c.args.y x rows sixteen c.sixteen_rows-sixteen.ensures.count c.requires.sixteen c.sixteen_rows-sixteen.ensures.rows
    (block_reaches c.args.y x (c.args.first + length c.args.columns.now) rows (omega (arith, below)) c.requires.rows) in
    let more = column_stored pixels c.index-columns-done.result c.store.new.buffer
    c.loop-i.invariant (omega (arith, below, c.loop-i.invariant.many)) c.as_mut_slice.ensures.value c.store.auto.buffer c.store.ensures is in
    let next : n + 1 ≡ c.loop-done.done + (c.loop-i.i + 1) = omega arith in
    subst (λ (m : ℕ). HavePixels m at pixels c.args.columns.now
    (set c.loop-i.columns n (with_items (get_or c.loop-i.columns n c.index-columns-done.result) c.store.new.buffer))) next more

pub loop-done-preserved : goal.loop-done-preserved
loop-done-preserved c =
    let all : c.loop-i.i ≡ c.min-count.result = omega arith in
    let pixels : ℕ → List ℕ = λ k. column_of 1 (take 16 (drop c.args.y c.args.rows.now)) (c.args.first + k) in (
      omega (arith, c.min-count.ensures, c.loop-done.auto.columns),
      subst (λ (m : ℕ). HavePixels (c.loop-done.done + m) c.args.at pixels c.args.columns.now c.loop-i.columns) all c.loop-i.invariant,
    )

pub returns : goal.returns
returns c =
    let all : c.loop-done.done ≡ length c.args.columns.now = omega (arith, c.loop-done.invariant.0, c.loop-done.auto.columns) in
    let pixels : ℕ → List ℕ = λ k. column_of 1 (take 16 (drop c.args.y c.args.rows.now)) (c.args.first + k) in
    subst (λ (m : ℕ). HavePixels m c.args.at pixels c.args.columns.now c.loop-done.columns) all c.loop-done.invariant.1
