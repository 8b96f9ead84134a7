use Rattle.pnm_transpose.proofs.Words.{◌+◌, ◌*◌, ◌/◌, ◌-◌, ◌≡◌, ◌∙◌, ℕ, ap, subst, sym, length, drop, take, refl, arith, length-drop, AreLongEnough, HavePixels}
use Rattle.pnm_transpose.proofs.Words.{column_of}
use Rattle.pnm_transpose.proofs.BlockLaws.{rest_reaches, rows_further}
use Rattle.pnm_transpose.proofs.ColumnLaws.{all_behind, four_behind, rows_behind, room_left, within}
use Rattle.pnm_transpose.proofs.StripLaws.{reach_lent}
use Rattle.pnm_transpose.proofs.batch.put_from.Goals as goal

pub put_four-requires-clause-sizes : goal.put_four-requires-clause-sizes
put_four-requires-clause-sizes g c = (
  omega (arith, c.requires.sizes.0, within (4 * c.loop-group.group) 4 (length c.args.rows.now - c.args.begun) c.args.depth (omega (arith, c.len.ensures))),
  omega (arith, c.requires.sizes.2, c.loop-group.invariant.many),
)

pub put_four-requires-clause-long : goal.put_four-requires-clause-long
put_four-requires-clause-long g c =
    let y = 4 * c.loop-group.group in
    let left = length c.args.rows.now - c.args.begun in
    let depth = c.args.depth in
    room_left (c.args.at + y * depth + 4 * depth) (c.args.at + left * depth)
    (omega (arith, within y 4 left depth (omega (arith, c.len.ensures)))) c.requires.long c.loop-group.invariant

pub loop-group-preserved : goal.loop-group-preserved
loop-group-preserved g c =
    let rows = c.args.rows.now in
    four_behind c.args.first c.args.depth c.loop-group.group (drop c.args.begun rows)
    (omega (arith, c.len.ensures, length-drop c.args.begun rows)) refl (rest_reaches c.args.begun _ rows c.requires.rows) c.loop-group.invariant
    (rows_further c.args.begun (4 * c.loop-group.group) 4 c.args.first c.args.depth rows c.put_four.ensures)

pub put_some-requires-clause-long : goal.put_some-requires-clause-long
put_some-requires-clause-long g c =
    let left = c.len.result - c.args.begun in
    let y = 4 * (left / 4) in
    let count = left - y in
    let all = within y count left c.args.depth (omega arith) in
    room_left (c.args.at + y * c.args.depth + count * c.args.depth) (c.args.at + left * c.args.depth) (omega (arith, all))
    (subst (λ (n : ℕ). AreLongEnough (c.args.at + (n - c.args.begun) * c.args.depth) c.args.columns.now)
    (sym c.len.ensures) c.requires.long) c.loop-group.invariant

pub put_some-requires-clause-sizes : goal.put_some-requires-clause-sizes
put_some-requires-clause-sizes g c =
    let left = length c.args.rows.now - c.args.begun in
    let y = 4 * ((c.len.result - c.args.begun) / 4) in
    let count = c.len.result - c.args.begun - y in
    let all = within y count left c.args.depth (omega (arith, c.len.ensures)) in
    (omega (arith, c.requires.sizes.0, all), omega (arith, c.requires.sizes.2, c.loop-group.invariant.many))

pub put_four-requires-clause-rows : goal.put_four-requires-clause-rows
put_four-requires-clause-rows g c = reach_lent c.args.first c.args.depth _ _ _ _ refl c.loop-group.invariant.many c.requires.rows

pub put_some-requires-clause-rows : goal.put_some-requires-clause-rows
put_some-requires-clause-rows g c = reach_lent c.args.first c.args.depth _ _ _ _ refl c.loop-group.invariant.many c.requires.rows

pub returns : goal.returns
returns g c =
    let rows = c.args.rows.now in
    let left = c.len.result - c.args.begun in
    let y = 4 * (left / 4) in
    let count = left - y in
    let rest = drop c.args.begun rows in
    let before : c.loop-group.group ≡ left / 4 = omega arith in
    let size : length rest ≡ left = length-drop c.args.begun rows ∙ ap (λ (n : ℕ). n - c.args.begun) (sym c.len.ensures) in
    all_behind c.args.first c.args.depth (y + count) rest (omega (arith, size)) (rows_behind c.args.first c.args.depth y count rest
    (omega (arith, size)) (rest_reaches c.args.begun _ rows c.requires.rows)
    (subst (λ (n : ℕ). HavePixels (length c.args.columns.now) c.args.at (λ k. column_of c.args.depth (take (4 * n) rest) (c.args.first + k)) c.args.columns.now
    c.loop-group.columns) before c.loop-group.invariant) (rows_further c.args.begun y count c.args.first c.args.depth rows c.put_some.ensures))
