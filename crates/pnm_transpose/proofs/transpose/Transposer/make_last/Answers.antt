use Rattle.pnm_transpose.proofs.Words.{◌≡◌, ℕ, ◌≤◌, ◌<◌, ◌+◌, ◌-◌, ◌%◌, true, ap, sym, ◌∙◌, arith, mod-le, Transform, transform_of, row_lists, strip_lists}
use Rattle.pnm_transpose.proofs.Words.{rows_width, Transposed, transposed, transposed_due, common_steps}
use Rattle.pnm_transpose.proofs.TransposeLaws.{last_made}
use Rattle.pnm_transpose.proofs.transpose.Transposer.make_last.Goals as goal

pub returns-clause-due : goal.returns-clause-due
returns-clause-due c =
    let x = c.self.inside in
    let left : ℕ = x.columns - x.next - 1 in
    let count : ℕ = left % c.batch_length.result + 1 in
    let last_first : (transform_of x.way).columns_reversed ≡ true = ap (λ (w : Transposed). (transform_of w.way).columns_reversed) c.self.view_is
    ∙ c.requires.order in
    let order = ap (λ (t : Transform). t.rows_reversed) c.transform-rows_first.ensures in
    let none = ap (λ (w : Transposed). w.batch) c.self.view_is ∙ c.requires.left.0 in
    let some : x.next < x.columns =
    omega (arith, ap (λ (w : Transposed). w.next) c.self.view_is, ap (λ (w : Transposed). w.columns) c.self.view_is, c.requires.left.1) in
    let within : count ≤ x.columns - x.next = omega (arith, mod-le left c.batch_length.result) in
    last_made x.way x.depth (rows_width x.rows) x.next x.columns (x.columns - count) count (strip_lists x.rows) (row_lists x.rows) last_first order
    (omega arith) (omega arith) c.in_ok-batch.ensures.made c.reverse.ensures.items
    ∙ ap (λ l. transposed_due (transposed x.way x.depth (rows_width x.rows) (strip_lists x.rows) (row_lists x.rows) l x.next x.columns)) (sym none)
    ∙ ap transposed_due c.self.view_is

pub returns-clause-some : goal.returns-clause-some
returns-clause-some c = grind (arith, common_steps)

pub batch-requires-clause-reach : goal.batch-requires-clause-reach
batch-requires-clause-reach c = grind (arith, common_steps)

pub batch-requires-clause-sizes : goal.batch-requires-clause-sizes
batch-requires-clause-sizes c = grind (arith, common_steps)

pub batch-requires-clause-bits : goal.batch-requires-clause-bits
batch-requires-clause-bits c = grind (arith, common_steps)
