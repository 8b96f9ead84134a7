use Rattle.pnm_transpose.proofs.Words.{◌≡◌, ◌<◌, ◌≤◌, ◌+◌, false, ap, sym, ◌∙◌, arith, Transform, transform_of, row_lists, strip_lists, rows_width, Transposed}
use Rattle.pnm_transpose.proofs.Words.{transposed, transposed_due, common_steps}
use Rattle.pnm_transpose.proofs.TransposeLaws.{batch_some, first_made}
use Rattle.pnm_transpose.proofs.transpose.Transposer.make_first.Goals as goal

pub returns-clause-due : goal.returns-clause-due
returns-clause-due c =
    let x = c.self.inside in
    let first_first : (transform_of x.way).columns_reversed ≡ false = ap (λ (w : Transposed). (transform_of w.way).columns_reversed) c.self.view_is
    ∙ c.requires.order in
    let order = ap (λ (t : Transform). t.rows_reversed) c.transform-rows_first.ensures in
    let none = ap (λ (w : Transposed). w.batch) c.self.view_is ∙ c.requires.left.0 in
    let within : x.next + c.min-count.result ≤ x.columns = omega arith in
    first_made x.way x.depth (rows_width x.rows) x.next x.columns c.min-count.result (strip_lists x.rows) (row_lists x.rows)
    first_first order within c.in_ok-self-inside.ensures.made
    ∙ ap (λ l. transposed_due (transposed x.way x.depth (rows_width x.rows) (strip_lists x.rows) (row_lists x.rows) l x.next x.columns)) (sym none)
    ∙ ap transposed_due c.self.view_is

pub batch-requires-clause-reach : goal.batch-requires-clause-reach
batch-requires-clause-reach c = grind (arith, common_steps)

pub returns-clause-some : goal.returns-clause-some
returns-clause-some c =
    let x = c.self.inside in
    let left : x.next < x.columns =
    omega (arith, ap (λ (w : Transposed). w.next) c.self.view_is, ap (λ (w : Transposed). w.columns) c.self.view_is, c.requires.left.1) in
    batch_some _ x.next c.min-count.result c.in_ok-self-inside.ensures.made (omega (arith, left, c.min-count.ensures, c.batch_length.ensures.some))

pub batch-requires-clause-sizes : goal.batch-requires-clause-sizes
batch-requires-clause-sizes c = grind (arith, common_steps)

pub invariant_of-self : goal.invariant_of-self
invariant_of-self c = grind (arith, common_steps)

pub batch-requires-clause-bits : goal.batch-requires-clause-bits
batch-requires-clause-bits c = grind (arith, common_steps)
