use Rattle.pnm_transpose.proofs.Words.{rules, ◌≡◌, Ok, ap, ◌∙◌, Shape, sample_width_of, Flip, row_lists, strip_lists, rows_width, Transposed, result_head}
use Rattle.pnm_transpose.proofs.TransposeLaws.{ready_to_transpose}
use Rattle.pnm_transpose.proofs.transpose.TransposerImageTool.begin.Goals as goal

pub returns-clause-ready : goal.returns-clause-ready
returns-clause-ready c =
    let x = c.self-2.inside in
    let rows = c.of_width.result in
    let made : result_head (Flip x.way) c.args.head.now ≡ Ok c.in_ok-transposed.transposed = search rules in
    ready_to_transpose x.way x.depth c.self-2.invariant.way c.shape-shape.ensures.sound made
    (c.of_width.ensures.sample_width ∙ c.of-sample_width.ensures ∙ ap (λ (s : Shape). sample_width_of s.kind s.maxval) c.shape-shape.ensures.shape)
    c.of_width.ensures.empty.1 c.of_width.ensures.empty.0 (ap (λ (w : Transposed). w.batch) c.self-2.view_is ∙ c.clear.ensures.rows.2)
    (ap (λ (w : Transposed). w.next) c.self-2.view_is ∙ c.clear.ensures.columns.0) (ap (λ (w : Transposed). w.columns) c.self-2.view_is
    ∙ c.clear.ensures.columns.1)
