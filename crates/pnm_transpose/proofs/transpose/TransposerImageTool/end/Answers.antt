use Rattle.pnm_transpose.proofs.Words.{ap, Transform, row_lists, strip_lists, rows_width, Transposed, Flip}
use Rattle.pnm_transpose.proofs.TransposeLaws.{end_due}
use Rattle.pnm_transpose.proofs.transpose.TransposerImageTool.end.Goals as goal

pub returns-clause-due : goal.returns-clause-due
returns-clause-due c =
    λ come many h.
    let x = c.self.inside in
    let new = c.put_in_order.new.self in
    end_due x.way (rows_width x.rows) (rows_width new) x.depth x.next x.columns (strip_lists x.rows) (row_lists x.rows) x.batch.items
    c.self.invariant.way c.self.view_is (ap (λ (t : Transform). t.rows_reversed) c.transform-last_first.ensures) c.put_in_order.ensures.strips
    c.put_in_order.ensures.rows h

pub returns-clause-same : goal.returns-clause-same
returns-clause-same c = ap (λ (w : Transposed). Flip w.way) c.self.view_is
