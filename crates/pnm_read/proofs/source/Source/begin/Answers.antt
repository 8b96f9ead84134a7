use Rattle.pnm_read.proofs.Words.{Ok, ap, ◌∙◌, err_from_is_err_and, ReadFailed, rows_list}
use Rattle.pnm_read.proofs.ReadCalls.{call_then, call_held, call_err_so, no_fault}
use Rattle.pnm_read.proofs.AwaitedSteps.{no_format, no_head, no_memory, begins, held_come}
use Rattle.pnm_read.proofs.source.Source.begin.Goals as goal

pub returns-in_err-format : goal.returns-in_err-format
returns-in_err-format g c =
    let k = c.in_err-format.field-0.0 in
    let p = err_from_is_err_and c.from_residual.result c.from_residual.ensures.1 in
    rw (p.1, p.2) (call_err_so (λ b a o. no_format c.args.is_first c.args.self.now.state k b a o) c.in_err-format.ensures)

pub returns-in_err-head : goal.returns-in_err-head
returns-in_err-head g c =
    let k = c.in_err-head.field-0.0 in
    let p = err_from_is_err_and c.from_residual-in_err-head.result c.from_residual-in_err-head.ensures.1 in
    rw (p.1, p.2) (call_err_so (λ b a o. no_head c.args.is_first c.args.self.now.state c.in_ok-format.format k b o.0 a o.1 o.2)
    (call_then c.in_ok-format.format g.met.R.BytesIn.same_later c.in_ok-format.ensures c.in_err-head.ensures))

pub returns-in_err-rows : goal.returns-in_err-rows
returns-in_err-rows g c =
    let refused = c.in_err-rows.ensures.refused in
    let p = err_from_is_err_and c.from_residual-in_err-rows.result c.from_residual-in_err-rows.ensures.1 in
    rw (p.1, p.2) (no_memory c.args.is_first c.args.self.now.state refused.0 refused.1
    (call_then c.in_ok-format.format g.met.R.BytesIn.same_later c.in_ok-format.ensures c.in_ok-head.ensures))

pub returns : goal.returns
returns g c =
    let mid = c.in_ok-head.head in
    let rows = c.in_ok-rows.rows in
    let came = c.in_ok-rows.ensures in
    rw c.part.ensures.input (call_held mid (Ok _) (no_fault _ ReadFailed) came.reader came.ended
    (λ b rest _ o. begins c.args.is_first mid c.new-raster.result (rows_list rows) c.part.result c.part.new.self.state b o.0 _ _ o.1 o.2
    c.new-raster.ensures.format (c.new-raster.ensures.shape ∙ c.shape.ensures.shape) c.new-raster.ensures.y
    (held_come c.new-raster.result rows _ _ rest came.raw came.left came.rows (λ e. came.none (ap (λ r. Ok r) e))) (c.part.ensures.said _) c.part.ensures.given)
    (call_then c.in_ok-format.format g.met.R.BytesIn.same_later c.in_ok-format.ensures c.in_ok-head.ensures))
