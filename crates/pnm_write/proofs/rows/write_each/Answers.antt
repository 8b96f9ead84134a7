use Rattle.pnm_write.proofs.Words.{◌≡◌, ◌<◌, ◌+◌, ◌∙◌, ◌++◌, ℕ, List, [], length, drop, get_or, ap, sym, arith, drop_all, drop_more, slice_samples, Shape, Form}
use Rattle.pnm_write.proofs.Words.{sending_part, row_bytes, rows_bytes}
use Rattle.pnm_write.proofs.WriteCallSteps.{call_failed, call_done}
use Rattle.pnm_write.proofs.rows.write_each.Goals as goal

-- the row that is written now, and those behind it
row_and_rest : (form : Form) (s : Shape) (at : ℕ) (rows : List (List ℕ)) {row : List ℕ} → at < length rows → row ≡ get_or rows at []
    → rows_bytes form s (drop at rows) ≡ row_bytes form s row ++ rows_bytes form s (drop (at + 1) rows)
row_and_rest form s at rows lt is =
    ap (rows_bytes form s) (drop_more rows at [] lt) ∙ ap (λ (r : List ℕ). row_bytes form s r ++ rows_bytes form s (drop (at + 1) rows)) (sym is)

pub returns-in_err-write_samples : goal.returns-in_err-write_samples
returns-in_err-write_samples g c =
    let form = c.args.form in
    let s = c.args.shape in
    let rows = c.args.rows.now in
    let at = c.loop-at.at in
    let row = slice_samples c.row_slice.result in
    let lt : at < length rows = omega (arith, c.count-at-end.ensures.rows) in
    call_failed g.W.BytesOut.held g.W.BytesOut.failures g.W.BytesOut.same c.args.writer.now c.loop-at.writer c.write_samples.new.writer
    (rows_bytes form s rows) (rows_bytes form s (drop at rows)) (row_bytes form s row) (rows_bytes form s (drop (at + 1) rows))
    c.from_residual.result c.from_residual.ensures.0 (row_and_rest form s at rows lt c.row_slice.ensures.samples) c.loop-at.invariant
    c.in_err-write_samples.ensures.failed (g.met.W.BytesOut.same_later _ _ _ c.loop-at.invariant.same_device c.in_err-write_samples.ensures.same_device)

pub loop-at-preserved : goal.loop-at-preserved
loop-at-preserved g c =
    let form = c.args.form in
    let s = c.args.shape in
    let rows = c.args.rows.now in
    let at = c.loop-at.at in
    let row = slice_samples c.row_slice.result in
    let lt : at < length rows = omega (arith, c.count-at-end.ensures.rows) in
    sending_part g.W.BytesOut.held g.W.BytesOut.failures g.W.BytesOut.same c.args.writer.now c.loop-at.writer c.write_samples.new.writer
    (rows_bytes form s rows) (rows_bytes form s (drop at rows)) (row_bytes form s row) (rows_bytes form s (drop (at + 1) rows))
    (row_and_rest form s at rows lt c.row_slice.ensures.samples) c.loop-at.invariant c.in_ok-write_samples.ensures.written
    c.in_ok-write_samples.ensures.count (g.met.W.BytesOut.same_later _ _ _ c.loop-at.invariant.same_device c.in_ok-write_samples.ensures.same_device)

pub returns : goal.returns
returns g c =
    let rows = c.args.rows.now in
    call_done g.W.BytesOut.held g.W.BytesOut.failures g.W.BytesOut.same c.args.writer.now c.loop-at.writer (rows_bytes c.args.form c.args.shape rows)
    (rows_bytes c.args.form c.args.shape (drop c.loop-at.at rows)) c.loop-at.invariant
    (ap (rows_bytes c.args.form c.args.shape) (drop_all c.loop-at.at rows (omega (arith, c.count-at-end.ensures.rows))))
