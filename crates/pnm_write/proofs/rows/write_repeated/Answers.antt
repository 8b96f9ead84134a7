use Rattle.pnm_write.proofs.Words.{◌≡◌, ◌<◌, ◌+◌, ◌-◌, ◌∙◌, ◌++◌, ℕ, suc, List, Option, Some, ap, subst, arith, flat_map-append, AllByRecursion, IsRowOf}
use Rattle.pnm_write.proofs.Words.{repeated, rows_list, Shape, Form, each_once, sending_part, row_bytes, rows_bytes}
use Rattle.pnm_write.proofs.WriteCallSteps.{call_failed, call_done}
use Rattle.pnm_write.proofs.rows.write_repeated.Goals as goal

-- the rows that are written now, and those that come again
once_and_rest : (form : Form) (s : Shape) (time times : ℕ) (rows : List (List ℕ)) → time < times
    → rows_bytes form s (repeated (times - time) rows) ≡ rows_bytes form s rows ++ rows_bytes form s (repeated (times - (time + 1)) rows)
once_and_rest form s time times rows lt =
    let more : times - time ≡ suc (times - (time + 1)) = omega (arith, lt) in
    ap (λ (n : ℕ). rows_bytes form s (repeated n rows)) more ∙ flat_map-append (row_bytes form s) rows (repeated (times - (time + 1)) rows)

-- the rows that come are those that are held, as often as they come
all_rows : {o : Option (List (List ℕ))} {rows : List (List ℕ)} (held : List (List ℕ)) (times : ℕ) → o ≡ Some rows → rows ≡ repeated times held
    → rows_list o ≡ repeated times held
all_rows held times some is = ap rows_list some ∙ is

pub write_rows-requires : goal.write_rows-requires
write_rows-requires g c =
    let held = c.parts-times.result.0.now in
    let times = c.parts-times.result.1 in
    each_once (IsRowOf c.args.shape) times held c.parts-times.ensures.some
    (subst (AllByRecursion (IsRowOf c.args.shape)) (all_rows held times c.in-Some.is c.parts-times.ensures.rows) c.requires)

pub returns-in_err-write_rows : goal.returns-in_err-write_rows
returns-in_err-write_rows g c =
    let form = c.args.form in
    let s = c.args.shape in
    let held = c.parts-times.result.0.now in
    let times = c.parts-times.result.1 in
    let time = c.loop-time._time in
    rw (all_rows held times c.in-Some.is c.parts-times.ensures.rows)
    (call_failed g.W.BytesOut.held g.W.BytesOut.failures g.W.BytesOut.same c.args.writer.now c.loop-time.writer c.write_rows.new.writer
    (rows_bytes form s (repeated times held)) (rows_bytes form s (repeated (times - time) held)) (rows_bytes form s held)
    (rows_bytes form s (repeated (times - (time + 1)) held)) c.from_residual.result c.from_residual.ensures.0
    (once_and_rest form s time times held (omega arith)) c.loop-time.invariant c.in_err-write_rows.ensures.failed
    (g.met.W.BytesOut.same_later _ _ _ c.loop-time.invariant.same_device c.in_err-write_rows.ensures.same_device))

pub loop-time-preserved : goal.loop-time-preserved
loop-time-preserved g c =
    let form = c.args.form in
    let s = c.args.shape in
    let held = c.parts-times.result.0.now in
    let times = c.parts-times.result.1 in
    let time = c.loop-time._time in
    sending_part g.W.BytesOut.held g.W.BytesOut.failures g.W.BytesOut.same c.args.writer.now c.loop-time.writer c.write_rows.new.writer
    (rows_bytes form s (repeated times held)) (rows_bytes form s (repeated (times - time) held)) (rows_bytes form s held)
    (rows_bytes form s (repeated (times - (time + 1)) held)) (once_and_rest form s time times held (omega arith)) c.loop-time.invariant
    c.in_ok-write_rows.ensures.written c.in_ok-write_rows.ensures.count
    (g.met.W.BytesOut.same_later _ _ _ c.loop-time.invariant.same_device c.in_ok-write_rows.ensures.same_device)

pub returns : goal.returns
returns g c =
    let held = c.parts-times.result.0.now in
    let times = c.parts-times.result.1 in
    let none : times - c.loop-time._time ≡ 0 = omega arith in
    rw (all_rows held times c.in-Some.is c.parts-times.ensures.rows)
    (call_done g.W.BytesOut.held g.W.BytesOut.failures g.W.BytesOut.same c.args.writer.now c.loop-time.writer
    (rows_bytes c.args.form c.args.shape (repeated times held))
    (rows_bytes c.args.form c.args.shape (repeated (times - c.loop-time._time) held)) c.loop-time.invariant
    (ap (λ (n : ℕ). rows_bytes c.args.form c.args.shape (repeated n held)) none))
