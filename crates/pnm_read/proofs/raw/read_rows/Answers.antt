use Rattle.pnm_read.proofs.Words.{Ok, length, ap, ◌∙◌, err_from_is_err_and, ReadFailed, in_turn, raw_row}
use Rattle.pnm_read.proofs.ReadCalls.{no_fault, call_held}
use Rattle.pnm_read.proofs.RowsTogether.{rows_found, row_read, row_unread}
use Rattle.pnm_read.proofs.raw.read_rows.Goals as goal

pub returns-in-Some : goal.returns-in-Some
returns-in-Some g c =
    let raster = c.args.raster.now in
    let rows = c.in-Some.rows in
    let some = rw c.in-Some.is at c.in_ok-rows.ensures.some in
    let left = rw c.in-Some.is at c.in_ok-rows.ensures.left in
    let taken = rw c.in-Some.is at c.in_ok-rows.ensures.rows in
    call_held tt (Ok rows) (no_fault rows ReadFailed) c.in_ok-rows.ensures.reader c.in_ok-rows.ensures.ended
    (λ b rest _ o. rows_found raster rows b _ c.requires.raw some left (ap (in_turn (raw_row raster.shape) (length rows)) o ∙ taken rest))
    c.in_ok-read_towards.ensures.read_call

pub returns-in_ok-read_row-in-None : goal.returns-in_ok-read_row-in-None
returns-in_ok-read_row-in-None g c =
    row_read c.args.raster.now g.met.R.BytesIn.same_later c.requires.raw c.requires.row
    (c.in_ok-rows.ensures.none (ap (λ r. Ok r) c.in-None.is)) c.one.ensures c.in_ok-read_towards.ensures.read_call c.in_ok-read_row-in-None.ensures

pub returns-in_err-read_row-in-None : goal.returns-in_err-read_row-in-None
returns-in_err-read_row-in-None g c =
    let p = err_from_is_err_and c.from_residual-in_err-read_row-in-None.result c.from_residual-in_err-read_row-in-None.ensures.1 in
    rw (p.1, p.2) (row_unread c.args.raster.now g.met.R.BytesIn.same_later c.requires.raw c.requires.row
    (c.in_ok-rows.ensures.none (ap (λ r. Ok r) c.in-None.is)) c.in_ok-read_towards.ensures.read_call c.in_err-read_row-in-None.ensures)
