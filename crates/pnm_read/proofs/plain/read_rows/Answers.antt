use Rattle.pnm_read.proofs.Words.{◌-◌, ◌<◌, arith, err_from_is_err_and, held_of}
use Rattle.pnm_read.proofs.PlainSteps.{row_fault, end_fault, last_row_found, words_found}
use Rattle.pnm_read.proofs.PlainRows.{fault_found, first_is_plain, last_found, more_found, others_are_plain}
use Rattle.pnm_read.proofs.plain.read_rows.Goals as goal

pub returns-in_err-samples : goal.returns-in_err-samples
returns-in_err-samples g c =
    let raster = c.args.raster.now in
    let more = raster.shape.height - raster.y - 1 in
    let p = err_from_is_err_and c.from_residual.result c.from_residual.ensures.1 in
    rw (p.1, p.2) (fault_found raster more c.requires.plain (omega (arith, c.requires.row)) (row_fault raster.shape more c.in_err-samples.ensures))

pub returns-in_err-check_end : goal.returns-in_err-check_end
returns-in_err-check_end g c =
    let raster = c.args.raster.now in
    let more = raster.shape.height - raster.y - 1 in
    let p = err_from_is_err_and c.from_residual-in_err-check_end.result c.from_residual-in_err-check_end.ensures.1 in
    rw (p.1, p.2) (fault_found raster more c.requires.plain (omega (arith, c.requires.row))
    (end_fault raster.shape more g.met.R.BytesIn.same_later (omega arith) (words_found c.in_ok-samples.ensures) c.in_err-check_end.ensures))

pub rows_of-requires-clause-size : goal.rows_of-requires-clause-size
rows_of-requires-clause-size g c = (first_is_plain (words_found c.in_ok-samples.ensures)).size

pub rows_of-requires-clause-within : goal.rows_of-requires-clause-within
rows_of-requires-clause-within g c = (first_is_plain (words_found c.in_ok-samples.ensures)).within

pub returns-then-more-eq0 : goal.returns-then-more-eq0
returns-then-more-eq0 g c =
    let raster = c.args.raster.now in
    let more = raster.shape.height - raster.y - 1 in
    let row = c.in_ok-samples.samples.items in
    last_found raster more c.requires.plain (omega (arith, c.requires.row)) (omega arith) c.rows_of.ensures.rows c.rows_of.ensures.refused
    (last_row_found raster.shape more g.met.R.BytesIn.same_later (omega arith) (words_found c.in_ok-samples.ensures) c.in_ok-check_end.ensures)

pub rows_of-requires-2-clause-size : goal.rows_of-requires-2-clause-size
rows_of-requires-2-clause-size g c =
    let s = c.args.raster.now.shape in
    let row = c.in_ok-samples.samples.items in
    (others_are_plain (first_is_plain (words_found c.in_ok-samples.ensures)) c.in_ok-others.ensures.taken).size

pub rows_of-requires-2-clause-within : goal.rows_of-requires-2-clause-within
rows_of-requires-2-clause-within g c =
    let s = c.args.raster.now.shape in
    let row = c.in_ok-samples.samples.items in
    (others_are_plain (first_is_plain (words_found c.in_ok-samples.ensures)) c.in_ok-others.ensures.taken).within

pub returns : goal.returns
returns g c =
    let raster = c.args.raster.now in
    let more = raster.shape.height - raster.y - 1 in
    let few : c.in_ok-others.others < more = omega (arith, c.in_ok-others.ensures.most) in
    more_found raster more c.requires.plain
    (omega (arith, c.requires.row)) few c.in_ok-others.ensures.taken c.in_ok-others.ensures.reader c.in_ok-others.ensures.ended c.rows_of-2.ensures.rows
    c.rows_of-2.ensures.refused (words_found c.in_ok-samples.ensures)
