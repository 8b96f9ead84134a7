use Rattle.pnm_read.proofs.Words.{err_from_is_err_and, IsDecimalWhole}
use Rattle.pnm_read.proofs.PlainSteps.{number_found, number_too_great, number_fault}
use Rattle.pnm_read.proofs.plain.read_decimal.Goals as goal

pub returns-in_err-scan : goal.returns-in_err-scan
returns-in_err-scan g c =
    let p = err_from_is_err_and c.from_residual.result c.from_residual.ensures.1 in
    rw (p.1, p.2) (number_fault (IsDecimalWhole c.scan.new.scanner) c.args.maxval c.new-number.ensures c.in_err-scan.ensures)

pub returns-then-value-maxval : goal.returns-then-value-maxval
returns-then-value-maxval g c =
    number_too_great c.scan.new.scanner c.args.maxval c.new-number.ensures c.value-value.ensures c.if-value-maxval.true c.in_ok-scan.ensures

pub returns : goal.returns
returns g c = number_found c.scan.new.scanner c.args.maxval c.new-number.ensures c.value-value.ensures c.requires c.if-value-maxval.false c.in_ok-scan.ensures
