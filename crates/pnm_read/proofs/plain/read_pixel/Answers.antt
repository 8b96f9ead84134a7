use Rattle.pnm_read.proofs.Words.{err_from_is_err_and, IsPixelWhole}
use Rattle.pnm_read.proofs.PlainSteps.{pixel_found, pixel_fault}
use Rattle.pnm_read.proofs.plain.read_pixel.Goals as goal

pub returns-in_err-scan : goal.returns-in_err-scan
returns-in_err-scan g c =
    let p = err_from_is_err_and c.from_residual.result c.from_residual.ensures.1 in
    rw (p.1, p.2) (pixel_fault (IsPixelWhole c.scan.new.scanner) c.new-pixel.ensures c.in_err-scan.ensures)

pub returns : goal.returns
returns g c = pixel_found c.scan.new.scanner c.new-pixel.ensures c.pixel.ensures c.in_ok-scan.ensures
