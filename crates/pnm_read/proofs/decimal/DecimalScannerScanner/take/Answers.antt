use Rattle.pnm_read.proofs.Words.{rules}
use Rattle.pnm_read.proofs.DecimalSteps.{decimal_goes_on, decimal_stops}
use Rattle.pnm_read.proofs.decimal.DecimalScannerScanner.take.Goals as goal

pub returns-then-eq-clause-judged : goal.returns-then-eq-clause-judged
returns-then-eq-clause-judged c = decimal_goes_on c.judge-scan_status.result (search rules) c.judge-scan_status.ensures.judged c.push.ensures

pub returns-else-eq-clause-judged : goal.returns-else-eq-clause-judged
returns-else-eq-clause-judged c = decimal_stops c.args.self.now c.args.byte c.judge-scan_status.result (search rules) c.judge-scan_status.ensures.judged
