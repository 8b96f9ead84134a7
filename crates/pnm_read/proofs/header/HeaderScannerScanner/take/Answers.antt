use Rattle.pnm_read.proofs.Words.{rules}
use Rattle.pnm_read.proofs.HeaderSteps.{header_goes_on, header_stops}
use Rattle.pnm_read.proofs.header.HeaderScannerScanner.take.Goals as goal

pub returns-then-eq-clause-judged : goal.returns-then-eq-clause-judged
returns-then-eq-clause-judged c = header_goes_on c.judge-scan_status.result (search rules) c.judge-scan_status.ensures.judged c.push.ensures

pub returns-else-eq-clause-judged : goal.returns-else-eq-clause-judged
returns-else-eq-clause-judged c = header_stops c.args.self.now c.args.byte c.judge-scan_status.result (search rules) c.judge-scan_status.ensures.judged
