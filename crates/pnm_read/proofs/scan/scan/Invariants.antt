use Rattle.pnm_read.proofs.ScanSteps.{Scanning}
use Rattle.pnm_read.proofs.scan.scan.Given as goal

abbrev pub invariant-loop-input : goal.invariant-loop-input
invariant-loop-input g l =
    Scanning g.R.BytesIn.left g.R.BytesIn.failures g.R.BytesIn.same g.S.Scanner.item g.S.Scanner.at_end g.S.Scanner.is_after l.initial.input l.input
    l.initial.scanner l.scanner

abbrev pub decreases-loop-input : goal.decreases-loop-input
decreases-loop-input g l = g.S.Scanner.remaining l.scanner
