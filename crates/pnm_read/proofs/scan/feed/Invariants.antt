use Rattle.pnm_read.proofs.FeedSteps.{Feeding}
use Rattle.pnm_read.proofs.scan.feed.Given as goal

abbrev pub invariant-loop-taken : goal.invariant-loop-taken
invariant-loop-taken g l = Feeding g.S.Scanner.item g.S.Scanner.at_end g.S.Scanner.is_after g.S.Scanner.remaining l.initial.scanner l.scanner l.bytes l.taken
