use Rattle.pnm_read.proofs.LineSteps.{DigitsSo}
use Rattle.pnm_read.proofs.line.number_of.Given as goal

abbrev pub invariant-loop-byte : goal.invariant-loop-byte
invariant-loop-byte l = DigitsSo l.token l.byte-index l.number
