use Rattle.pnm_read.proofs.Words.{◌-◌, length}
use Rattle.pnm_read.proofs.LineSteps.{SplitAt}
use Rattle.pnm_read.proofs.line.split_token.Given as goal

abbrev pub invariant-loop-length : goal.invariant-loop-length
invariant-loop-length l = SplitAt l.text l.length

abbrev pub decreases-loop-length : goal.decreases-loop-length
decreases-loop-length l = length l.text - l.length
