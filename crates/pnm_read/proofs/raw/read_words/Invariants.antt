use Rattle.pnm_read.proofs.Words.{◌≤◌, All, Words}
use Rattle.pnm_read.proofs.RawSteps.{ReadingUnits}
use Rattle.pnm_read.proofs.raw.read_words.Given as goal

abbrev pub invariant-loop-left : goal.invariant-loop-left
invariant-loop-left g l =
    ReadingUnits g.R.BytesIn.left g.R.BytesIn.failures g.R.BytesIn.same Words l.shape.maxval l.initial.left l.left l.row.items l.initial.input l.input
    × All (λ sample. sample ≤ l.shape.maxval) l.row.items

abbrev pub decreases-loop-left : goal.decreases-loop-left
decreases-loop-left g l = l.left
