use Rattle.pnm_samples.proofs.SquareLaws.{AreRiffled}
use Rattle.pnm_samples.proofs.block.riffled.Given as goal

-- so many pairs have passed
abbrev pub invariant-loop-i : goal.invariant-loop-i
invariant-loop-i l = AreRiffled l.i l.rows l.made
