use Rattle.pnm_write.proofs.Words.{◌≡◌, take}
use Rattle.pnm_write.proofs.raw.narrow.Given as goal

-- the samples that have passed are bytes
abbrev pub invariant-loop-i : goal.invariant-loop-i
invariant-loop-i l = take l.i l.buffer ≡ take l.i l.samples
