use Rattle.pnm_samples.proofs.Words.{◌≡◌, take, drop, slice_samples}
use Rattle.pnm_samples.proofs.samples.SampleSlice.copy_to.Given as goal

abbrev pub invariant-loop-i : goal.invariant-loop-i
invariant-loop-i l = take l.i l.buffer ≡ take l.i (drop l.start (slice_samples l.self))
