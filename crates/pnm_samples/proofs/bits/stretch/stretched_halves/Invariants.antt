use Rattle.pnm_samples.proofs.Words.{◌≡◌, ◌*◌, length, AreStretched, stride}
use Rattle.pnm_samples.proofs.bits.stretch.stretched_halves.Given as goal

-- the halves that have passed, and no byte more
abbrev pub invariant-loop-half : goal.invariant-loop-half
invariant-loop-half l = AreStretched l.fn.times l.unit l.half l.bytes.items × (length l.bytes.items ≡ l.half * stride l.fn.times)
