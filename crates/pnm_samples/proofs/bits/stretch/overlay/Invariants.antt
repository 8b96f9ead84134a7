use Rattle.pnm_samples.proofs.Words.{◌≡◌, ◌*◌, take, bit_or, zip2}
use Rattle.pnm_samples.proofs.bits.stretch.overlay.Given as goal

-- the sixteens that have passed are of both
abbrev pub invariant-loop-i : goal.invariant-loop-i
invariant-loop-i l = take (16 * l.i) l.buffer ≡ zip2 bit_or (take (16 * l.i) l.left) (take (16 * l.i) l.right)
