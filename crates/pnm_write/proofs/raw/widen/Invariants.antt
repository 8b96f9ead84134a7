use Rattle.pnm_write.proofs.Words.{◌≡◌, ◌*◌, take, wide_bytes}
use Rattle.pnm_write.proofs.raw.widen.Given as goal

-- the bytes of the samples that have passed
abbrev pub invariant-loop-i : goal.invariant-loop-i
invariant-loop-i l = take (2 * l.i) l.buffer ≡ wide_bytes (take l.i l.samples)
