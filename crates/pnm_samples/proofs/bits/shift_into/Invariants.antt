use Rattle.pnm_samples.proofs.Words.{◌≡◌, ◌*◌, take, drop, all_pixels}
use Rattle.pnm_samples.proofs.bits.shift_into.Given as goal

-- the bytes that have passed hold the pixels that come after so many
abbrev pub invariant-loop-i : goal.invariant-loop-i
invariant-loop-i l = all_pixels (take l.i l.buffer) ≡ take (8 * l.i) (drop l.skipped (all_pixels l.part))
