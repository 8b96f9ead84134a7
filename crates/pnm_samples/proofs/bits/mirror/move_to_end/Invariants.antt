use Rattle.pnm_samples.proofs.Words.{◌≡◌, ◌*◌, take, drop, all_pixels}
use Rattle.pnm_samples.proofs.bits.mirror.move_to_end.Given as goal

-- the bytes that have passed hold the pixels that come after so many, and the others are as they were
abbrev pub invariant-loop-i : goal.invariant-loop-i
invariant-loop-i l = (all_pixels (take l.i l.bytes) ≡ take (8 * l.i) (drop l.skipped (all_pixels l.initial.bytes)))
    × (drop l.i l.bytes ≡ drop l.i l.initial.bytes)
