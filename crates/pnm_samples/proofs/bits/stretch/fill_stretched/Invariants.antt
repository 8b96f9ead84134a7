use Rattle.pnm_samples.proofs.Words.{◌≡◌, ◌*◌, take, all_pixels}
use Rattle.pnm_samples.proofs.RepeatLaws.{repeated}
use Rattle.pnm_samples.proofs.bits.stretch.fill_stretched.Given as goal

-- the pixels of the bytes that have passed, each so many times
abbrev pub invariant-loop-i : goal.invariant-loop-i
invariant-loop-i l = take (8 * (l.i * l.times)) (all_pixels l.buffer) ≡ repeated l.times (all_pixels (take l.i l.bytes))
