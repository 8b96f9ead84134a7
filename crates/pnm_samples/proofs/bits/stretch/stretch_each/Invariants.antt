use Rattle.pnm_samples.proofs.Words.{◌≡◌, ◌-◌, ◌*◌, length, take, drop, replicate, all_pixels}
use Rattle.pnm_samples.proofs.RepeatLaws.{repeated}
use Rattle.pnm_samples.proofs.bits.stretch.stretch_each.Given as goal

-- the pixels of the bytes that have passed, each so many times, and white ones behind them
abbrev pub invariant-loop-i : goal.invariant-loop-i
invariant-loop-i l = (take (8 * (l.i * l.times)) (all_pixels l.buffer) ≡ repeated l.times (all_pixels (take l.i l.bytes)))
    × (drop (l.i * l.times) l.buffer ≡ replicate (length l.buffer - l.i * l.times) 0)
