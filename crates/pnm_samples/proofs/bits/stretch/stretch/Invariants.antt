use Rattle.pnm_samples.proofs.Words.{◌≡◌, ◌*◌, take, pixels, all_pixels}
use Rattle.pnm_samples.proofs.RepeatLaws.{repeated}
use Rattle.pnm_samples.proofs.StretchLaws.{IsPainted}
use Rattle.pnm_samples.proofs.bits.stretch.stretch.Given as goal

-- the pixels that have passed, each so many times, and the colour behind them
abbrev pub invariant-loop-i : goal.invariant-loop-i
invariant-loop-i l = (take (l.i * l.times) (all_pixels l.buffer) ≡ repeated l.times (take l.i (pixels l.byte)))
    × IsPainted (l.i * l.times) l.held (all_pixels l.buffer) (all_pixels l.buffer)
