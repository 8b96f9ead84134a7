use Rattle.pnm_samples.proofs.Words.{◌≡◌, ◌*◌, take, all_pixels}
use Rattle.pnm_samples.proofs.RepeatLaws.{repeated}
use Rattle.pnm_samples.proofs.bits.repeat.fill_doubled.Given as goal

-- the pixels of the bytes that have passed, each twice
abbrev pub invariant-loop-i : goal.invariant-loop-i
invariant-loop-i l = all_pixels (take (2 * l.i) l.buffer) ≡ repeated 2 (all_pixels (take l.i l.bytes))
