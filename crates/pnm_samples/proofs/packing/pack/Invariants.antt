use Rattle.pnm_samples.proofs.Words.{◌≡◌, take}
use Rattle.pnm_samples.proofs.PackedBytes.{packed_groups}
use Rattle.pnm_samples.proofs.packing.pack.Given as goal

-- the bytes of the groups that have passed
abbrev pub invariant-loop-i : goal.invariant-loop-i
invariant-loop-i l = take l.i l.buffer ≡ packed_groups l.i l.samples
