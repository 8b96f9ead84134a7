use Rattle.pnm_samples.proofs.Words.{◌≡◌, ◌++◌, ◌-◌, map, take, drop}
use Rattle.pnm_samples.proofs.bits.complement.Given as goal

-- the bytes that have passed are complements
abbrev pub invariant-loop-byte : goal.invariant-loop-byte
invariant-loop-byte l = l.bytes ≡ map (λ b. 255 - b) (take l.byte-index l.initial.bytes) ++ drop l.byte-index l.initial.bytes
