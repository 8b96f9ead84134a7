use Rattle.pnm_samples.proofs.Words.{◌≡◌, ◌++◌, map, take, drop, w8, reverse_bits}
use Rattle.pnm_samples.proofs.bits.mirror.turn_round.Given as goal

-- the bytes that have passed are turned round
abbrev pub invariant-loop-byte : goal.invariant-loop-byte
invariant-loop-byte l = l.bytes ≡ map (λ b. reverse_bits w8 b) (take l.byte-index l.initial.bytes) ++ drop l.byte-index l.initial.bytes
