use Rattle.pnm_samples.proofs.Words.{◌≡◌, take, length}
use Rattle.pnm_samples.proofs.widths.bytes_to_words.Given as goal

-- the bytes that have passed
abbrev pub invariant-loop-at : goal.invariant-loop-at
invariant-loop-at l = (length l.words.items ≡ length l.bytes) × (take l.at l.words.items ≡ take l.at l.bytes)
