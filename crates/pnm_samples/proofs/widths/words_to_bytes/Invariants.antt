use Rattle.pnm_samples.proofs.Words.{◌≡◌, take, length}
use Rattle.pnm_samples.proofs.widths.words_to_bytes.Given as goal

-- the words that have passed
abbrev pub invariant-loop-at : goal.invariant-loop-at
invariant-loop-at l = (length l.bytes.items ≡ length l.words) × (take l.at l.bytes.items ≡ take l.at l.words)
