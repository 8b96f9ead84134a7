use Rattle.pnm_samples.proofs.Words.{◌≡◌, ◌+◌, ◌*◌, length, take, all_pixels}
use Rattle.pnm_samples.proofs.bit_rows.store_row.Given as goal

-- the pixels of the bytes that have passed, and after them the places of the others
abbrev pub invariant-loop-byte : goal.invariant-loop-byte
invariant-loop-byte l = (l.at + 8 * length l.bytes ≡ length l.samples + 8 * l.byte-index)
    × (take l.at l.samples ≡ all_pixels (take l.byte-index l.bytes))
