use Rattle.pnm_write.proofs.Words.{◌≡◌, ◌*◌, take, all_pixels, cells}
use Rattle.pnm_write.proofs.pixels.put_cells.Given as goal

-- the characters of the bytes that have passed
abbrev pub invariant-loop-i : goal.invariant-loop-i
invariant-loop-i l = take (16 * l.i) l.buffer ≡ cells (all_pixels (take l.i l.bytes))
