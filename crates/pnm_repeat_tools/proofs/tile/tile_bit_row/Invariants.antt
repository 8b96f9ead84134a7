use Rattle.pnm_repeat_tools.proofs.Words.{◌≡◌, ◌*◌, ◌++◌, take, all_pixels, tiled_row}
use Rattle.pnm_repeat_tools.proofs.tile.tile_bit_row.Given as goal

-- so many whole rows stand behind what stood
abbrev pub invariant-loop : goal.invariant-loop
invariant-loop l = l.tiled ≡ l.fn.tiled ++ tiled_row (l.counter * l.fn.each) l.fn.each 1 (take l.fn.each (all_pixels l.fn.bytes))
