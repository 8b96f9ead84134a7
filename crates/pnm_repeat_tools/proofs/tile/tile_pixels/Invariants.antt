use Rattle.pnm_repeat_tools.proofs.Words.{◌≡◌, ◌-◌, ◌*◌, length, map, range_with_len, bytes_for, rows_of_bytes, row_of_tiles}
use Rattle.pnm_repeat_tools.proofs.tile.tile_pixels.Given as goal

-- the rows that have passed are tiled
abbrev pub invariant-loop-at : goal.invariant-loop-at
invariant-loop-at l = (length l.tiled.items ≡ (l.at - l.y) * bytes_for l.filled)
    × (rows_of_bytes (l.at - l.y) l.filled l.tiled.items ≡ map (row_of_tiles l.filled l.each 1 l.rows) (range_with_len l.y (l.at - l.y)))
