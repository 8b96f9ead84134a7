use Rattle.pnm_repeat_tools.proofs.Words.{◌≡◌, ◌+◌, ◌-◌, ◌++◌, length, drop}
use Rattle.pnm_repeat_tools.proofs.TileRowLaws.{IsTiledPrefix}
use Rattle.pnm_repeat_tools.proofs.tile.tile_row.Given as goal

-- behind what stood so many columns stand, all of them or whole copies of the row
abbrev pub invariant-loop-tiled : goal.invariant-loop-tiled
invariant-loop-tiled g l = (l.start ≡ length l.fn.tiled.items) × (l.tiled.items ≡ l.fn.tiled.items ++ drop l.start l.tiled.items)
    × IsTiledPrefix l.fn.width l.fn.shape.width l.fn.shape.depth l.fn.row (drop l.start l.tiled.items)

abbrev pub decreases-loop-tiled : goal.decreases-loop-tiled
decreases-loop-tiled g l = l.start + l.filled - length l.tiled.items
