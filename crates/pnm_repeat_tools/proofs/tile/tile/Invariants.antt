use Rattle.pnm_repeat_tools.proofs.Words.{◌≡◌, ◌-◌, flat_map, range_with_len, row_of_samples}
use Rattle.pnm_repeat_tools.proofs.tile.tile.Given as goal

-- the rows that have passed are tiled
abbrev pub invariant-loop-at : goal.invariant-loop-at
invariant-loop-at g l = l.tiled.items
    ≡ flat_map (row_of_samples l.width l.shape.width l.shape.depth l.kept l.samples) (range_with_len l.y (l.at - l.y))
