use Rattle.pnm_transpose.proofs.Words.{◌≡◌, ◌<◌, ◌≤◌, ◌-◌, ◌*◌, length, flat_map, range_with_len, AreAsLong, column_of}
use Rattle.pnm_transpose.proofs.strip.strip_of.Given as goal

-- the columns that have passed stand in the strip, and there is room for others
abbrev pub invariant-loop-first : goal.invariant-loop-first
invariant-loop-first g l =
    (l.first ≤ l.width) × (l.strip.items ≡ flat_map (column_of l.depth l.rows) (range_with_len 0 l.first)) × (0 < length l.columns.items)
    × AreAsLong (length l.rows * l.depth) l.columns.items

abbrev pub decreases-loop-first : goal.decreases-loop-first
decreases-loop-first g l = l.width - l.first
