use Rattle.pnm_transpose.proofs.Words.{◌≡◌, ◌++◌, take, flat_map}
use Rattle.pnm_transpose.proofs.strip.add_columns.Given as goal

-- the columns that have passed stand in the strip
abbrev pub invariant-loop-column : goal.invariant-loop-column
invariant-loop-column g l = l.strip.items ≡ l.initial.strip.items ++ flat_map (λ column. column.items) (take l.column-index l.column-items)
