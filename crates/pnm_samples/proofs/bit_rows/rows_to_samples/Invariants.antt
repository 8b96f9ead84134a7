use Rattle.pnm_samples.proofs.Words.{◌≡◌, ◌+◌, ◌*◌, length, take, concat, rows_of_bytes}
use Rattle.pnm_samples.proofs.bit_rows.rows_to_samples.Given as goal

-- the rows that have passed lie one after another, and after them are the places of the others
abbrev pub invariant-loop-row : goal.invariant-loop-row
invariant-loop-row l = (length l.samples.items ≡ l.total + 7)
    × (take (l.row * l.each) l.samples.items ≡ concat (take l.row (rows_of_bytes l.count l.each l.bytes)))
