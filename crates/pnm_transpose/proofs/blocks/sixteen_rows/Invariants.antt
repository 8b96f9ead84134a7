use Rattle.pnm_transpose.proofs.Words.{Bor, ◌≡◌, ◌<◌, ◌+◌, ℕ, List, [], get_or, length}
use Rattle.pnm_transpose.proofs.blocks.sixteen_rows.Given as goal

-- the rows that were taken
abbrev pub invariant-loop-i : goal.invariant-loop-i
invariant-loop-i l = (length l.sixteen ≡ 16) × ((j : ℕ) (d : Bor (List ℕ)) → j < l.i → (get_or l.sixteen j d).now ≡ get_or l.rows (l.y + j) [])
