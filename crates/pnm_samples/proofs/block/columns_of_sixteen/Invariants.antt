use Rattle.pnm_samples.proofs.Words.{◌≡◌, ℕ, ◌-◌, ◌*◌, ◌%◌, ◌^◌, ◌<◌, get_or, length, map, bits_of}
use Rattle.pnm_samples.proofs.block.columns_of_sixteen.Given as goal

-- the columns that have passed, and each byte's bits so many places up
abbrev pub invariant-loop-k : goal.invariant-loop-k
invariant-loop-k l = record {
  count : length l.columns ≡ 8;
  lanes : l.lanes ≡ map (λ b. b * 2 ^ l.k % 256) l.fn.rows;
  columns : (j : ℕ) → j < l.k → get_or l.columns j 0 ≡ bits_of (7 - j) l.fn.rows;
}
