use Rattle.pnm_samples.proofs.Words.{HavePairs}
use Rattle.pnm_samples.proofs.transpose.put_pairs.Given as goal

-- the columns that have passed got their bytes
abbrev pub invariant-loop-k : goal.invariant-loop-k
invariant-loop-k l = HavePairs l.k l.first l.at l.pairs l.initial.columns l.columns
