use Rattle.pnm_samples.proofs.Words.{AreLong}
use Rattle.pnm_samples.proofs.transpose.columns_of_length.Given as goal

-- so many columns are there
abbrev pub invariant-loop : goal.invariant-loop
invariant-loop l = AreLong l.counter l.length l.columns.items
