use Rattle.pnm_transpose.proofs.Words.{AreBlank}
use Rattle.pnm_transpose.proofs.batch.blank_columns.Given as goal

-- so many columns are there
abbrev pub invariant-loop : goal.invariant-loop
invariant-loop g l = AreBlank l.counter l.samples l.columns.items
