use Rattle.pnm_write.proofs.Words.{drop, Sending, rows_bytes}
use Rattle.pnm_write.proofs.rows.write_each.Given as goal

-- what is left is what isn't written
abbrev pub invariant-loop-at : goal.invariant-loop-at
invariant-loop-at g l =
    Sending g.W.BytesOut.held g.W.BytesOut.failures g.W.BytesOut.same l.initial.writer l.writer (rows_bytes l.form l.shape l.rows)
    (rows_bytes l.form l.shape (drop l.at l.rows))
