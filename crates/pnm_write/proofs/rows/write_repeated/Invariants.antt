use Rattle.pnm_write.proofs.Words.{◌-◌, repeated, Sending, rows_bytes}
use Rattle.pnm_write.proofs.rows.write_repeated.Given as goal

-- the rows are still to be written as often as this says
abbrev pub invariant-loop-time : goal.invariant-loop-time
invariant-loop-time g l =
    Sending g.W.BytesOut.held g.W.BytesOut.failures g.W.BytesOut.same l.initial.writer l.writer
    (rows_bytes l.form l.shape (repeated l.times l.held)) (rows_bytes l.form l.shape (repeated (l.times - l._time) l.held))
