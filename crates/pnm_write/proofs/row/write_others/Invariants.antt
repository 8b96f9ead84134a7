use Rattle.pnm_write.proofs.Words.{◌≡◌, ◌≤◌, ◌-◌, length, drop, bytes_in, slice_samples, Sending}
use Rattle.pnm_write.proofs.row.write_others.Given as goal

-- what is left is what isn't written
abbrev pub invariant-loop-done : goal.invariant-loop-done
invariant-loop-done g l =
    Sending g.W.BytesOut.held g.W.BytesOut.failures g.W.BytesOut.same l.initial.writer l.writer
    (bytes_in l.sample_width (slice_samples l.row))
    (bytes_in l.sample_width (drop l.done (slice_samples l.row))) × (l.done ≤ l.count) × (length l.words ≡ 2048)

abbrev pub decreases-loop-done : goal.decreases-loop-done
decreases-loop-done g l = l.count - l.done
