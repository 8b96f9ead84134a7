use Rattle.pnm_write.proofs.Words.{◌≡◌, ◌≤◌, ◌-◌, length, drop, slice_samples, Sending, plain_row_text}
use Rattle.pnm_write.proofs.PlainLaws.{text_left}
use Rattle.pnm_write.proofs.plain.write_others.Given as goal

-- what is left is what isn't written
abbrev pub invariant-loop-done : goal.invariant-loop-done
invariant-loop-done g l = record {
  sending : Sending g.W.BytesOut.held g.W.BytesOut.failures g.W.BytesOut.same l.initial.writer l.writer
      (plain_row_text l.shape.kind (slice_samples l.row))
      (text_left l.column l.shape.kind (drop l.done (slice_samples l.row)));
  within : l.done ≤ l.count;
  line : l.column ≤ 70;
  buffer : length l.words ≡ 680;
}

abbrev pub decreases-loop-done : goal.decreases-loop-done
decreases-loop-done g l = l.count - l.done
