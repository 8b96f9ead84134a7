use Rattle.pnm_write.proofs.Words.{◌≡◌, ◌*◌, ◌≤◌, length, take, text_of_part, column_after_part, sample_texts}
use Rattle.pnm_write.proofs.plain.set_part.Given as goal

-- the text of the samples that have passed
abbrev pub invariant-loop-sample : goal.invariant-loop-sample
invariant-loop-sample l = record {
  text : l.buffer ≡ text_of_part l.column (sample_texts l.kind (take l.sample-index l.samples));
  count : length l.buffer ≤ 6 * l.sample-index;
  column : l.at ≡ column_after_part l.column (sample_texts l.kind (take l.sample-index l.samples));
  line : l.at ≤ 70;
}
