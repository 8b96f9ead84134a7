use Rattle.pnm_write.proofs.Words.{◌≡◌, ◌+◌, ◌*◌, ◌<◌, ◌≤◌, ◌++◌, map, take, Gray, text_of_part, column_after_part, sample_texts}
use Rattle.pnm_write.proofs.numerals.append_numbers.Given as goal

-- the text of the numbers that have passed
abbrev pub invariant-loop-number : goal.invariant-loop-number
invariant-loop-number g l = record {
  text : take l.end l.buffer
      ≡ take l.start l.initial.buffer ++ text_of_part l.column (sample_texts Gray (take l.number-index (map g.N.Sample.value l.numbers)));
  column : l.at ≡ column_after_part l.column (sample_texts Gray (take l.number-index (map g.N.Sample.value l.numbers)));
  within : l.end ≤ l.start + 6 * l.number-index;
  begun : 0 < l.at;
  line : l.at ≤ 70;
}
