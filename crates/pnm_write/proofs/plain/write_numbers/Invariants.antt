use Rattle.pnm_write.proofs.Words.{◌≤◌, length, map, Gray, Sending, plain_row_text}
use Rattle.pnm_write.proofs.PlainLaws.{text_left}
use Rattle.pnm_write.proofs.plain.write_numbers.Given as goal

-- what is left is what isn't written
abbrev pub invariant-loop-rest : goal.invariant-loop-rest
invariant-loop-rest g l = record {
  sending : Sending g.W.BytesOut.held g.W.BytesOut.failures g.W.BytesOut.same l.initial.writer l.writer
      (plain_row_text Gray (map g.N.Sample.value l.numbers)) (text_left l.column Gray (map g.N.Sample.value l.rest));
  line : l.column ≤ 70;
}

abbrev pub decreases-loop-rest : goal.decreases-loop-rest
decreases-loop-rest g l = length l.rest
