use Rattle.pnm_write.proofs.Words.{◌*◌, ◌≤◌, length, take, all_pixels, Bit, Sending, plain_row_text}
use Rattle.pnm_write.proofs.plain.write_pixels.Given as goal

-- what is left is what isn't written
abbrev pub invariant-loop-left : goal.invariant-loop-left
invariant-loop-left g l = record {
  sending : Sending g.W.BytesOut.held g.W.BytesOut.failures g.W.BytesOut.same l.initial.writer l.writer (plain_row_text Bit (take l.count (all_pixels l.bytes)))
      (plain_row_text Bit (take l.left (all_pixels l.rest)));
  enough : l.left ≤ 8 * length l.rest;
}

abbrev pub decreases-loop-left : goal.decreases-loop-left
decreases-loop-left g l = l.left
