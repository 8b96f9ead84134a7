use Rattle.pnm_read.proofs.Words.{◌-◌, ◌≤◌, length, vec_len, plain_decimal, TakesSamples}
use Rattle.pnm_read.proofs.LeadingLaws.{IsWhiteFrom}
use Rattle.pnm_read.proofs.leading.take_numbers.Given as goal

abbrev pub invariant-loop-start : goal.invariant-loop-start
invariant-loop-start l = record {
  taken : TakesSamples (plain_decimal l.maxval) l.bytes l.initial.row.items l.row.items l.taken;
  white : IsWhiteFrom l.bytes l.taken l.at;
  most : length l.initial.row.items ≤ l.wanted → length l.row.items ≤ l.wanted;
}

abbrev pub decreases-loop-start : goal.decreases-loop-start
decreases-loop-start l = l.wanted - vec_len l.row
