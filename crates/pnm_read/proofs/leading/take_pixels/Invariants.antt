use Rattle.pnm_read.proofs.Words.{◌≤◌, length, plain_pixel, TakesSamples}
use Rattle.pnm_read.proofs.LeadingLaws.{IsWhiteFrom}
use Rattle.pnm_read.proofs.leading.take_pixels.Given as goal

abbrev pub invariant-loop-at : goal.invariant-loop-at
invariant-loop-at l = record {
  taken : TakesSamples plain_pixel l.bytes l.initial.row.items l.row.items l.taken;
  white : IsWhiteFrom l.bytes l.taken l.at;
  most : length l.initial.row.items ≤ l.wanted → length l.row.items ≤ l.wanted;
}
