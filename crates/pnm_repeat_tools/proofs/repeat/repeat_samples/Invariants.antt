use Rattle.pnm_repeat_tools.proofs.Words.{◌≡◌, ◌*◌, length, take}
use Rattle.pnm_repeat_tools.proofs.EnlargeRowLaws.{columns_repeated}
use Rattle.pnm_repeat_tools.proofs.repeat.repeat_samples.Given as goal

-- the samples that have passed stand so many times
abbrev pub invariant-loop-i : goal.invariant-loop-i
invariant-loop-i g l = record {
  prefix : take (l.i * l.fn.across) l.buffer ≡ columns_repeated l.fn.across 1 l.row l.i;
  size : length l.buffer ≡ length l.row * l.fn.across;
}
