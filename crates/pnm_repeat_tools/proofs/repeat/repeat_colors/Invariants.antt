use Rattle.pnm_repeat_tools.proofs.Words.{◌≡◌, ◌*◌, length, take}
use Rattle.pnm_repeat_tools.proofs.EnlargeRowLaws.{columns_repeated}
use Rattle.pnm_repeat_tools.proofs.repeat.repeat_colors.Given as goal

-- the pixels that have passed stand so many times
abbrev pub invariant-loop-x : goal.invariant-loop-x
invariant-loop-x g l = record {
  prefix : take (3 * l.x * l.fn.across) l.buffer ≡ columns_repeated l.fn.across 3 l.row l.x;
  size : length l.buffer ≡ length l.row * l.fn.across;
}
