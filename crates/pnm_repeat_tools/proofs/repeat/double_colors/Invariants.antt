use Rattle.pnm_repeat_tools.proofs.Words.{◌≡◌, ◌*◌, length, take}
use Rattle.pnm_repeat_tools.proofs.EnlargeRowLaws.{columns_repeated}
use Rattle.pnm_repeat_tools.proofs.repeat.double_colors.Given as goal

-- the pixels that have passed stand twice
abbrev pub invariant-loop-x : goal.invariant-loop-x
invariant-loop-x g l = (take (6 * (4 * l.x)) l.buffer ≡ columns_repeated 2 3 l.row (4 * l.x)) × (length l.buffer ≡ length l.initial.buffer)

-- the last ones too
abbrev pub invariant-loop-x-2 : goal.invariant-loop-x-2
invariant-loop-x-2 g l = record {
  prefix : take (6 * l.x) l.buffer ≡ columns_repeated 2 3 l.row l.x;
  size : length l.buffer ≡ length l.row * 2;
}
