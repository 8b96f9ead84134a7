use Rattle.pnm_repeat_tools.proofs.Words.{◌≡◌, ◌*◌, take}
use Rattle.pnm_repeat_tools.proofs.EnlargeRowLaws.{columns_repeated}
use Rattle.pnm_repeat_tools.proofs.repeat.double_samples.Given as goal

-- the samples that have passed stand twice
abbrev pub invariant-loop-i : goal.invariant-loop-i
invariant-loop-i g l = take (2 * l.i) l.buffer ≡ columns_repeated 2 1 l.row l.i
