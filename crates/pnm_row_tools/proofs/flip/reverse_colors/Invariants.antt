use Rattle.pnm_row_tools.proofs.Words.{◌≡◌, ◌*◌, ◌++◌, drop, reverse}
use Rattle.pnm_row_tools.proofs.FlipRowLaws.{last_pixels}
use Rattle.pnm_row_tools.proofs.flip.reverse_colors.Given as goal

-- the columns that have passed are those of the mirrored row
abbrev pub invariant-loop-x : goal.invariant-loop-x
invariant-loop-x g l = l.samples ≡ last_pixels l.pixels 3 l.fn.samples l.x ++ drop (l.x * 3) (reverse l.fn.samples)
