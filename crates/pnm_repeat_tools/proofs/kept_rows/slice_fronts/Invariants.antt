use Rattle.pnm_repeat_tools.proofs.Words.{◌≡◌, fronts_in}
use Rattle.pnm_repeat_tools.proofs.kept_rows.slice_fronts.Given as goal

-- the fronts of the rows that have passed
abbrev pub invariant-loop-row : goal.invariant-loop-row
invariant-loop-row g l = l.fronts.items ≡ fronts_in l.shown l.row l.row_length l.samples
