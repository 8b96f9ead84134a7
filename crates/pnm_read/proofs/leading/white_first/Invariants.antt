use Rattle.pnm_read.proofs.Words.{take, AllPass, is_white}
use Rattle.pnm_read.proofs.leading.white_first.Given as goal

abbrev pub invariant-loop-at : goal.invariant-loop-at
invariant-loop-at l = AllPass is_white (take l.at l.bytes)
