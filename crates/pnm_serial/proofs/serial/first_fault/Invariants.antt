use Rattle.pnm_serial.proofs.Words.{take, AreWell, refusals_in}
use Rattle.pnm_serial.proofs.serial.first_fault.Given as goal

-- the stages that were looked at haven't refused
abbrev pub invariant-loop-index : goal.invariant-loop-index
invariant-loop-index g l = AreWell (take l.index (refusals_in l.stages))
