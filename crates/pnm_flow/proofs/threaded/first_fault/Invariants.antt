use Rattle.pnm_flow.proofs.Words.{◌≡◌, ◌+◌, drop, first_fault_from}
use Rattle.pnm_flow.proofs.threaded.first_fault.Given as goal

-- the stages that were looked at have no fault
abbrev pub invariant-loop-index : goal.invariant-loop-index
invariant-loop-index l = first_fault_from 1 l.ends ≡ first_fault_from (l.index + 1) (drop l.index l.ends)
