use Rattle.pnm_read.proofs.FaultPrefixes.{said_before_fault_is_spelled}
use Rattle.pnm_read.proofs.laws.what_is_said_before_a_fault_is_spelled.Goals as goal

pub returns : goal.returns
returns c = said_before_fault_is_spelled
