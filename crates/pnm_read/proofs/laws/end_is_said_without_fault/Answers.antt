use Rattle.pnm_read.proofs.SaidLaws.{end_is_said_without_fault}
use Rattle.pnm_read.proofs.laws.end_is_said_without_fault.Goals as goal

pub returns : goal.returns
returns c = end_is_said_without_fault
