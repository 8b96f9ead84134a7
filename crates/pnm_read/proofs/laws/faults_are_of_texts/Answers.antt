use Rattle.pnm_read.proofs.FaultLaws.{fault_is_of_text}
use Rattle.pnm_read.proofs.laws.faults_are_of_texts.Goals as goal

pub returns : goal.returns
returns c = fault_is_of_text
