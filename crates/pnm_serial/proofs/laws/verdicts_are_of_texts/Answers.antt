use Rattle.pnm_serial.proofs.VerdictFaults.{verdict_is_of_text}
use Rattle.pnm_serial.proofs.laws.verdicts_are_of_texts.Goals as goal

pub returns : goal.returns
returns c = verdict_is_of_text
