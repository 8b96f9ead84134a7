use Rattle.pnm_serial.proofs.VerdictLaws.{one_answer}
use Rattle.pnm_serial.proofs.laws.one_answer_for_each_text.Goals as goal

pub returns : goal.returns
returns c = one_answer
