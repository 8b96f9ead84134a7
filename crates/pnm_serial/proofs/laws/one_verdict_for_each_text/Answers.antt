use Rattle.pnm_serial.proofs.VerdictLaws.{one_verdict}
use Rattle.pnm_serial.proofs.laws.one_verdict_for_each_text.Goals as goal

pub returns : goal.returns
returns c = one_verdict
