use Rattle.pnm_tools.proofs.ChainLaws.{refusal_is_first}
use Rattle.pnm_tools.proofs.laws.first_fault_is_the_refusal.Goals as goal

pub returns : goal.returns
returns c = refusal_is_first
