use Rattle.pnm_flow.proofs.Words.{refl, rules}
use Rattle.pnm_flow.proofs.chain.not_started.Goals as goal

pub returns : goal.returns
returns c = (search rules, refl, search rules, refl)
