use Rattle.pnm_chain.proofs.LawfulLaws.{spelled_chain_is_lawful}
use Rattle.pnm_chain.proofs.laws.spelled_chains_are_lawful.Goals as goal

pub returns : goal.returns
returns c = spelled_chain_is_lawful
