use Rattle.pnm_chain.proofs.ChainLaws.{one_chain_or_one_fault}
use Rattle.pnm_chain.proofs.laws.one_chain_or_one_fault.Goals as goal

pub returns : goal.returns
returns c = one_chain_or_one_fault
