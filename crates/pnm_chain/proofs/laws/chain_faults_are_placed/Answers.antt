use Rattle.pnm_chain.proofs.FaultLaws.{chain_faults_are_placed}
use Rattle.pnm_chain.proofs.laws.chain_faults_are_placed.Goals as goal

pub returns : goal.returns
returns c = chain_faults_are_placed
