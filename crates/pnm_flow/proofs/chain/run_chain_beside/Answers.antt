use Rattle.pnm_flow.proofs.Words.{vec_capacity}
use Rattle.pnm_flow.proofs.ChainSteps.{chain_came_back}
use Rattle.pnm_flow.proofs.chain.run_chain_beside.Goals as goal

pub returns-clause-ran : goal.returns-clause-ran
returns-clause-ran g c = chain_came_back c.args.lanes c.args.tools.now (vec_capacity c.in-Some.reserved.links) (vec_capacity c.in-Some.reserved.ends)
    c.args.input c.args.output c.run_stages.result c.requires.chain.lawful c.run_stages.ensures.ran

pub returns-clause-beside : goal.returns-clause-beside
returns-clause-beside g c = c.run_stages.ensures.beside

pub returns-clause-not_started : goal.returns-clause-not_started
returns-clause-not_started g c = c.run_stages.ensures.not_started

-- there is no memory
pub returns-in_default : goal.returns-in_default
returns-in_default g c = record { input = tt; output = tt; ran = tt; beside = tt; not_started = c.not_started.ensures }
