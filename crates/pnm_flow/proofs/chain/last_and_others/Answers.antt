use Rattle.pnm_flow.proofs.ChainSteps.{last_is_lawful}
use Rattle.pnm_flow.proofs.chain.last_and_others.Goals as goal

pub returns-clause-lawful : goal.returns-clause-lawful
returns-clause-lawful c = last_is_lawful c.args.tools.now c.in-Some.others.now c.in-Some.last.now c.in-Some.ensures.cases.0 c.requires.lawful
