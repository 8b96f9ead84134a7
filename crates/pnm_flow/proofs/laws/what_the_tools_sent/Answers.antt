use Rattle.pnm_flow.proofs.SentLaws.{the_tools_sent}
use Rattle.pnm_flow.proofs.laws.what_the_tools_sent.Goals as goal

pub returns : goal.returns
returns c = the_tools_sent
