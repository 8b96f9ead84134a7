use Rattle.pnm_chain.proofs.Words.{arith, common_steps}
use Rattle.pnm_chain.specs.Options.{tool_named}
use Rattle.pnm_chain.proofs.NameLaws.{tried_after}
use Rattle.pnm_chain.proofs.options.ToolName.named.Goals as goal

pub returns : goal.returns
unfolding tool_named
returns c = grind (arith, common_steps, tried_after)
