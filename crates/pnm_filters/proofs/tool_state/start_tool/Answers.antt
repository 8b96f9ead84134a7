use Rattle.pnm_filters.proofs.Words.{arith, common_steps}
use Rattle.pnm_filters.proofs.tool_state.start_tool.Goals as goal

pub returns-clause-started : goal.returns-clause-started
returns-clause-started c = grind (arith, common_steps)
