use Rattle.pnm_filters.proofs.Words.{rules}
use Rattle.pnm_filters.proofs.tool_state.any_tool.Goals as goal

pub returns-clause-tool : goal.returns-clause-tool
returns-clause-tool c = search rules
