use Rattle.pnm_filters.proofs.StartSteps.{fresh_is_idle}
use Rattle.pnm_filters.proofs.tool_state.filter_of.Goals as goal

pub returns-in-Ok : goal.returns-in-Ok
returns-in-Ok c = fresh_is_idle c.in-Ok.state c.args.tool.now c.in-Ok.ensures.started
