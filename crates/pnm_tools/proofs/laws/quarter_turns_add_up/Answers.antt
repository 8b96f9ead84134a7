use Rattle.pnm_tools.proofs.QuarterTurnLaws.{quarter_turns}
use Rattle.pnm_tools.proofs.laws.quarter_turns_add_up.Goals as goal

pub returns : goal.returns
returns c = quarter_turns
