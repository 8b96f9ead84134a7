use Rattle.pnm_lanes.proofs.SendSteps.{wakes_none}
use Rattle.pnm_lanes.proofs.dealing.wake_before_input.Goals as goal

pub returns-else-not-has_message-clause-outputs : goal.returns-else-not-has_message-clause-outputs
returns-else-not-has_message-clause-outputs c = wakes_none c.args.outputs.now
