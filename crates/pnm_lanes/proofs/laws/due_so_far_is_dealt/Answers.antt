use Rattle.pnm_lanes.proofs.LaneSoFar.{dealt_ended, dealt_begun, due_so_far_is_dealt}
use Rattle.pnm_lanes.proofs.laws.due_so_far_is_dealt.Goals as goal

pub returns : goal.returns
returns c = record { ended = dealt_ended; begun = dealt_begun; owes = due_so_far_is_dealt }
