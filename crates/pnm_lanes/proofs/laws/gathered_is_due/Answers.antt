use Rattle.pnm_lanes.proofs.LaneDue.{gathered_is_due as by_results}
use Rattle.pnm_lanes.proofs.laws.gathered_is_due.Goals as goal

pub returns : goal.returns
returns c = by_results
