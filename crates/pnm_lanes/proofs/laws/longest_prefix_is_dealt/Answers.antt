use Rattle.pnm_lanes.proofs.DealtLaws.{longest_prefix_is_dealt as by_accepted}
use Rattle.pnm_lanes.proofs.laws.longest_prefix_is_dealt.Goals as goal

pub returns : goal.returns
returns c = by_accepted
