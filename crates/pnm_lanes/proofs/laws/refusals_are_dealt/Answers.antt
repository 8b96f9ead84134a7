use Rattle.pnm_lanes.proofs.LaneHeads.{refused_head_is_dealt as by_heads}
use Rattle.pnm_lanes.proofs.laws.refusals_are_dealt.Goals as goal

pub returns : goal.returns
returns c = by_heads
