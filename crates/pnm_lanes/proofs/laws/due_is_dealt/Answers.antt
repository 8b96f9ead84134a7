use Rattle.pnm_lanes.proofs.LaneLaws.{due_is_dealt as by_images}
use Rattle.pnm_lanes.proofs.laws.due_is_dealt.Goals as goal

pub returns : goal.returns
returns c = by_images
