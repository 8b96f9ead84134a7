use Rattle.pnm_lanes.proofs.LaneLaws.{stream_is_dealt as by_images}
use Rattle.pnm_lanes.proofs.laws.streams_are_dealt.Goals as goal

pub returns : goal.returns
returns c = by_images
