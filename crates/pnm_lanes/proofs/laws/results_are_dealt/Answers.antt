use Rattle.pnm_lanes.proofs.LaneLaws.{results_are_dealt as by_images}
use Rattle.pnm_lanes.proofs.laws.results_are_dealt.Goals as goal

pub returns : goal.returns
returns c = by_images
