use Rattle.pnm_tools.proofs.DepthLaws.{nearest_sample_is_nearest}
use Rattle.pnm_tools.proofs.laws.rescaled_samples_are_nearest.Goals as goal

pub returns : goal.returns
returns c = nearest_sample_is_nearest
