use Rattle.pnm_lanes.proofs.Words.{arith, common_steps}
use Rattle.pnm_lanes.proofs.dealing.deal.Goals as goal

pub returns-clause-count : goal.returns-clause-count
returns-clause-count g c = grind (arith, common_steps)

pub returns-clause-dealt : goal.returns-clause-dealt
returns-clause-dealt g c = grind (arith, common_steps)
