use Rattle.pnm_read.proofs.Words.{arith, common_steps}
use Rattle.pnm_read.proofs.spare_rows.refill.Goals as goal

pub unreachable-requires : goal.unreachable-requires
unreachable-requires c = grind (arith, common_steps)

pub returns : goal.returns
returns c = grind (arith, common_steps)
