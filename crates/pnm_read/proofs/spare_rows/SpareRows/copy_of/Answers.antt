use Rattle.pnm_read.proofs.Words.{arith}
use Rattle.pnm_read.proofs.spare_rows.SpareRows.copy_of.Goals as goal

pub refill-requires : goal.refill-requires
refill-requires c = omega arith
