use Rattle.pnm_write.proofs.Words.{arith, common_steps}
use Rattle.pnm_write.proofs.plain.end_row.Goals as goal

pub returns-then-is_end : goal.returns-then-is_end
returns-then-is_end c = grind (arith, common_steps)
