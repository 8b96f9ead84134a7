use Rattle.pnm_write.proofs.Words.{arith, common_steps}
use Rattle.pnm_write.proofs.write_buffer.WriteBuffer.push.Goals as goal

pub returns-clause-count : goal.returns-clause-count
returns-clause-count c = grind (arith, common_steps)

pub returns-clause-bytes : goal.returns-clause-bytes
returns-clause-bytes c = grind (arith, common_steps)
