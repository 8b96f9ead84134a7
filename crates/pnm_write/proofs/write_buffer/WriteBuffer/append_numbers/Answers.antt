use Rattle.pnm_write.proofs.Words.{arith, common_steps}
use Rattle.pnm_write.proofs.write_buffer.WriteBuffer.append_numbers.Goals as goal

pub returns-clause-count : goal.returns-clause-count
returns-clause-count g c = grind (arith, common_steps)

pub returns-clause-text : goal.returns-clause-text
returns-clause-text g c = grind (arith, common_steps)
