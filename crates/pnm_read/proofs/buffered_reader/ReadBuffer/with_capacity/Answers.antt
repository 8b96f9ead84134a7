use Rattle.pnm_read.proofs.Words.{arith}
use Rattle.pnm_read.proofs.buffered_reader.ReadBuffer.with_capacity.Goals as goal

pub invariant_of-result : goal.invariant_of-result
invariant_of-result c = omega (arith, c.in-Ok.ensures)

pub returns-in-Ok-clause-size : goal.returns-in-Ok-clause-size
returns-in-Ok-clause-size c = omega (arith, c.in-Ok.ensures)
