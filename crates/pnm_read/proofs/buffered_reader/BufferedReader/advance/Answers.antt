use Rattle.pnm_read.proofs.ReadSteps.{range_after}
use Rattle.pnm_read.proofs.Words.{arith, common_steps}
use Rattle.pnm_read.proofs.buffered_reader.BufferedReader.advance.Goals as goal

pub returns-clause-held : goal.returns-clause-held
returns-clause-held g c = range_after c.args.self.now.buffer.items c.args.self.now.at c.args.self.now.end c.args.count c.requires

pub invariant_of-self : goal.invariant_of-self
invariant_of-self g c = grind (arith, common_steps)

pub overflow_add-self : goal.overflow_add-self
overflow_add-self g c = grind (arith, common_steps)
