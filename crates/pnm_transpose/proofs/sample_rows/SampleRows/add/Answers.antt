use Rattle.pnm_transpose.proofs.Words.{arith, common_steps}
use Rattle.std.proofs.Common.{IsTrue}
use Rattle.pnm_transpose.proofs.sample_rows.SampleRows.add.Goals as goal

pub returns-then-are_added-clause-kept : goal.returns-then-are_added-clause-kept
returns-then-are_added-clause-kept c = let _are_added : IsTrue c.in_ok-are_added.are_added = assumption in grind (arith, common_steps)
