use Rattle.pnm_row_tools.proofs.EachRowLaws.{copied_to_self}
use Rattle.pnm_row_tools.proofs.cut.copy_down.Goals as goal

pub returns-then-from-to : goal.returns-then-from-to
returns-then-from-to g c = copied_to_self c.args.samples.now c.args.count c.if-from-to.true
