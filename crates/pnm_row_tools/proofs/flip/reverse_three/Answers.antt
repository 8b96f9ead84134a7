use Rattle.pnm_row_tools.proofs.FlipRowLaws.{three_reversed}
use Rattle.pnm_row_tools.proofs.flip.reverse_three.Goals as goal

pub returns : goal.returns
returns g c = three_reversed c.args.samples.now c.requires c.index-samples-0.is c.index-samples-2.is
