use Rattle.pnm_tools.proofs.PixelLaws.{three_samples}
use Rattle.pnm_tools.proofs.color.color_at.Goals as goal

pub returns : goal.returns
returns g c = three_samples c.args.row.now c.args.at _ _ _ c.requires c.index-row-at.is c.index-row-at-2.is c.index-row-at-3.is
