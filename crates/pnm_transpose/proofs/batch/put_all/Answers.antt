use Rattle.pnm_transpose.proofs.BlockLaws.{rest_behind}
use Rattle.pnm_transpose.proofs.batch.put_all.Goals as goal

pub returns : goal.returns
returns g c =
    rest_behind c.args.first c.args.depth c.put_blocks-begun.result c.args.rows.now c.put_blocks-begun.ensures.count c.requires.rows
    c.put_blocks-begun.ensures.stored c.put_from.ensures
