use Rattle.pnm_row_tools.proofs.ChannelRowsLaws.{picked_answer}
use Rattle.pnm_row_tools.proofs.channel.PlanesRowTool.rows.Goals as goal

pub returns-clause-made : goal.returns-clause-made
returns-clause-made c = picked_answer c.args.self.now c.args.shape c.args._y c.args.rows c.in_ok-picked.ensures
