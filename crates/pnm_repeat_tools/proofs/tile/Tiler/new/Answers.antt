use Rattle.pnm_repeat_tools.proofs.Words.{rules}
use Rattle.pnm_repeat_tools.proofs.tile.Tiler.new.Goals as goal

pub returns-clause-height : goal.returns-clause-height
returns-clause-height c = search rules
