use Rattle.pnm_tools.proofs.RowWiseLaws.{row_wise_tools_commute}
use Rattle.pnm_tools.proofs.laws.row_wise_tools_commute_with_dealing.Goals as goal

pub returns : goal.returns
returns c = row_wise_tools_commute
