use Rattle.pnm_tools.proofs.HeadFaultLaws.{head_is_refused_by_name, no_rows_refused}
use Rattle.pnm_tools.proofs.laws.heads_are_refused_by_name.Goals as goal

pub returns : goal.returns
returns c = λ tool head. (head_is_refused_by_name tool head, no_rows_refused tool head)
