use Rattle.pnm_tools.proofs.Words.{rules}
use Rattle.pnm_tools.proofs.fused_filter.FusedFilter.fault.Goals as goal

pub returns-in-Refused : goal.returns-in-Refused
returns-in-Refused g c = search rules
