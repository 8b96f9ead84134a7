use Rattle.pnm_read.proofs.TextLaws.{one_list_or_one_fault}
use Rattle.pnm_read.proofs.laws.one_stream_or_one_fault.Goals as goal

pub returns : goal.returns
returns c = one_list_or_one_fault
