use Rattle.pnm_tools.proofs.Words.{rules}
use Rattle.pnm_tools.proofs.channel.Planes.new.Goals as goal

pub returns-clause-tuple_type : goal.returns-clause-tuple_type
returns-clause-tuple_type c = search rules
