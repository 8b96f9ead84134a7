use Rattle.pnm_transpose.proofs.Words.{rules}
use Rattle.pnm_transpose.proofs.transpose.Transposer.new.Goals as goal

pub returns-clause-way : goal.returns-clause-way
returns-clause-way c = search rules
