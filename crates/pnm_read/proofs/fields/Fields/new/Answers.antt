use Rattle.pnm_read.proofs.Words.{rules}
use Rattle.pnm_read.proofs.FieldSteps.{no_fields}
use Rattle.pnm_read.proofs.fields.Fields.new.Goals as goal

pub returns : goal.returns
returns c = no_fields _ (search rules) (search rules) (search rules) (search rules) (search rules)
