use Rattle.std.proofs.Common.{arith}
use Rattle.std.proofs.lemmas.Grind.{common_steps}
use Rattle.pnm_command_line.proofs.command_line.form_by.Goals as goal

pub returns-in-Some-true : goal.returns-in-Some-true
returns-in-Some-true c = grind (arith, common_steps)
