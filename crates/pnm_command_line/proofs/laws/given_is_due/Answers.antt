use Rattle.pnm_command_line.proofs.ProgramFactSteps.{given_is_due}
use Rattle.pnm_command_line.proofs.laws.given_is_due.Goals as goal

pub returns : goal.returns
returns c = given_is_due
