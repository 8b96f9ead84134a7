use Rattle.pnm_command_line.proofs.ProgramFactSteps.{status_0_is_all_written}
use Rattle.pnm_command_line.proofs.laws.status_0_is_all_written.Goals as goal

pub returns : goal.returns
returns c = status_0_is_all_written
