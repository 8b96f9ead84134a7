use Rattle.pnm_serial.proofs.RunFactSteps.{run_tells, run_in_one_thread_tells, run_without_list_tells}
use Rattle.pnm_serial.proofs.laws.what_a_run_tells.Goals as goal

pub returns-clause-over_threads : goal.returns-clause-over_threads
returns-clause-over_threads c = run_tells

pub returns-clause-in_one_thread : goal.returns-clause-in_one_thread
returns-clause-in_one_thread c = run_in_one_thread_tells

pub returns-clause-without_list : goal.returns-clause-without_list
returns-clause-without_list c = run_without_list_tells
