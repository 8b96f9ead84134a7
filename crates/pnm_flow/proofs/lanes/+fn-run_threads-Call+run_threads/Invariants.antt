use Rattle.pnm_flow.proofs.Words.{◌+◌, ◌*◌, length}
use Rattle.pnm_flow.proofs.lanes.+fn-run_threads-Call+run_threads.Given as goal

abbrev pub decreases-Call : goal.decreases-Call
decreases-Call g l = 2 * length l.others.items + 1

abbrev pub decreases-run_threads : goal.decreases-run_threads
decreases-run_threads g l = 2 * length l.lanes.items
