use Rattle.pnm_flow.proofs.Words.{◌+◌, ◌*◌, length}
use Rattle.pnm_flow.proofs.chain.+fn-run_stages-Call+run_stages.Given as goal

abbrev pub decreases-Call : goal.decreases-Call
decreases-Call g l = 2 * length l.others.now + 1

abbrev pub decreases-run_stages : goal.decreases-run_stages
decreases-run_stages g l = 2 * length l.tools.now
