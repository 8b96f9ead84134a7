use Rattle.pnm_stages.proofs.Words.{sent, SameSender, waiting_at}
use Rattle.pnm_stages.proofs.SendingSteps.{IsSending}
use Rattle.pnm_stages.proofs.stage.send_answers.Given as goal

-- what was sent so far
abbrev pub invariant-loop-answer : goal.invariant-loop-answer
invariant-loop-answer g l = SameSender l.fn.output l.output × IsSending g.F.Filter.at g.F.Filter.stopped l.fn.stage l.stage (sent l.fn.output) (sent l.output)

abbrev pub decreases-loop-answer : goal.decreases-loop-answer
decreases-loop-answer g l = waiting_at g.F.Filter.waiting l.stage
