use Rattle.pnm_stages.proofs.Words.{length, messages_in, unfed_in, sent, SameSender}
use Rattle.pnm_stages.proofs.PassingSteps.{IsFeeding}
use Rattle.pnm_stages.proofs.stage.pass.Given as goal

-- what was fed of the packet so far, and sent
abbrev pub invariant-loop-alloc : goal.invariant-loop-alloc
invariant-loop-alloc g l = SameSender l.fn.output l.output
    × IsFeeding g.F.Filter.at g.F.Filter.all_given g.F.Filter.stopped l.fn.stage l.stage (messages_in l.fn.packet) (unfed_in l.unfed)
    (sent l.fn.output) (sent l.output)

abbrev pub decreases-loop-alloc : goal.decreases-loop-alloc
decreases-loop-alloc g l = length (unfed_in l.unfed)
