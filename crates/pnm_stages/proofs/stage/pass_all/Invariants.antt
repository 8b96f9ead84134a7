use Rattle.pnm_stages.proofs.Words.{◌≡◌, None, sent, received, SameSender, SameReceiver, More, refusal_in}
use Rattle.pnm_stages.proofs.StagedSteps.{IsPassing}
use Rattle.pnm_stages.proofs.stage.pass_all.Given as goal

-- what has passed so far
abbrev pub invariant-loop : goal.invariant-loop
invariant-loop g l =
    SameReceiver l.fn.input l.input × SameSender l.fn.output l.output
    × IsPassing g.F.Filter.at g.F.Filter.all_given g.F.Filter.stopped More l.fn.stage l.stage (received l.fn.input) (received l.input) (sent l.fn.output)
    (sent l.output)
    × (refusal_in l.stage ≡ None)
