use Rattle.pnm_lanes.proofs.Words.{length, received, SameReceiver, More, IsLaneCount}
use Rattle.pnm_lanes.proofs.DealSteps.{IsDealing}
use Rattle.pnm_lanes.proofs.dealing.deal_all.Given as goal

-- what has been dealt so far
abbrev pub invariant-loop : goal.invariant-loop
invariant-loop g l =
    SameReceiver l.fn.input l.input × IsLaneCount (length l.outputs)
    × IsDealing More l.place (received l.fn.input) (received l.input) l.fn.outputs l.outputs
