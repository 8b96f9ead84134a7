use Rattle.pnm_lanes.proofs.Words.{length, received, known_items, at_lane, AreSameInputs, CarriesOn}
use Rattle.pnm_lanes.proofs.drain.drain_all.Given as goal

-- messages were taken of lanes that hadn't ended
abbrev pub invariant-loop : goal.invariant-loop
invariant-loop g l =
    AreSameInputs l.fn.inputs l.inputs
    × CarriesOn (length l.fn.inputs) l.fn.states l.states (at_lane received l.fn.inputs) (at_lane received l.inputs) (at_lane known_items l.fn.inputs)
    (at_lane known_items l.inputs)
