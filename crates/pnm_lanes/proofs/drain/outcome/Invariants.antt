use Rattle.pnm_lanes.proofs.Words.{◌<◌, ℕ, IsDone, state_at}
use Rattle.pnm_lanes.proofs.drain.outcome.Given as goal

-- the lanes before this one are done
abbrev pub invariant-loop-state : goal.invariant-loop-state
invariant-loop-state l = (lane : ℕ) → lane < l.state-index → IsDone l.have_ended (state_at l.states lane)
