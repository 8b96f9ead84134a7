use Rattle.pnm_lanes.proofs.Words.{ℕ, [], ◌∷◌, stream_end}
use Rattle.pnm_lanes.proofs.SendSteps.{IsSending}
use Rattle.pnm_lanes.proofs.dealing.send_end.Given as goal

-- the lanes so far were sent the end
abbrev pub invariant-loop-lane : goal.invariant-loop-lane
invariant-loop-lane g l = IsSending (λ (n : ℕ). n) l.lane (λ (n : ℕ). stream_end l.fn.is_whole ∷ []) l.unsent l.fn.outputs l.outputs
