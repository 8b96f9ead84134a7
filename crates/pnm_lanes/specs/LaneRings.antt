-- The rings of a tool over several lanes: one to each lane, of which the thread before the lanes has the end to send
-- on, and one from it, of which the thread behind them has the end to receive on.
use Rattle.std.specs.Prelude.{◌≡◌, List, [], ◌∷◌}
use Rattle.pnm_stages.specs.declared.sender.Sender.{Sender}
use Rattle.pnm_stages.specs.declared.receiver.Receiver.{Receiver}
use Rattle.pnm_stages.specs.Rings.{sent, received, IsPair}
use Rattle.pnm_stages.specs.declared.stage.StageDone.{StageDone}
use Rattle.pnm_lanes.specs.declared.lane_rings.LaneRingEnds.{LaneRingEnds}

-- rings to and from each lane, over which nothing has passed
abbrev pub AreUnused : List Sender → List LaneRingEnds → List Receiver → Type 0
AreUnused [] [] [] = Unit {0}
AreUnused [] [] (r ∷ rs) = ⊥
AreUnused [] (e ∷ es) rs = ⊥
AreUnused (s ∷ ss) [] rs = ⊥
AreUnused (s ∷ ss) (e ∷ es) [] = ⊥
AreUnused (s ∷ ss) (e ∷ es) (r ∷ rs) =
    IsPair s e.input × IsPair e.output r
    × ((sent s ≡ []) × (received e.input ≡ []) × (sent e.output ≡ []) × (received r ≡ [])) × AreUnused ss es rs

-- the ends of the rings of lanes that have ended
abbrev pub ArePairs : List Sender → List StageDone → List Receiver → Type 0
ArePairs [] [] [] = Unit {0}
ArePairs [] [] (r ∷ rs) = ⊥
ArePairs [] (d ∷ ds) rs = ⊥
ArePairs (s ∷ ss) [] rs = ⊥
ArePairs (s ∷ ss) (d ∷ ds) [] = ⊥
ArePairs (s ∷ ss) (d ∷ ds) (r ∷ rs) = IsPair s d.input × IsPair d.output r × ArePairs ss ds rs
