-- Lists of ring ends, one for each lane.
use Rattle.pnm_lanes.proofs.Words.{◌≡◌, ◌≢◌, ℕ, zero, suc, ◌<◌, List, [], ◌∷◌, length, get_or, set, refl, ap, arith, Receiver, SameReceiver, Message}
use Rattle.pnm_lanes.proofs.Words.{same_input, itself_input, at_lane, AreSameInputs}

-- ---- what has passed in the ring of a lane

pub at_lane-get : {X : Type 0} (of : X → List Message) (ends : List X) (lane : ℕ) (other : X) → lane < length ends
    → at_lane of ends lane ≡ of (get_or ends lane other)
at_lane-get of [] lane other below = absurd (omega arith)
at_lane-get of (end ∷ ends) zero other below = refl
at_lane-get of (end ∷ ends) (suc lane) other below = at_lane-get of ends lane other (omega arith)

-- once one end has changed
pub at_lane-set : {X : Type 0} (of : X → List Message) (ends : List X) (lane : ℕ) (new : X) → lane < length ends → at_lane of (set ends lane new) lane ≡ of new
at_lane-set of [] lane new below = absurd (omega arith)
at_lane-set of (end ∷ ends) zero new below = refl
at_lane-set of (end ∷ ends) (suc lane) new below = at_lane-set of ends lane new (omega arith)

pub at_lane-others : {X : Type 0} (of : X → List Message) (ends : List X) (lane : ℕ) (new : X) (other : ℕ) → other ≢ lane
    → at_lane of (set ends lane new) other ≡ at_lane of ends other
at_lane-others of [] lane new other differ = refl
at_lane-others of (end ∷ ends) zero new zero differ = absurd (differ refl)
at_lane-others of (end ∷ ends) zero new (suc other) differ = refl
at_lane-others of (end ∷ ends) (suc lane) new zero differ = refl
at_lane-others of (end ∷ ends) (suc lane) new (suc other) differ = at_lane-others of ends lane new other (λ e. differ (ap suc e))

-- ---- the same rings

pub are_themselves : (ends : List Receiver) → AreSameInputs ends ends
are_themselves [] = tt
are_themselves (end ∷ ends) = (itself_input end, are_themselves ends)

pub one_changed : (ends : List Receiver) (lane : ℕ) (new other : Receiver) → lane < length ends → SameReceiver (get_or ends lane other) new
    → AreSameInputs ends (set ends lane new)
one_changed [] lane new other below same = tt
one_changed (end ∷ ends) zero new other below same = (same, are_themselves ends)
one_changed (end ∷ ends) (suc lane) new other below same = (itself_input end, one_changed ends lane new other (omega arith) same)

pub same_inputs : (a b c : List Receiver) → AreSameInputs a b → AreSameInputs b c → AreSameInputs a c
same_inputs [] [] [] first second = tt
same_inputs [] [] (z ∷ c) first second = absurd second
same_inputs [] (y ∷ b) c first second = absurd first
same_inputs (x ∷ a) [] c first second = absurd first
same_inputs (x ∷ a) (y ∷ b) [] first second = absurd second
same_inputs (x ∷ a) (y ∷ b) (z ∷ c) first second = (same_input x y z first.0 second.0, same_inputs a b c first.1 second.1)

pub as_many : (a b : List Receiver) → AreSameInputs a b → length b ≡ length a
as_many [] [] same = refl
as_many [] (y ∷ b) same = absurd same
as_many (x ∷ a) [] same = absurd same
as_many (x ∷ a) (y ∷ b) same = ap suc (as_many a b same.1)
