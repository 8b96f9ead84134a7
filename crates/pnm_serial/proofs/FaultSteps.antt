-- The first stage that has refused.
use Rattle.pnm_serial.proofs.Words.{◌≡◌, ℕ, zero, suc, ◌+◌, ◌<◌, List, [], ◌∷◌, length, take, get_or, Option, Some, None, sym, subst, arith, ToolFault, AreWell}
use Rattle.pnm_serial.proofs.Words.{IsFirstFault}

-- one stage more that hasn't refused
pub well_more : (faults : List (Option ToolFault)) (i : ℕ) (other : Option ToolFault) → AreWell (take i faults) → get_or faults i other ≡ None
    → AreWell (take (suc i) faults)
well_more [] i other well none = tt
well_more (None ∷ faults) zero other well none = tt
well_more (Some fault ∷ faults) zero other well none = absurd cc
well_more (None ∷ faults) (suc i) other well none = well_more faults i other well none
well_more (Some fault ∷ faults) (suc i) other well none = absurd well

-- after those that haven't, this one has
pub first_here : (from : ℕ) (faults : List (Option ToolFault)) (i : ℕ) (other : Option ToolFault) {fault : ToolFault} → AreWell (take i faults)
    → i < length faults → get_or faults i other ≡ Some fault → IsFirstFault from faults (from + i) fault
first_here from [] i other well within some = absurd (omega arith)
first_here from (None ∷ faults) zero other well within some = absurd cc
first_here from (Some first ∷ faults) zero other {fault} well within some = (omega arith, let same : first ≡ fault = cc in sym same)
first_here from (None ∷ faults) (suc i) other {fault} well within some = subst (λ (n : ℕ). IsFirstFault (from + 1) faults n fault) (omega arith)
    (first_here (from + 1) faults i other well (omega arith) some)
first_here from (Some first ∷ faults) (suc i) other well within some = absurd well

-- no stage has
pub all_well : (faults : List (Option ToolFault)) (n : ℕ) → n ≡ length faults → AreWell (take n faults) → AreWell faults
all_well [] n all well = tt
all_well (None ∷ faults) zero all well = absurd (omega arith)
all_well (None ∷ faults) (suc n) all well = all_well faults n (omega arith) well
all_well (Some fault ∷ faults) zero all well = absurd (omega arith)
all_well (Some fault ∷ faults) (suc n) all well = absurd well
