-- Values of samples that are changed in place.
use Rattle.pnm_row_tools.proofs.Words.{◌≡◌, ℕ, ◌+◌, ◌<◌, ◌≤◌, List, [], ◌∷◌, ◌++◌, length, take, drop, map, get_or, set, All, sym, ap, ap₂, subst, ◌∙◌, arith}
use Rattle.pnm_row_tools.proofs.Words.{take_more, take_more_set, map_push, drop_more, drop-set-lt, get_or-drop}

-- the values of the samples that have passed are computed, and the others are as they were
pub record Changed {X : Type 0} (value computed : X → ℕ) (i : ℕ) (old new : List X) : Type 0 where
  pub done : map value (take i new) ≡ map computed (take i old)
  pub rest : drop i new ≡ drop i old

-- a sample that hasn't passed
pub unchanged_at : {X : Type 0} (i : ℕ) (old new : List X) (d : X) → drop i new ≡ drop i old → get_or new i d ≡ get_or old i d
unchanged_at i old new d rest = ap (λ (n : ℕ). get_or new n d) (omega arith) ∙ sym (get_or-drop i new 0 d) ∙ ap (λ l. get_or l 0 d) rest ∙ get_or-drop i old 0 d
    ∙ ap (λ (n : ℕ). get_or old n d) (omega arith)

-- what is read of it is not above a number that no sample was above
pub read_within : {X : Type 0} (value : X → ℕ) (most : ℕ) {n : ℕ} (i : ℕ) (old new : List X) (d : X) → drop i new ≡ drop i old
    → All (λ x. value x ≤ most) old → i < length old → n ≡ value (get_or new i d) → n ≤ most
read_within value most i old new d rest within lt is = subst (λ (k : ℕ). k ≤ most) (sym (is ∙ ap value (unchanged_at i old new d rest))) (within i d lt)

-- one more has passed
pub changed_more : {X : Type 0} {value computed : X → ℕ} {i : ℕ} {old new : List X} (x d : X) → i < length new → length new ≡ length old
    → value x ≡ computed (get_or new i d) → Changed value computed i old new → Changed value computed (i + 1) old (set new i x)
changed_more {value} {computed} {i} {old} {new} x d lt size is h =
    let both = sym (drop_more new i d lt) ∙ h.rest ∙ drop_more old i d (omega arith) in
    record {
      done = ap (map value) (take_more_set new i x lt) ∙ map_push value (take i new) x
          ∙ ap₂ (λ (l : List ℕ) (n : ℕ). l ++ n ∷ []) h.done (is ∙ ap computed (unchanged_at i old new d h.rest))
          ∙ sym (map_push computed (take i old) (get_or old i d)) ∙ ap (map computed) (sym (take_more old i d (omega arith)));
      rest = drop-set-lt (i + 1) new i x (omega arith) ∙ ap (drop 1) both;
    }
