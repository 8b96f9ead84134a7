-- The greatest of the samples that a loop has passed.
use Rattle.pnm_samples.proofs.Words.{◌≤◌, ◌<◌, ◌+◌, ◌≡◌, ◌↔◌, ℕ, suc, All, List, [], ◌∷◌, take, length, get_or, arith, max, subst, take_all, get_or-take}
use Rattle.pnm_samples.proofs.Words.{length-take, All-nil, All-cons, All-more}

-- a bound of one sample more
pub greatest_more : (xs : List ℕ) (i g r : ℕ) → i < length xs → r ≡ max (get_or xs i 0) g → ((most : ℕ) → (g ≤ most) ↔ All (λ x. x ≤ most) (take i xs))
    → (most : ℕ) → (r ≤ most) ↔ All (λ x. x ≤ most) (take (i + 1) xs)
greatest_more xs i g r lt e known most = (
  λ h. All-more (λ x. x ≤ most) xs i 0 lt ((known most).0 (omega arith)) (omega arith),
  λ all.
      let whole : length (take (i + 1) xs) ≡ i + 1 = omega (arith, length-take (i + 1) xs) in
      let in' : i < i + 1 = omega arith in
      let at : get_or (take (i + 1) xs) i 0 ≤ most = all i 0 (omega arith) in
      let here : get_or xs i 0 ≤ most = rw (← get_or-take (i + 1) xs i 0 in') at in
      let before : g ≤ most = (known most).1 (λ k d in'.
      let below : k < i = omega (arith, length-take i xs) in
      let later : k < i + 1 = omega arith in
      let at : get_or (take (i + 1) xs) k d ≤ most = all k d (omega arith) in
      rw (get_or-take i xs k d below, ← get_or-take (i + 1) xs k d later) at) in
      omega arith,
)

-- a bound of all samples
pub greatest_all : (xs : List ℕ) (i g : ℕ) → length xs ≤ i → ((most : ℕ) → (g ≤ most) ↔ All (λ x. x ≤ most) (take i xs)) → (most : ℕ) → (g ≤ most)
    ↔ All (λ x. x ≤ most) xs
greatest_all xs i g le known most = subst (λ (ys : List ℕ). (g ≤ most) ↔ All (λ x. x ≤ most) ys) (take_all i xs le) (known most)

-- numbers of a width are within any bound that the width's greatest is within
pub all_of_width : (xs : List ℕ) (bound most : ℕ) → ((k : ℕ) → get_or xs k 0 < bound) → bound ≤ most + 1 → All (λ x. x ≤ most) xs
all_of_width [] bound most fits le = All-nil (λ x. x ≤ most)
all_of_width (x ∷ xs) bound most fits le =
    let first : x < bound = fits 0 in
    All-cons (λ x. x ≤ most) x xs (omega arith) (all_of_width xs bound most (λ k. fits (suc k)) le)
