-- What holds of each lane, by its number.
use Rattle.pnm_lanes.proofs.Words.{◌≡◌, ℕ, zero, suc, ◌+◌, ◌<◌, ◌≤◌, List, [], ◌∷◌, length, get_or, refl, sym, ap, subst, arith, slice_set, AtEachFrom}

module _ {A : Type 0} (P : ℕ → A → A → Type 0) where
  -- what follows for each
  pub each-map : (Q : ℕ → A → A → Type 0) (lane : ℕ) (xs ys : List A) → ((n : ℕ) (x y : A) → P n x y → Q n x y) → AtEachFrom P lane xs ys
      → AtEachFrom Q lane xs ys
  each-map Q lane [] [] f each = tt
  each-map Q lane [] (y ∷ ys) f each = absurd each
  each-map Q lane (x ∷ xs) [] f each = absurd each
  each-map Q lane (x ∷ xs) (y ∷ ys) f each = (f lane x y each.0, each-map Q (lane + 1) xs ys f each.1)

  -- what holds of each with itself
  pub each-itself : (lane : ℕ) (xs : List A) → ((n : ℕ) (x : A) → P n x x) → AtEachFrom P lane xs xs
  each-itself lane [] f = tt
  each-itself lane (x ∷ xs) f = (f lane x, each-itself (lane + 1) xs f)

  -- one change after another
  pub each-then : (Q R : ℕ → A → A → Type 0) (lane : ℕ) (xs ys zs : List A) → ((n : ℕ) (x y z : A) → P n x y → Q n y z → R n x z) → AtEachFrom P lane xs ys
      → AtEachFrom Q lane ys zs → AtEachFrom R lane xs zs
  each-then Q R lane [] [] [] f first second = tt
  each-then Q R lane [] [] (z ∷ zs) f first second = absurd second
  each-then Q R lane [] (y ∷ ys) zs f first second = absurd first
  each-then Q R lane (x ∷ xs) [] zs f first second = absurd first
  each-then Q R lane (x ∷ xs) (y ∷ ys) [] f first second = absurd second
  each-then Q R lane (x ∷ xs) (y ∷ ys) (z ∷ zs) f first second = (f lane x y z first.0 second.0, each-then Q R (lane + 1) xs ys zs f first.1 second.1)

  -- both lists have as many members
  pub each-count : (lane : ℕ) (xs ys : List A) → AtEachFrom P lane xs ys → length ys ≡ length xs
  each-count lane [] [] each = refl
  each-count lane [] (y ∷ ys) each = absurd each
  each-count lane (x ∷ xs) [] each = absurd each
  each-count lane (x ∷ xs) (y ∷ ys) each = ap suc (each-count (lane + 1) xs ys each.1)

  -- the numbers of members are below their count
  pub each-below : (count lane : ℕ) (xs ys : List A) → lane + length xs ≤ count → AtEachFrom P lane xs ys
      → AtEachFrom (λ n x y. (n < count) × P n x y) lane xs ys
  each-below count lane [] [] le each = tt
  each-below count lane [] (y ∷ ys) le each = absurd each
  each-below count lane (x ∷ xs) [] le each = absurd each
  each-below count lane (x ∷ xs) (y ∷ ys) le each = ((omega (arith, le), each.0), each-below count (lane + 1) xs ys (omega (arith, le)) each.1)

  -- and not below that of the first
  each-above : (low lane : ℕ) (xs ys : List A) → low ≤ lane → AtEachFrom P lane xs ys → AtEachFrom (λ n x y. (low ≤ n) × P n x y) lane xs ys
  each-above low lane [] [] le each = tt
  each-above low lane [] (y ∷ ys) le each = absurd each
  each-above low lane (x ∷ xs) [] le each = absurd each
  each-above low lane (x ∷ xs) (y ∷ ys) le each = ((le, each.0), each-above low (lane + 1) xs ys (omega (arith, le)) each.1)

  -- the member with this number is replaced
  pub each-set : (Q : ℕ → A → A → Type 0) (at lane i : ℕ) (xs ys : List A) (d z : A) → at ≡ lane + i → i < length ys
      → ((n : ℕ) (x y : A) → (n ≡ at → ⊥) → P n x y → Q n x y) → ((x : A) → P at x (get_or ys i d) → Q at x z) → AtEachFrom P lane xs ys
      → AtEachFrom Q lane xs (slice_set ys i z)
  each-set Q at lane i [] [] d z same lt others one each = tt
  each-set Q at lane i [] (y ∷ ys) d z same lt others one each = absurd each
  each-set Q at lane i (x ∷ xs) [] d z same lt others one each = absurd each
  each-set Q at lane zero (x ∷ xs) (y ∷ ys) d z same lt others one each =
      let here : at ≡ lane = omega (arith, same) in (
        subst (λ (n : ℕ). Q n x z) here (one x (subst (λ (n : ℕ). P n x y) (sym here) each.0)),
        Rattle.pnm_lanes.proofs.EachLaws.each-map (λ n x y. (lane + 1 ≤ n) × P n x y) Q (lane + 1) xs ys
            (λ n x y p. others n x y (λ e. omega (arith, here, e, p.0)) p.1)
            (each-above (lane + 1) (lane + 1) xs ys (omega arith) each.1),
      )
  each-set Q at lane (suc i) (x ∷ xs) (y ∷ ys) d z same lt others one each =
      (others lane x y (λ e. omega (arith, same, e)) each.0, each-set Q at (lane + 1) i xs ys d z (omega (arith, same)) (omega (arith, lt)) others one each.1)
