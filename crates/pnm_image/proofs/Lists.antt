-- Lists of any elements: what holds of each, and the first element with the rest.
use Rattle.std.proofs.Common.{◌≡◌, ℕ, ◌-◌, ◌≤◌, List, [], ◌∷◌, ◌++◌, length, take, drop, get_or, sym, ap, arith}
use Rattle.std.specs.List.{AllByRecursion}
use Rattle.std.proofs.lemmas.List.{take_all}

-- ---- what holds of each element

-- what holds of each element holds of each of a prefix
pub all_of_prefix : {A : Type 0} (P : A → Type 0) (a b : List A) → AllByRecursion P (a ++ b) → AllByRecursion P a
all_of_prefix P [] b all = tt
all_of_prefix P (x ∷ a) b all = (all.0, all_of_prefix P a b all.1)

-- and of the one in the middle
pub each-middle : {A : Type 0} (P : A → Type 0) (earlier : List A) (x : A) (later : List A) → AllByRecursion P (earlier ++ x ∷ later) → P x
each-middle P [] x later all = all.0
each-middle P (y ∷ earlier) x later all = each-middle P earlier x later all.1

-- and of each with one more
pub each-push : {A : Type 0} (P : A → Type 0) (xs : List A) (x : A) → AllByRecursion P xs → P x → AllByRecursion P (xs ++ x ∷ [])
each-push P [] x all one = (one, tt)
each-push P (y ∷ xs) x all one = (all.0, each-push P xs x all.1 one)

-- ---- the first element, and the rest

-- a text is its first byte and the rest
pub first_and_rest : (text : List ℕ) → 1 ≤ length text → text ≡ get_or text 0 0 ∷ take (length text - 1) (drop 1 text)
first_and_rest [] le = absurd (omega arith)
first_and_rest (b ∷ text) le = ap (λ (l : List ℕ). b ∷ l) (sym (take_all (length (b ∷ text) - 1) text (omega arith)))

-- a list with an element is not empty
pub not_nil : {A : Type 0} (x : A) (xs : List A) → x ∷ xs ≡ [] → ⊥
not_nil x xs e = absurd cc

-- equal lists have the same first element
pub same_first : {A : Type 0} (x y : A) (xs ys : List A) → x ∷ xs ≡ y ∷ ys → x ≡ y
same_first x y xs ys e = cc

-- and the same rest
pub same_rest : {A : Type 0} (x y : A) (xs ys : List A) → x ∷ xs ≡ y ∷ ys → xs ≡ ys
same_rest x y xs ys e = cc
