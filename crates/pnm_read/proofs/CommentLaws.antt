-- Comments, tests of last bytes and digits of a text that is read on.
use Rattle.pnm_read.proofs.Words.{◌≡◌, ℕ, Bool, true, false, ◌==◌, List, [], ◌∷◌, ◌++◌, fold, refl, ap, commented, ends_in_comment}
use Rattle.pnm_read.specs.HeaderTexts.{uncommented_from, ends_by}

-- whether what follows a text is inside a comment, as it goes on
abbrev pub commented_after : Bool → List ℕ → Bool
commented_after inside text = fold commented inside text

pub commented_after-append : (inside : Bool) (a b : List ℕ) → commented_after inside (a ++ b) ≡ commented_after (commented_after inside a) b
commented_after-append inside [] b = refl
commented_after-append inside (x ∷ a) b = commented_after-append (commented inside x) a b

-- whether what follows one byte more is inside a comment
pub commented_after-push : (text : List ℕ) (b : ℕ) → ends_in_comment (text ++ b ∷ []) ≡ commented (ends_in_comment text) b
commented_after-push text b = commented_after-append false text (b ∷ [])

-- what cutting comments out of two texts gives, the second going on where the first ends
abbrev CutsInTurn : Bool → List ℕ → List ℕ → Type 0
CutsInTurn inside a b = uncommented_from inside (a ++ b) ≡ uncommented_from inside a ++ uncommented_from (commented_after inside a) b

-- outside a comment, by whether the byte begins one
uncommented_by : (t : Bool) (x : ℕ) (a b : List ℕ) → (x == 35) ≡ t → CutsInTurn true a b → CutsInTurn false a b → CutsInTurn false (x ∷ a) b
unfolding uncommented_from
uncommented_by true x a b e inside outside = rw e inside
uncommented_by false x a b e inside outside = rw e (ap (λ (l : List ℕ). x ∷ l) outside)

pub uncommented_from-append : (inside : Bool) (a b : List ℕ) → CutsInTurn inside a b
unfolding uncommented_from
uncommented_from-append inside [] b = refl
uncommented_from-append true (x ∷ a) b = uncommented_from-append (commented true x) a b
uncommented_from-append false (x ∷ a) b = uncommented_by (x == 35) x a b refl (uncommented_from-append true a b) (uncommented_from-append false a b)

pub ends_by-push : (test : ℕ → Bool) (text : List ℕ) (b : ℕ) → ends_by test (text ++ b ∷ []) ≡ test b
unfolding ends_by
ends_by-push test [] b = refl
ends_by-push test (x ∷ []) b = refl
ends_by-push test (x ∷ y ∷ text) b = ends_by-push test (y ∷ text) b
