-- Rows each sample of which is changed by itself, in whichever width they are held.
use Rattle.pnm_row_tools.proofs.Words.{◌≡◌, ℕ, zero, suc, ◌≤◌, ◌-◌, List, [], ◌∷◌, map, All, Result, Ok, Err, IfOk, refl, sym, ap, ap₂, subst, ◌∙◌, arith}
use Rattle.pnm_row_tools.proofs.Words.{concat, map-id, All-head, All-tail, RowVec, Bits, Bytes, Words, row_lists, cut_rows, HoldsSamples, IsEachChanged}
use Rattle.pnm_row_tools.proofs.Words.{held_samples}
use Rattle.pnm_row_tools.proofs.HeldRowsLaws.{bits_changed, cut_changed, held_cut, items_changed}

-- numbers up to one that are changed alike
samples_alike : (f g : ℕ → ℕ) (most : ℕ) (xs : List ℕ) → All (λ x. x ≤ most) xs → ((x : ℕ) → x ≤ most → f x ≡ g x) → map f xs ≡ map g xs
samples_alike f g most [] within same = refl
samples_alike f g most (x ∷ xs) within same =
    ap₂ (λ (y : ℕ) (ys : List ℕ). y ∷ ys) (same x (All-head (λ x. x ≤ most) x xs within))
    (samples_alike f g most xs (All-tail (λ x. x ≤ most) x xs within) same)

-- rows are changed so that are changed alike
pub changed_alike : (f g : ℕ → ℕ) (most : ℕ) (old new : RowVec) → All (λ sample. sample ≤ most) (held_samples old)
    → ((sample : ℕ) → sample ≤ most → f sample ≡ g sample) → IsEachChanged f old new → IsEachChanged g old new
changed_alike f g most old new within same changed count each whole =
    let held : List ℕ = held_samples old in
    let cut : cut_rows count each held ≡ row_lists count each old = held_cut count each old whole in
    let is = changed count each whole in (
      is.0,
      is.1 ∙ ap (map (map f)) (sym cut) ∙ sym (cut_changed f count each held)
          ∙ ap (cut_rows count each) (samples_alike f g most held within same) ∙ cut_changed g count each held ∙ ap (map (map g)) cut,
    )

-- rows of which all samples are held, each changed
pub holds_changed : (f : ℕ → ℕ) (old new : RowVec) → HoldsSamples (map f (held_samples old)) new → IsEachChanged f old new
holds_changed f old (Bits rows) holds = absurd holds
holds_changed f old (Bytes bytes) holds = items_changed f old bytes.items holds
holds_changed f old (Words words) holds = items_changed f old words.items holds

-- where there are such rows
pub made_changed : {E : Type 0} (f : ℕ → ℕ) (old : RowVec) {items : List ℕ} (r : Result RowVec E) → items ≡ held_samples old
    → IfOk r (HoldsSamples (map f items)) → IfOk r (IsEachChanged f old)
made_changed f old (Ok new) is holds = holds_changed f old new (subst (λ (l : List ℕ). HoldsSamples (map f l) new) is holds)
made_changed f old (Err fault) is holds = tt

pub made_alike : {E : Type 0} (f g : ℕ → ℕ) (most : ℕ) (old : RowVec) (r : Result RowVec E) → All (λ sample. sample ≤ most) (held_samples old)
    → ((sample : ℕ) → sample ≤ most → f sample ≡ g sample) → IfOk r (IsEachChanged f old) → IfOk r (IsEachChanged g old)
made_alike f g most old (Ok new) within same changed = changed_alike f g most old new within same changed
made_alike f g most old (Err fault) within same changed = tt

-- ---- pixels of one bit each

-- black and white are changed alike
two_alike : (f g : ℕ → ℕ) → f 0 ≡ g 0 → f 1 ≡ g 1 → (sample : ℕ) → sample ≤ 1 → f sample ≡ g sample
two_alike f g white black zero le = white
two_alike f g white black (suc zero) le = black
two_alike f g white black (suc (suc n)) le = let no : ⊥ = omega (arith, le) in absurd no

samples_stay : (rows : List (List ℕ)) → rows ≡ map (map (λ (sample : ℕ). sample)) rows
samples_stay [] = refl
samples_stay (row ∷ rows) = ap₂ (λ (r : List ℕ) (l : List (List ℕ)). r ∷ l) (sym (map-id row)) (samples_stay rows)

-- both stay
pub bits_stay : (f : ℕ → ℕ) (rows : List (List ℕ)) → 0 ≡ f 0 → 1 ≡ f 1 → All (λ sample. sample ≤ 1) (concat rows) → IsEachChanged f (Bits rows) (Bits rows)
bits_stay f rows white black within =
    changed_alike (λ sample. sample) f 1 (Bits rows) (Bits rows) within (two_alike (λ sample. sample) f white black)
    (λ count each whole. (whole, samples_stay rows))

-- they are exchanged
pub bits_exchanged : (f : ℕ → ℕ) (rows : List (List ℕ)) {new : List (List ℕ)} → 1 ≡ f 0 → 0 ≡ f 1 → All (λ sample. sample ≤ 1) (concat rows)
    → new ≡ map (map (λ (sample : ℕ). 1 - sample)) rows → IsEachChanged f (Bits rows) (Bits new)
bits_exchanged f rows {new} white black within is =
    changed_alike (λ sample. 1 - sample) f 1 (Bits rows) (Bits new) within (two_alike (λ sample. 1 - sample) f white black)
    (bits_changed (λ sample. 1 - sample) refl is)
