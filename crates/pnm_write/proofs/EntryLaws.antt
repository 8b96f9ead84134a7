-- A table of the texts of numbers is looked through entry by entry.
use Rattle.pnm_write.proofs.Words.{◌≡◌, ℕ, zero, suc, ◌+◌, ◌-◌, ◌*◌, ◌<◌, Bool, true, false, ◌&&◌, ◌==◌, List, [], ◌∷◌, length, take, drop, slice_index}
use Rattle.pnm_write.proofs.Words.{decimal, refl, ap, ap₂, subst, ◌∙◌, arith, drop-drop, nat_tests, byte, IsEntry}

abbrev pub are_same : List ℕ → List ℕ → Bool
are_same [] [] = true
are_same [] (b ∷ bs) = false
are_same (a ∷ as') [] = false
are_same (a ∷ as') (b ∷ bs) = (a == b) && are_same as' bs

pub and_parts : (a b : Bool) → (a && b) ≡ true → (a ≡ true) × (b ≡ true)
and_parts true b e = (refl, e)
and_parts false b e = cc

equal : (a b : ℕ) → (a == b) ≡ true → a ≡ b
equal a b e = grind (arith, nat_tests)

pub same : (xs ys : List ℕ) → are_same xs ys ≡ true → xs ≡ ys
same [] [] e = refl
same [] (b ∷ bs) e = cc
same (a ∷ as') [] e = cc
same (a ∷ as') (b ∷ bs) e = let p = and_parts (a == b) (are_same as' bs) e in ap₂ (λ (x : ℕ) (l : List ℕ). x ∷ l) (equal a b p.0) (same as' bs p.1)

-- whether this is the entry of a number
abbrev pub is_entry : ℕ → List ℕ → Bool
is_entry number entry =
    (length entry == 5) && ((slice_index entry 0 == 49 + length (decimal number)) && are_same (take (1 + length (decimal number)) (drop 1 entry))
    (byte " " ∷ decimal number))

is_entry_is : {number : ℕ} {entry : List ℕ} → is_entry number entry ≡ true → IsEntry number entry
is_entry_is {number} {entry} e =
    let text : Bool = are_same (take (1 + length (decimal number)) (drop 1 entry)) (byte " " ∷ decimal number) in
    let p = and_parts (length entry == 5) ((slice_index entry 0 == 49 + length (decimal number)) && text) e in
    let q = and_parts (slice_index entry 0 == 49 + length (decimal number)) text p.1 in
    record {
      long = equal (length entry) 5 p.0;
      size = equal (slice_index entry 0) (49 + length (decimal number)) q.0;
      text = same (take (1 + length (decimal number)) (drop 1 entry)) (byte " " ∷ decimal number) q.1;
    }

-- whether a table has the entries of so many numbers, from one on
abbrev pub are_entries : ℕ → ℕ → List ℕ → Bool
are_entries zero number table = true
are_entries (suc count) number table = is_entry number (take 5 table) && are_entries count (number + 1) (drop 5 table)

entry_at : (count number k : ℕ) (table : List ℕ) → are_entries count number table ≡ true → k < count → IsEntry (number + k) (take 5 (drop (5 * k) table))
entry_at zero number k table e below = absurd (omega arith)
entry_at (suc count) number zero table e below =
    let first : IsEntry number (take 5 table) =
    is_entry_is (and_parts (is_entry number (take 5 table)) (are_entries count (number + 1) (drop 5 table)) e).0 in
    subst (λ (n : ℕ). IsEntry n (take 5 table)) (omega arith) first
entry_at (suc count) number (suc k) table e below =
    let more : IsEntry (number + 1 + k) (take 5 (drop (5 * k) (drop 5 table))) =
    entry_at count (number + 1) k (drop 5 table) (and_parts (is_entry number (take 5 table)) (are_entries count (number + 1) (drop 5 table)) e).1
    (omega arith) in
    let place : drop (5 * k) (drop 5 table) ≡ drop (5 * suc k) table = drop-drop (5 * k) 5 table ∙ ap (λ (n : ℕ). drop n table) (omega arith) in
    subst (λ (n : ℕ). IsEntry n (take 5 (drop (5 * suc k) table))) (omega arith) (subst (λ (l : List ℕ). IsEntry (number + 1 + k) (take 5 l)) place more)

pub entry_is : {number : ℕ} (table : List ℕ) → are_entries 256 0 table ≡ true → number < 256
    → IsEntry number (take (5 * number + 5 - 5 * number) (drop (5 * number) table))
entry_is {number} table e below =
    let at : IsEntry (0 + number) (take 5 (drop (5 * number) table)) = entry_at 256 0 number table e below in
    let size : 5 ≡ 5 * number + 5 - 5 * number = omega arith in
    let zero_more : 0 + number ≡ number = omega arith in
    subst (λ (n : ℕ). IsEntry n (take (5 * number + 5 - 5 * number) (drop (5 * number) table))) zero_more
    (subst (λ (n : ℕ). IsEntry (0 + number) (take n (drop (5 * number) table))) size at)
