-- Items of a text in turn, of which some were read already.
use Rattle.pnm_read.proofs.Words.{◌≡◌, ℕ, zero, ◌+◌, ◌-◌, ◌≤◌, List, [], ◌∷◌, ◌++◌, Result, Ok, Err, refl, ap, ◌∙◌, arith, InputFault, ◌>>=◌}
use Rattle.std.proofs.lemmas.List.{append-nil}
use Rattle.pnm_read.specs.Said.{in_turn}
use Rattle.pnm_read.proofs.UnitLaws.{items_of, and_items, in_turn-add, none_before, after_both}

module _ {A : Type 0} (item : List ℕ → Result (A × List ℕ) InputFault) where
  pub all_are_left : (n : ℕ) (text : List ℕ) → in_turn item n text ≡ and_items item n [] text
  all_are_left n text = none_before (in_turn item n text)

  -- so many more were found
  some_are_read : (n more : ℕ) (items found : List A) (text rest : List ℕ) → in_turn item n text ≡ Ok (found, rest)
      → and_items item (n + more) items text ≡ and_items item more (items ++ found) rest
  some_are_read n more items found text rest e =
      ap (λ r. r >>= λ others. items_of (items ++ others.0) others.1)
      (in_turn-add item n more text ∙ ap (λ r. r >>= λ first. and_items item more first.0 first.1) e)
      ∙ after_both items found (in_turn item more rest)

  -- one of them is at fault
  some_fail : (n more : ℕ) (items : List A) (text : List ℕ) {k : InputFault} → in_turn item n text ≡ Err k → and_items item (n + more) items text ≡ Err k
  some_fail n more items text e =
      ap (λ r. r >>= λ others. items_of (items ++ others.0) others.1)
      (in_turn-add item n more text ∙ ap (λ r. r >>= λ first. and_items item more first.0 first.1) e)

  -- all were read
  pub none_are_left : (items : List A) (text : List ℕ) → and_items item zero items text ≡ Ok (items, text)
  unfolding in_turn
  none_are_left items text = ap (λ l. items_of l text) (append-nil items)

  -- ---- a part of the items that are left

  pub part_fails : (all more n : ℕ) (items : List A) (text now : List ℕ) {k : InputFault} → n ≤ more → in_turn item n now ≡ Err k
      → in_turn item all text ≡ and_items item more items now → in_turn item all text ≡ Err k
  part_fails all more n items text now most e known =
      let split : more ≡ n + (more - n) = omega arith in
      known ∙ ap (λ (m : ℕ). and_items item m items now) split ∙ some_fail n (more - n) items now e

  pub part_is_read : (all more n : ℕ) (items found : List A) (text now rest : List ℕ) → n ≤ more → in_turn item n now ≡ Ok (found, rest)
      → in_turn item all text ≡ and_items item more items now → in_turn item all text ≡ and_items item (more - n) (items ++ found) rest
  part_is_read all more n items found text now rest most e known =
      let split : more ≡ n + (more - n) = omega arith in
      known ∙ ap (λ (m : ℕ). and_items item m items now) split ∙ some_are_read n (more - n) items found now rest e

  -- ---- one item

  pub one_is_read : (found : A) (text rest : List ℕ) → item text ≡ Ok (found, rest) → in_turn item 1 text ≡ Ok (found ∷ [], rest)
  unfolding in_turn
  one_is_read found text rest e = rw e refl

  pub one_fails : (text : List ℕ) {k : InputFault} → item text ≡ Err k → in_turn item 1 text ≡ Err k
  unfolding in_turn
  one_fails text e = rw e refl
