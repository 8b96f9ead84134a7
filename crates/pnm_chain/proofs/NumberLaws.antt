-- The numbers that words spell: what `parse` reads, and an offset with a dash.
use Rattle.pnm_chain.proofs.Words.{◌≡◌, ℕ, ◌-◌, ◌<◌, ◌≤◌, ◌^◌, ℤ, pos, ◌-ℤ◌, to_z, of_z, w32, Bool, true, false, ◌&&◌, if◌then◌else◌, Option, Some, None}
use Rattle.pnm_chain.proofs.Words.{Result, Ok, Err, MatchResult, List, [], ◌∷◌, length, get_or, take, drop, ◌==◌, nat_eq, refl, sym, ap, subst, ◌∙◌, arith}
use Rattle.pnm_chain.proofs.Words.{list_all, starts_with, OkIff, result_ok, IsAscii, IsUtf8, ParsesUnsigned, eq-eqb, and_parts, and_from, and_left, cond-true}
use Rattle.pnm_chain.proofs.Words.{cond-false, false_from_ne_true, nat_tests, ints, take_all, same_Some, IsUtf8-from_ascii, IsAscii-nil, IsAscii-cons}
use Rattle.pnm_chain.proofs.Words.{IsDigitsTest, IsNumeralModel, numerals_by_value, parse_plain, is_digit, decimal_value, begins_with_dash, is_numeral}
use Rattle.pnm_chain.proofs.Words.{offset_value, spells_number, spells_offset, without_dash, MAX_EXTENT}
use Rattle.std.proofs.Common.{◌≢◌, neg_ℤ}
use Rattle.std.proofs.Common.{nat_le}
use denote.Bor.{Bor}
use Rattle.pnm_chain.proofs.LawfulLaws.{in_range as spelled_in_range}

abbrev AreDigits : List ℕ → Type 0
AreDigits word = list_all is_digit word ≡ true

tells_digits : IsDigitsTest AreDigits
tells_digits = record {
  empty = refl;
  parts = λ c cs h. let p = and_parts (is_digit c) (list_all is_digit cs) h in (grind (arith, nat_tests), p.1);
  more = λ c cs r h. grind (arith, nat_tests);
}

digit_is_small : (b : ℕ) → is_digit b ≡ true → b < 128
digit_is_small b e = grind (arith, nat_tests)

model : IsNumeralModel AreDigits decimal_value
model = numerals_by_value AreDigits tells_digits

-- ---- a word that isn't UTF-8

digits_are_ascii : (word : List ℕ) → AreDigits word → IsAscii word
digits_are_ascii [] h = IsAscii-nil
digits_are_ascii (b ∷ word) h =
    let p = and_parts (is_digit b) (list_all is_digit word) h in
    IsAscii-cons b word (digit_is_small b p.0) (digits_are_ascii word p.1)

not_numeral : (word : List ℕ) → ¬ (IsUtf8 word) → is_numeral word ≡ false
not_numeral [] h = refl
not_numeral (b ∷ word) h = false_from_ne_true (is_numeral (b ∷ word)) (λ e. h (IsUtf8-from_ascii (b ∷ word) (digits_are_ascii (b ∷ word) e)))

abbrev spelled : List ℕ → Option ℕ
spelled word = if spells_number 0 4294967295 word then Some (decimal_value word) else None

not_spelled : (word : List ℕ) → spells_number 0 4294967295 word ≡ false → spelled word ≡ None
not_spelled word e = cond-false (spells_number 0 4294967295 word) (Some (decimal_value word)) None e

refused : {A E : Type 0} (P : A → Type 0) (Q : E → Type 0) (N : Type 0) (r : Result A E) → MatchResult r P (λ e. N × Q e) → result_ok r ≡ None → N
refused P Q N (Ok x) h e = absurd cc
refused P Q N (Err d) h e = h.0

pub text_refused : {A E : Type 0} (P : A → Type 0) (Q : E → Type 0) (word : List ℕ) (r : Result A E) → MatchResult r P (λ e. ¬ (IsUtf8 word) × Q e)
    → result_ok r ≡ None → spelled word ≡ None
text_refused P Q word r h e =
    not_spelled word
    (and_left (is_numeral word) (nat_le 0 (decimal_value word) && nat_le (decimal_value word) 4294967295)
    (not_numeral word (refused P Q (¬ (IsUtf8 word)) r h e)))

pub text_taken : {E : Type 0} (word : List ℕ) (Q : E → Type 0) (r : Result (Bor (List ℕ)) E) (text : Bor (List ℕ))
    → MatchResult r (λ s. (s.now ≡ word) × IsUtf8 word) Q → result_ok r ≡ Some text → text.now ≡ word
text_taken word Q (Ok s) text h e = ap (λ (t : Bor (List ℕ)). t.now) (same_Some text s (sym e)) ∙ h.0
text_taken word Q (Err d) text h e = absurd cc

-- ---- what `parse` reads

numeral_parts : (word : List ℕ) → is_numeral word ≡ true → AreDigits word × (0 < length word)
numeral_parts [] e = absurd cc
numeral_parts (b ∷ word) e = (e, omega arith)

numeral_from : (word : List ℕ) → AreDigits word → 0 < length word → is_numeral word ≡ true
numeral_from [] h low = absurd (omega arith)
numeral_from (b ∷ word) h low = h

in_range : (n : ℕ) → n < 2 ^ 32 → (nat_le 0 n && nat_le n 4294967295) ≡ true
in_range n h = grind (arith, nat_tests)

from_range : (n : ℕ) → (nat_le 0 n && nat_le n 4294967295) ≡ true → n < 2 ^ 32
from_range n h = grind (arith, nat_tests)

abbrev Reads : List ℕ → Type 0
Reads word = AreDigits word × (0 < length word) × (decimal_value word < 2 ^ 32)

spelled_from : (word : List ℕ) → Reads word → spelled word ≡ Some (decimal_value word)
spelled_from word h =
    cond-true (spells_number 0 4294967295 word) (Some (decimal_value word)) None
    (and_from (is_numeral word) (nat_le 0 (decimal_value word) && nat_le (decimal_value word) 4294967295) (numeral_from word h.0 h.1)
    (in_range (decimal_value word) h.2))

read_from : (word : List ℕ) → spells_number 0 4294967295 word ≡ true → Reads word
read_from word e =
    let both = and_parts (is_numeral word) (nat_le 0 (decimal_value word) && nat_le (decimal_value word) 4294967295) e in
    let numeral = numeral_parts word both.0 in
    (numeral.0, numeral.1, from_range (decimal_value word) both.1)

read_is_spelled : {E : Type 0} (word : List ℕ) (r : Result ℕ E) → OkIff r (Reads word) (decimal_value word) → result_ok r ≡ spelled word
read_is_spelled word (Ok n) h = ap (λ (x : ℕ). Some x) h.1 ∙ sym (spelled_from word h.0)
read_is_spelled word (Err e) h = sym (not_spelled word (false_from_ne_true (spells_number 0 4294967295 word) (λ t. h (read_from word t))))

pub no_plus : (word : List ℕ) → starts_with nat_eq word (43 ∷ []) ≡ false → get_or word 0 0 ≢ 43
no_plus [] e = λ f. absurd (omega arith)
no_plus (b ∷ word) e = grind (arith, nat_tests)

pub parse_is_spelled : {E : Type 0} (word text : List ℕ) (r : Result ℕ E) → get_or word 0 0 ≢ 43 → text ≡ word → ParsesUnsigned 32 10 text r
    → result_ok r ≡ spelled word
parse_is_spelled word text r plus same h = read_is_spelled word r (parse_plain model 32 word r (subst (λ (t : List ℕ). ParsesUnsigned 32 10 t r) same h) plus)

-- ---- an offset counted from the other side

negated : (n : ℕ) → n ≤ MAX_EXTENT → to_z w32 (of_z w32 (pos 0 -ℤ to_z w32 n)) ≡ neg_ℤ (pos n)
negated n low = grind (arith, ints)

negated_by : (spells : Bool) (n m : ℕ) → (spells ≡ true → m ≤ MAX_EXTENT) → Some n ≡ (if spells then Some m else None)
    → Some (to_z w32 (of_z w32 (pos 0 -ℤ to_z w32 n))) ≡ (if spells then Some (neg_ℤ (pos m)) else None)
negated_by true n m low e = ap (λ (k : ℕ). Some (to_z w32 (of_z w32 (pos 0 -ℤ to_z w32 k)))) (same_Some n m e) ∙ ap (λ (z : ℤ). Some z) (negated m (low refl))
negated_by false n m low e = absurd cc

dashed_by : (word digits : List ℕ) (n : ℕ) → begins_with_dash word ≡ true → digits ≡ without_dash word
    → Some n ≡ (if spells_number 0 MAX_EXTENT digits then Some (decimal_value digits) else None)
    → Some (to_z w32 (of_z w32 (pos 0 -ℤ to_z w32 n))) ≡ (if spells_offset word then Some (offset_value word) else None)
dashed_by word digits n dash same e =
    negated_by (spells_number 0 MAX_EXTENT digits) n (decimal_value digits) (λ t. (spelled_in_range 0 MAX_EXTENT digits t).1) e
    ∙ ap (λ (ds : List ℕ). if spells_number 0 MAX_EXTENT ds then Some (neg_ℤ (pos (decimal_value ds))) else None) same
    ∙ ap (λ (z : ℤ). if spells_offset word then Some z else None)
    (sym (cond-true (begins_with_dash word) (neg_ℤ (pos (decimal_value (without_dash word)))) (pos (decimal_value word)) dash))

after_dash : (b : ℕ) (word : List ℕ) → b ≡ 45 → take (length (b ∷ word) - 1) word ≡ without_dash (b ∷ word)
after_dash b word e = take_all (length (b ∷ word) - 1) word (omega arith) ∙ sym (cond-true (b == 45) word (b ∷ word) (eq-eqb b 45 e))

pub dashed : (word : List ℕ) (n : ℕ) → 0 < length word → get_or word 0 0 ≡ 45
    → Some n ≡ (if spells_number 0 MAX_EXTENT (take (length word - 1) (drop 1 word)) then Some (decimal_value (take (length word - 1) (drop 1 word))) else None)
    → Some (to_z w32 (of_z w32 (pos 0 -ℤ to_z w32 n))) ≡ (if spells_offset word then Some (offset_value word) else None)
dashed [] n some dash e = absurd (omega arith)
dashed (b ∷ word) n some dash e = dashed_by (b ∷ word) (take (length (b ∷ word) - 1) word) n (eq-eqb b 45 dash) (after_dash b word dash) e
