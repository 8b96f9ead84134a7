-- The decimal text of a number, as a reader takes it: its digits are one word, which spells the number.
use Rattle.pnm_serial.proofs.Words.{◌≡◌, ℕ, ◌^◌, ◌<◌, true, false, not, ◌==◌, List, [], ◌∷◌, length, decimal, refl, ap, ◌∙◌, arith, AllPass, list_all}
use Rattle.pnm_serial.proofs.Words.{digit_value, AllDigits, nat_tests, decimal_is_IsNumeral, All-nil, All-cons, All-head, All-tail, digit_from_value, is_blank}
use Rattle.pnm_serial.proofs.Words.{is_digit, words, words-cons, words-nil, ends_in_comment, ends_in_word, first_token, first_token_is, SpellsDecimal}
use Rattle.pnm_serial.proofs.Words.{digit_is_not_white, digit_is_not_sharp}
use Rattle.pnm_read.specs.HeaderTexts.{ends_by}
use Rattle.pnm_read.specs.Internal.LineWalks.{trimmed_start, token_of}

-- ---- the text of a number

-- a byte with the value of a digit is one
is_digit_of : (b : ℕ) → digit_value b < 10 → is_digit b ≡ true
is_digit_of b h = let range = digit_from_value b h in grind (arith, nat_tests)

all_digits : (text : List ℕ) → AllDigits 10 text → AllPass is_digit text
all_digits [] h = All-nil (λ b. is_digit b ≡ true)
all_digits (b ∷ text) h = All-cons (λ x. is_digit x ≡ true) b text (is_digit_of b h.0) (all_digits text h.1)

-- the text of a number spells it
pub decimal_spells : {n : ℕ} → n < 2 ^ 64 → SpellsDecimal (decimal n) n
decimal_spells {n} h = let numeral = decimal_is_IsNumeral n h in record { some = numeral.0.0; digits = all_digits (decimal n) numeral.0.1; value = numeral.1 }

-- ---- digits

first_digit : (b : ℕ) (text : List ℕ) → AllPass is_digit (b ∷ text) → is_digit b ≡ true
first_digit b text h = All-head (λ x. is_digit x ≡ true) b text h

other_digits : (b : ℕ) (text : List ℕ) → AllPass is_digit (b ∷ text) → AllPass is_digit text
other_digits b text h = All-tail (λ x. is_digit x ≡ true) b text h

pub outside-digits : (text : List ℕ) → AllPass is_digit text → ends_in_comment text ≡ false
outside-digits [] h = refl
outside-digits (b ∷ text) h = rw (digit_is_not_sharp b (first_digit b text h)) (outside-digits text (other_digits b text h))

digits_word : (b : ℕ) (text : List ℕ) → AllPass is_digit (b ∷ text) → words (b ∷ text) ≡ (b ∷ text) ∷ []
digits_word b [] h = words-cons b [] ∙ rw (digit_is_not_white b (first_digit b [] h), words-nil) refl
digits_word b (c ∷ text) h =
    let others : AllPass is_digit (c ∷ text) = other_digits b (c ∷ text) h in
    words-cons b (c ∷ text)
    ∙ rw (digits_word c text others, digit_is_not_white b (first_digit b (c ∷ text) h), digit_is_not_white c (first_digit c text others)) refl

-- digits are one word
pub words-digits : (text : List ℕ) → 0 < length text → AllPass is_digit text → words text ≡ text ∷ []
words-digits [] some h = absurd (omega arith)
words-digits (b ∷ text) some h = digits_word b text h

last_digit : (b : ℕ) (text : List ℕ) → AllPass is_digit (b ∷ text) → ends_in_word (b ∷ text) ≡ true
unfolding ends_by
last_digit b [] h = rw (digit_is_not_white b (first_digit b [] h)) refl
last_digit b (c ∷ text) h = last_digit c text (other_digits b (c ∷ text) h)

-- digits end in a word
pub ends-digits : (text : List ℕ) → 0 < length text → AllPass is_digit text → ends_in_word text ≡ true
ends-digits [] some h = absurd (omega arith)
ends-digits (b ∷ text) some h = last_digit b text h

-- ---- digits in a line

digit_is_not_blank : (b : ℕ) → is_digit b ≡ true → is_blank b ≡ false
digit_is_not_blank b h = grind (arith, nat_tests)

digit_is_other : (b : ℕ) → is_digit b ≡ true → (b == 10) ≡ false
digit_is_other b h = grind (arith, nat_tests)

token-digits : (text : List ℕ) → AllPass is_digit text → token_of text ≡ text
unfolding token_of
token-digits [] h = refl
token-digits (b ∷ text) h = rw (digit_is_not_blank b (first_digit b text h), token-digits text (other_digits b text h)) refl

trimmed-digits : (text : List ℕ) → AllPass is_digit text → trimmed_start text ≡ text
unfolding trimmed_start
trimmed-digits [] h = refl
trimmed-digits (b ∷ text) h = rw (digit_is_not_blank b (first_digit b text h)) refl

-- digits are one token
pub first_token-digits : (text : List ℕ) → AllPass is_digit text → first_token text ≡ text
first_token-digits text h = first_token_is text ∙ ap token_of (trimmed-digits text h) ∙ token-digits text h

-- digits are within a line
pub one_line-digits : (text : List ℕ) → AllPass is_digit text → list_all (λ b. not (b == 10)) text ≡ true
one_line-digits [] h = refl
one_line-digits (b ∷ text) h = rw (digit_is_other b (first_digit b text h)) (one_line-digits text (other_digits b text h))
