-- What the functions on a line's bytes find.
use Rattle.pnm_read.proofs.Words.{◌≡◌, ◌⊎◌, inl, inr, ℕ, ◌+◌, ◌-◌, ◌*◌, ◌<◌, ◌≤◌, Bool, true, false, ◌&&◌, if◌then◌else◌, List, [], ◌∷◌, ◌++◌, length, take}
use Rattle.pnm_read.proofs.Words.{drop, get_or, Some, None, refl, sym, ap, ◌∙◌, append_assoc, append-nil, arith, list_all, digits_value_more, list_all_more}
use Rattle.pnm_read.proofs.Words.{list_all_at, take_more, drop_more, take_all, drop_all, is_blank, is_digit, decimal_value, first_and_rest, saturate_u32}
use Rattle.pnm_read.proofs.Words.{with_digit, number_of, first_token, onto_trimmed}
use Rattle.pnm_read.proofs.DecimalSteps.{with_digit-saturate_u32}
use Rattle.pnm_read.proofs.WordLaws.{digit_value_is}
use Rattle.pnm_read.proofs.TupleTypeLaws.{trimmed_start-same, trimmed_end-same}
use Rattle.pnm_read.specs.Internal.LineWalks.{trimmed_start, trimmed_end, token_of, after_token}
use Rattle.pnm_read.proofs.WalkLaws.{first_token_is}

-- ---- white space at the ends of a text

-- white space at the start is left out
start_blank : (b : ℕ) (text : List ℕ) → is_blank b ≡ true → trimmed_start (b ∷ text) ≡ trimmed_start text
unfolding trimmed_start
start_blank b text e = rw e refl

-- white space at the start
pub start_more : (text : List ℕ) → 1 ≤ length text → is_blank (get_or text 0 0) ≡ true → trimmed_start (take (length text - 1) (drop 1 text))
    ≡ trimmed_start text
start_more text le e = sym (start_blank (get_or text 0 0) (take (length text - 1) (drop 1 text)) e) ∙ ap trimmed_start (sym (first_and_rest text le))

-- no white space at the start
pub start_none : (text : List ℕ) → length text < 1 → trimmed_start text ≡ text
unfolding trimmed_start
start_none [] lt = refl
start_none (b ∷ text) lt = absurd (omega arith)

pub start_stops : (text : List ℕ) → 1 ≤ length text → is_blank (get_or text 0 0) ≡ false → trimmed_start text ≡ text
start_stops [] le e = absurd (omega arith)
start_stops (b ∷ text) le e = trimmed_start-same b text e

-- a text and its last byte
prefix_and_last : (text : List ℕ) → 1 ≤ length text → text ≡ take (length text - 1) text ++ get_or text (length text - 1) 0 ∷ []
prefix_and_last text le =
    let one : length text - 1 + 1 ≡ length text = omega arith in
    sym (take_all (length text) text (omega arith)) ∙ ap (λ (n : ℕ). take n text) (sym one) ∙ take_more text (length text - 1) 0 (omega arith)

-- white space at the end is left out
end_blank : (text : List ℕ) (b : ℕ) → is_blank b ≡ true → trimmed_end (text ++ b ∷ []) ≡ trimmed_end text
unfolding trimmed_end
end_blank [] b e = rw e refl
end_blank (c ∷ text) b e = ap (onto_trimmed c) (end_blank text b e)

-- white space at the end
pub end_more : (text : List ℕ) → 1 ≤ length text → is_blank (get_or text (length text - 1) 0) ≡ true
    → trimmed_end (take (length text - 1) text) ≡ trimmed_end text
end_more text le e = sym (end_blank (take (length text - 1) text) (get_or text (length text - 1) 0) e) ∙ ap trimmed_end (sym (prefix_and_last text le))

-- no white space at the end
pub end_none : (text : List ℕ) → length text < 1 → trimmed_end text ≡ text
unfolding trimmed_end
end_none [] lt = refl
end_none (b ∷ text) lt = absurd (omega arith)

pub end_stops : (text : List ℕ) → 1 ≤ length text → is_blank (get_or text (length text - 1) 0) ≡ false → trimmed_end text ≡ text
end_stops text le e = trimmed_end-same text (λ some. e)

-- ---- the first token

-- so many bytes of a text are bytes of its first token
pub record SplitAt (text : List ℕ) (n : ℕ) : Type 0 where
  pub within : n ≤ length text
  pub token : token_of text ≡ take n text ++ token_of (drop n text)
  pub rest : after_token text ≡ after_token (drop n text)

-- a byte of the token
token_other : (b : ℕ) (text : List ℕ) → is_blank b ≡ false → token_of (b ∷ text) ≡ b ∷ token_of text
unfolding token_of
token_other b text e = rw e refl

after_other : (b : ℕ) (text : List ℕ) → is_blank b ≡ false → after_token (b ∷ text) ≡ after_token text
unfolding after_token
after_other b text e = rw e refl

-- one byte of the token more
pub split_more : {text : List ℕ} {n : ℕ} → SplitAt text n → n < length text → is_blank (get_or text n 0) ≡ false → SplitAt text (n + 1)
split_more {text} {n} s lt e =
    let place : drop n text ≡ get_or text n 0 ∷ drop (n + 1) text = drop_more text n 0 lt in
    record {
      within = omega arith;
      token = s.token ∙ ap (λ (l : List ℕ). take n text ++ token_of l) place
          ∙ ap (λ (l : List ℕ). take n text ++ l) (token_other (get_or text n 0) (drop (n + 1) text) e)
          ∙ sym (append_assoc (take n text) (get_or text n 0 ∷ []) (token_of (drop (n + 1) text)))
          ∙ ap (λ (l : List ℕ). l ++ token_of (drop (n + 1) text)) (sym (take_more text n 0 lt));
      rest = s.rest ∙ ap after_token place ∙ after_other (get_or text n 0) (drop (n + 1) text) e;
    }

-- the token has ended: with the text, or before white space
abbrev pub IsTokenEnd : List ℕ → ℕ → Type 0
IsTokenEnd text n = (length text ≤ n) ⊎ ((n < length text) × (is_blank (get_or text n 0) ≡ true))

-- white space ends the token
token_blank : (b : ℕ) (text : List ℕ) → is_blank b ≡ true → token_of (b ∷ text) ≡ []
unfolding token_of
token_blank b text e = rw e refl

after_blank : (b : ℕ) (text : List ℕ) → is_blank b ≡ true → after_token (b ∷ text) ≡ b ∷ text
unfolding after_token
after_blank b text e = rw e refl

-- an empty text has no token
token_none : token_of [] ≡ []
unfolding token_of
token_none = refl

after_none : after_token [] ≡ []
unfolding after_token
after_none = refl

-- no byte of the token is left
no_token : (text : List ℕ) (n : ℕ) → IsTokenEnd text n → token_of (drop n text) ≡ []
no_token text n (inl le) = ap token_of (drop_all n text le) ∙ token_none
no_token text n (inr h) = ap token_of (drop_more text n 0 h.0) ∙ token_blank (get_or text n 0) (drop (n + 1) text) h.1

-- what is left comes after the token
all_after : (text : List ℕ) (n : ℕ) → IsTokenEnd text n → after_token (drop n text) ≡ drop n text
all_after text n (inl le) = ap after_token (drop_all n text le) ∙ after_none ∙ sym (drop_all n text le)
all_after text n (inr h) = ap after_token (drop_more text n 0 h.0) ∙ after_blank (get_or text n 0) (drop (n + 1) text) h.1 ∙ sym (drop_more text n 0 h.0)

-- the token was found, and what follows it
pub split_token_is : {text : List ℕ} (line : List ℕ) {n : ℕ} → text ≡ trimmed_start line → SplitAt text n → IsTokenEnd text n → take n text ≡ first_token line
split_token_is {text} line {n} e s end = sym (append-nil (take n text)) ∙ ap (λ (l : List ℕ). take n text ++ l) (sym (no_token text n end)) ∙ sym s.token
    ∙ ap token_of e ∙ sym (first_token_is line)

pub split_rest_is : {text : List ℕ} (line : List ℕ) {n : ℕ} → text ≡ trimmed_start line → SplitAt text n → IsTokenEnd text n
    → drop n text ≡ after_token (trimmed_start line)
split_rest_is {text} line {n} e s end = sym (all_after text n end) ∙ sym s.rest ∙ ap after_token e

-- ---- numbers

-- so many bytes of a token are digits, and spell this number
pub record DigitsSo (token : List ℕ) (n number : ℕ) : Type 0 where
  pub digits : list_all is_digit (take n token) ≡ true
  pub value : number ≡ saturate_u32 (decimal_value (take n token))

-- no byte so far
pub no_digits : {token : List ℕ} → DigitsSo token 0 0
no_digits = record { digits = refl; value = refl }

-- one digit more
pub digits_more : (token : List ℕ) (n old new : ℕ) → DigitsSo token n old → n < length token → is_digit (get_or token n 0) ≡ true
    → new ≡ with_digit old (get_or token n 0 - 48) → DigitsSo token (n + 1) new
digits_more token n old new d lt e is = record {
  digits = list_all_more is_digit token n 0 lt ∙ ap (λ (t : Bool). t && is_digit (get_or token n 0)) d.digits ∙ e;
  value = is ∙ ap (λ (k : ℕ). with_digit k (get_or token n 0 - 48)) d.value ∙ with_digit-saturate_u32 (decimal_value (take n token)) (get_or token n 0 - 48)
      ∙ ap saturate_u32 (sym (digits_value_more 10 token n lt ∙ ap (λ (k : ℕ). decimal_value (take n token) * 10 + k) (digit_value_is (get_or token n 0) e)));
}

-- a byte is no digit
pub number_none : (token : List ℕ) (n : ℕ) → n < length token → is_digit (get_or token n 0) ≡ false → None ≡ number_of token
number_none token n lt e = ap (λ (t : Bool). if t then Some (saturate_u32 (decimal_value token)) else None) (sym (list_all_at is_digit token n 0 lt e))

-- all bytes are digits
pub number_is : {token : List ℕ} {n number : ℕ} → DigitsSo token n number → length token ≤ n → Some number ≡ number_of token
number_is {token} {n} d le =
    let all : take n token ≡ token = take_all n token le in
    ap (λ (k : ℕ). Some k) (d.value ∙ ap (λ (l : List ℕ). saturate_u32 (decimal_value l)) all)
    ∙ ap (λ (t : Bool). if t then Some (saturate_u32 (decimal_value token)) else None) (sym (sym (ap (λ (l : List ℕ). list_all is_digit l) all) ∙ d.digits))
