-- Numbers in decimal, each after one byte of white space, as the header of PBM, PGM or PPM has them.
use Rattle.pnm_serial.proofs.Words.{◌≡◌, ℕ, Bool, true, false, not, ◌||◌, List, [], ◌∷◌, ◌++◌, map, refl, ap, ap₂, ◌∙◌, AllPass, map-append, All-nil, All-cons}
use Rattle.pnm_serial.proofs.Words.{All-append, All-weaker, or_left, or_right, commented, uncommented, ends_in_comment, ends_in_word, numbers_in, is_white}
use Rattle.pnm_serial.proofs.Words.{is_digit, decimal_value, SpellsDecimal, commented_after, commented_after-append, white_is_not_sharp, words-split}
use Rattle.pnm_serial.proofs.Words.{uncommented-split, ends_by-split, uncommented_digits}
use Rattle.pnm_read.specs.HeaderTexts.{uncommented_from}
use Rattle.pnm_image.specs.Texts.{words}
use Rattle.pnm_serial.proofs.DecimalText.{outside-digits, words-digits, ends-digits}

abbrev is_body_byte : ℕ → Bool
is_body_byte b = is_digit b || is_white b

-- a text without comments that spells these numbers
pub record SpellsNumbers (text numbers : List ℕ) : Type 0 where
  pub plain : uncommented text ≡ text
  pub outside : ends_in_comment text ≡ false
  pub decimal : AllPass (λ b. is_digit b || is_white b) text
  pub numbers_are : map decimal_value (words text) ≡ numbers

pub no_numbers : SpellsNumbers [] []
unfolding uncommented_from words
no_numbers = record { plain = refl; outside = refl; decimal = All-nil (λ b. is_body_byte b ≡ true); numbers_are = refl }

-- what white space and digits after a text are
outside_more : (text : List ℕ) (b : ℕ) (digits : List ℕ) → ends_in_comment text ≡ false → is_white b ≡ true → ends_in_comment digits ≡ false
    → ends_in_comment (text ++ b ∷ digits) ≡ false
outside_more text b digits outside white after =
    commented_after-append false text (b ∷ digits)
    ∙ ap (λ (i : Bool). commented_after (commented i b) digits) outside
    ∙ ap (λ (i : Bool). commented_after i digits) (white_is_not_sharp b white)
    ∙ after

-- one number more, after a byte of white space
pub number_more : (text numbers : List ℕ) (b : ℕ) (digits : List ℕ) (n : ℕ) → SpellsNumbers text numbers → is_white b ≡ true → SpellsDecimal digits n
    → SpellsNumbers (text ++ b ∷ digits) (numbers ++ n ∷ [])
number_more text numbers b digits n s white d = record {
  plain = uncommented-split text b digits s.outside (white_is_not_sharp b white)
      ∙ ap₂ (λ (x y : List ℕ). x ++ b ∷ y) s.plain (uncommented_digits digits d.digits);
  outside = outside_more text b digits s.outside white (outside-digits digits d.digits);
  decimal = All-append (λ x. is_body_byte x ≡ true) text (b ∷ digits) s.decimal
      (All-cons (λ x. is_body_byte x ≡ true) b digits (or_right (is_digit b) (is_white b) white)
      (All-weaker (λ x. is_digit x ≡ true) (λ x. is_body_byte x ≡ true) (λ x h. or_left (is_digit x) (is_white x) h) digits d.digits));
  numbers_are = ap (map decimal_value) (words-split text b digits white ∙ ap (λ (w : List (List ℕ)). words text ++ w) (words-digits digits d.some d.digits))
      ∙ map-append decimal_value (words text) (digits ∷ [])
      ∙ ap₂ (λ (x : List ℕ) (k : ℕ). x ++ k ∷ []) s.numbers_are d.value;
}

-- such a text ends in the digits of the last
pub ends_in_number : (text : List ℕ) (b : ℕ) {digits : List ℕ} {n : ℕ} → is_white b ≡ true → SpellsDecimal digits n → ends_in_word (text ++ b ∷ digits) ≡ true
ends_in_number text b {digits} white d = ends_by-split (λ x. not (is_white x)) text b digits (ap not white) ∙ ends-digits digits d.some d.digits

-- the numbers of such a text
pub numbers_of : {text numbers : List ℕ} → SpellsNumbers text numbers → numbers_in text ≡ numbers
numbers_of s = ap (λ (t : List ℕ). map decimal_value (words t)) s.plain ∙ s.numbers_are
