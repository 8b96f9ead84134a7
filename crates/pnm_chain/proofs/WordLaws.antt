-- The first word of a text, and the words after it.
use Rattle.pnm_chain.proofs.Words.{◌≡◌, ◌⊎◌, inl, inr, ℕ, ◌+◌, ◌-◌, ◌<◌, ◌≤◌, Bool, true, false, not, ◌&&◌, List, [], ◌∷◌, ◌++◌, length, take, drop, get_or}
use Rattle.pnm_chain.proofs.Words.{sym, ap, ◌∙◌, arith, list_all, onto_first, list_all_more, drop_more, drop_all, take-append-drop, length-take, length-drop}
use Rattle.pnm_chain.proofs.Words.{is_white, words, first_and_rest, not_and_parts, begins_in_word, words_by, words-cons, words-nil}

-- ---- white space before the first word

words_after_white : (b : ℕ) (text : List ℕ) → is_white b ≡ true → words (b ∷ text) ≡ words text
words_after_white b text e = words-cons b text ∙ ap (λ (white : Bool). words_by white (begins_in_word text) b (words text)) e

-- white space at the start adds no word
pub start_more : (text : List ℕ) → 1 ≤ length text → is_white (get_or text 0 0) ≡ true → words (take (length text - 1) (drop 1 text)) ≡ words text
start_more text le e = sym (words_after_white (get_or text 0 0) (take (length text - 1) (drop 1 text)) e) ∙ ap words (sym (first_and_rest text le))

pub shorter_more : (text : List ℕ) (n : ℕ) → length text ≤ n → length (take (length text - 1) (drop 1 text)) ≤ n
shorter_more text n le = omega (arith, length-take (length text - 1) (drop 1 text), length-drop 1 text)

-- ---- the length of the first word

-- so many bytes of a text are bytes of one word
pub record IsInWord (text : List ℕ) (n : ℕ) : Type 0 where
  pub within : n ≤ length text
  pub no_white : list_all (λ b. not (is_white b)) (take n text) ≡ true

pub in_word_more : (text : List ℕ) (n : ℕ) → IsInWord text n → n < length text → is_white (get_or text n 0) ≡ false → IsInWord text (n + 1)
in_word_more text n h lt e = record {
  within = omega arith;
  no_white = list_all_more (λ b. not (is_white b)) text n 0 lt ∙ ap (λ (t : Bool). t && not (is_white (get_or text n 0))) h.no_white ∙ ap not e;
}

-- no byte of a word stands here: the text has ended, or white space follows
abbrev pub IsWordEnd : List ℕ → ℕ → Type 0
IsWordEnd text n = (length text ≤ n) ⊎ ((n < length text) × (is_white (get_or text n 0) ≡ true))

no_word_begins : (text : List ℕ) (n : ℕ) → IsWordEnd text n → begins_in_word (drop n text) ≡ false
no_word_begins text n (inl le) = ap begins_in_word (drop_all n text le)
no_word_begins text n (inr h) = ap begins_in_word (drop_more text n 0 h.0) ∙ ap not h.1

-- ---- the first word

-- the words of a word, and of a text after it that doesn't go on with that word
words_after_word : (b : ℕ) (word text : List ℕ) → is_white b ≡ false → list_all (λ c. not (is_white c)) word ≡ true → begins_in_word text ≡ false
    → words (b ∷ word ++ text) ≡ (b ∷ word) ∷ words text
words_after_word b [] text e all end =
    words-cons b text ∙ ap (λ (white : Bool). words_by white (begins_in_word text) b (words text)) e
    ∙ ap (λ (begins : Bool). words_by false begins b (words text)) end
words_after_word b (c ∷ word) text e all end =
    let both = not_and_parts (is_white c) (list_all (λ d. not (is_white d)) word) all in
    words-cons b (c ∷ word ++ text)
    ∙ ap (λ (white : Bool). words_by white (not (is_white c)) b (words (c ∷ word ++ text))) e
    ∙ ap (λ (white : Bool). words_by false (not white) b (words (c ∷ word ++ text))) both.0
    ∙ ap (onto_first b) (words_after_word c word text both.0 both.1 end)

words_of_parts : (word text : List ℕ) → 0 < length word → list_all (λ b. not (is_white b)) word ≡ true → begins_in_word text ≡ false
    → words (word ++ text) ≡ word ∷ words text
words_of_parts [] text some all end = absurd (omega arith)
words_of_parts (b ∷ word) text some all end =
    let both = not_and_parts (is_white b) (list_all (λ c. not (is_white c)) word) all in words_after_word b word text both.0 both.1 end

pub first_word_is : (text : List ℕ) (n : ℕ) → IsInWord text n → 0 < n → IsWordEnd text n → words text ≡ take n text ∷ words (drop n text)
first_word_is text n h some end =
    ap words (sym (take-append-drop n text)) ∙ words_of_parts (take n text) (drop n text) (omega (arith, h.within, length-take n text)) h.no_white
    (no_word_begins text n end)

-- ---- no word

-- the text is empty or begins with a word
abbrev pub IsAtWord : List ℕ → Type 0
IsAtWord text = (length text < 1) ⊎ (is_white (get_or text 0 0) ≡ false)

empty_has_none : (text : List ℕ) → length text < 1 → words text ≡ []
empty_has_none [] lt = words-nil
empty_has_none (b ∷ text) lt = absurd (omega arith)

pub no_word_is : (text : List ℕ) (n : ℕ) → n ≡ 0 → IsAtWord text → IsWordEnd text n → words text ≡ []
no_word_is text n e (inl lt) end = empty_has_none text lt
no_word_is text n e (inr begins) (inl le) = empty_has_none text (omega arith)
no_word_is text n e (inr begins) (inr h) = absurd (let white : is_white (get_or text 0 0) ≡ true = sym (ap (λ (k : ℕ). is_white (get_or text k 0)) e) ∙ h.1 in
    cc)
