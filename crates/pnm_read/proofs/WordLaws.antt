-- Words and numbers of a text that is read on by one byte, or split at white space.
use Rattle.pnm_read.proofs.Words.{◌≡◌, ◌⊎◌, inl, inr, ℕ, ◌+◌, ◌-◌, ◌*◌, ◌<◌, Bool, true, false, not, ◌||◌, ◌==◌, List, [], ◌∷◌, ◌++◌, map, length, refl, sym}
use Rattle.pnm_read.proofs.Words.{ap, subst, ◌∙◌, append_assoc, arith, onto_first, digit_value, nat_tests, map-append, length-append, length-map}
use Rattle.pnm_read.proofs.Words.{digits_value_push, ends_in_comment, uncommented, ends_in_word, numbers_in, is_white, is_digit, decimal_value, begins_in_word}
use Rattle.pnm_read.proofs.Words.{words_by, words-cons, words-nil}
use Rattle.std.proofs.lemmas.List.{append-nil}
use Rattle.pnm_read.specs.HeaderTexts.{ends_by, uncommented_from}
use Rattle.pnm_image.specs.Texts.{words}
use Rattle.pnm_read.proofs.CommentLaws.{uncommented_from-append, ends_by-push}

-- ---- kinds of bytes

-- a digit is no white space
pub digit_is_not_white : (b : ℕ) → is_digit b ≡ true → is_white b ≡ false
digit_is_not_white b e = grind (arith, nat_tests)

-- white space is no digit
pub white_is_not_digit : (b : ℕ) → is_white b ≡ true → is_digit b ≡ false
white_is_not_digit b e = grind (arith, nat_tests)

-- white space begins no comment
pub white_is_not_sharp : (b : ℕ) → is_white b ≡ true → (b == 35) ≡ false
white_is_not_sharp b e = grind (arith, nat_tests)

-- a digit begins no comment
pub digit_is_not_sharp : (b : ℕ) → is_digit b ≡ true → (b == 35) ≡ false
digit_is_not_sharp b e = grind (arith, nat_tests)

-- the value of a digit
pub digit_value_is : (b : ℕ) → is_digit b ≡ true → digit_value b ≡ b - 48
digit_value_is b e = grind (arith, nat_tests)

-- ---- words of a text split at white space

-- there is a first of the words
abbrev pub HasFirst : List (List ℕ) → Type 0
HasFirst found = (first : List ℕ) × (others : List (List ℕ)) × (found ≡ first ∷ others)

word_has_first : (begins : Bool) (b : ℕ) (others : List (List ℕ)) → HasFirst (words_by false begins b others)
word_has_first true b [] = (b ∷ [], [], refl)
word_has_first true b (word ∷ others) = (b ∷ word, others, refl)
word_has_first false b others = (b ∷ [], others, refl)

words_by_first : (white : Bool) (b : ℕ) (text : List ℕ) → is_white b ≡ white → not white ≡ true → HasFirst (words (b ∷ text))
words_by_first true b text e h = absurd cc
words_by_first false b text e h = subst HasFirst (sym (words-cons b text ∙ ap (λ (w : Bool). words_by w (begins_in_word text) b (words text)) e))
    (word_has_first (begins_in_word text) b (words text))

-- a text that begins in a word has a first word
pub first_word : (text : List ℕ) → begins_in_word text ≡ true → HasFirst (words text)
first_word [] e = absurd cc
first_word (b ∷ text) e = words_by_first (is_white b) b text refl e

-- more words after those of a text with that first byte
words_by-append : (white begins : Bool) (b : ℕ) (prefix back : List (List ℕ)) → (begins ≡ true → HasFirst prefix)
    → words_by white begins b (prefix ++ back) ≡ words_by white begins b prefix ++ back
words_by-append true begins b prefix back h = refl
words_by-append false true b prefix back h = let first = h refl in rw (first.2) refl
words_by-append false false b prefix back h = refl

-- white space begins no word
begins_before_white : (a : List ℕ) (b : ℕ) (c : List ℕ) → is_white b ≡ true → begins_in_word (a ++ b ∷ c) ≡ begins_in_word a
begins_before_white [] b c e = rw e refl
begins_before_white (x ∷ a) b c e = refl

-- the words of a text split at white space
pub words-split : (a : List ℕ) (b : ℕ) (c : List ℕ) → is_white b ≡ true → words (a ++ b ∷ c) ≡ words a ++ words c
words-split [] b c e = words-cons b c ∙ ap (λ (w : Bool). words_by w (begins_in_word c) b (words c)) e
    ∙ ap (λ (found : List (List ℕ)). found ++ words c) (sym words-nil)
words-split (x ∷ a) b c e =
    words-cons x (a ++ b ∷ c)
    ∙ ap (λ (w : Bool). words_by (is_white x) w x (words (a ++ b ∷ c))) (begins_before_white a b c e)
    ∙ ap (λ (found : List (List ℕ)). words_by (is_white x) (begins_in_word a) x found) (words-split a b c e)
    ∙ words_by-append (is_white x) (begins_in_word a) x (words a) (words c) (first_word a)
    ∙ ap (λ (found : List (List ℕ)). found ++ words c) (sym (words-cons x a))

-- ---- words of a text with one byte more

-- white space adds no word
pub words-white : (text : List ℕ) (b : ℕ) → is_white b ≡ true → words (text ++ b ∷ []) ≡ words text
unfolding words
words-white text b e = words-split text b [] e ∙ append-nil (words text)

-- the text is empty, or ends with white space
EndsOutside : List ℕ → Type 0
EndsOutside text = (text ≡ []) ⊎ ((prefix : List ℕ) × (b : ℕ) × (is_white b ≡ true) × (text ≡ prefix ++ b ∷ []))

ends_outside : (text : List ℕ) → ends_in_word text ≡ false → EndsOutside text
unfolding ends_by EndsOutside
ends_outside [] e = inl refl
ends_outside (x ∷ []) e = inr ([], x, grind arith, refl)
ends_outside (x ∷ y ∷ text) e = elim (ends_outside (y ∷ text) e) [
  | inl h ↦ absurd cc
  | inr h ↦ inr (x ∷ h.0, h.1, h.2, ap (λ (t : List ℕ). x ∷ t) h.3)
]

-- the one word of a text of one byte
word_of_one : (b : ℕ) → is_white b ≡ false → words (b ∷ []) ≡ (b ∷ []) ∷ []
unfolding words
word_of_one b e = rw e refl

words-first_by : (text : List ℕ) (b : ℕ) → is_white b ≡ false → EndsOutside text → words (text ++ b ∷ []) ≡ words text ++ (b ∷ []) ∷ []
unfolding EndsOutside words
words-first_by text b h (inl e) = rw e (word_of_one b h)
words-first_by text b h (inr e) =
    let split : words ((e.0 ++ e.1 ∷ []) ++ b ∷ []) ≡ words e.0 ++ (b ∷ []) ∷ [] =
    ap words (append_assoc e.0 (e.1 ∷ []) (b ∷ [])) ∙ words-split e.0 e.1 (b ∷ []) e.2 ∙ ap (λ (w : List (List ℕ)). words e.0 ++ w) (word_of_one b h) in
    let before : words text ≡ words e.0 = ap words e.3 ∙ words-white e.0 e.1 e.2 in
    ap (λ (t : List ℕ). words (t ++ b ∷ [])) e.3 ∙ split ∙ ap (λ (w : List (List ℕ)). w ++ (b ∷ []) ∷ []) (sym before)

-- a byte that begins a word
pub words-first : (text : List ℕ) (b : ℕ) → is_white b ≡ false → ends_in_word text ≡ false → words (text ++ b ∷ []) ≡ words text ++ (b ∷ []) ∷ []
words-first text b h e = words-first_by text b h (ends_outside text e)

-- the last word, and those before it, of a text that ends in a word; a byte more of a word goes onto the last
abbrev pub GrowsLast : List (List ℕ) → List (List ℕ) → ℕ → Type 0
GrowsLast found more b = (prefix : List (List ℕ)) × (last : List ℕ) × (found ≡ prefix ++ last ∷ []) × (more ≡ prefix ++ (last ++ b ∷ []) ∷ [])

-- a byte before the first of the words
grows_last_onto : (x : ℕ) (prefix : List (List ℕ)) (last : List ℕ) (b : ℕ)
    → GrowsLast (onto_first x (prefix ++ last ∷ [])) (onto_first x (prefix ++ (last ++ b ∷ []) ∷ [])) b
grows_last_onto x [] last b = ([], x ∷ last, refl, refl)
grows_last_onto x (word ∷ prefix) last b = ((x ∷ word) ∷ prefix, last, refl, refl)

grows_last : (white begins : Bool) (x : ℕ) (found more : List (List ℕ)) (b : ℕ) → GrowsLast found more b
    → GrowsLast (words_by white begins x found) (words_by white begins x more) b
grows_last true begins x found more b g = g
grows_last false true x found more b g = rw (g.2, g.3) (grows_last_onto x g.0 g.1 b)
grows_last false false x found more b g = ((x ∷ []) ∷ g.0, g.1, ap (λ (w : List (List ℕ)). (x ∷ []) ∷ w) g.2, ap (λ (w : List (List ℕ)). (x ∷ []) ∷ w) g.3)

-- a byte after one
word_of_two : (x b : ℕ) → is_white x ≡ false → is_white b ≡ false → GrowsLast (words (x ∷ [])) (words (x ∷ b ∷ [])) b
unfolding words
word_of_two x b e h = rw (e, h) ([], x ∷ [], refl, refl)

-- a byte that goes onto the last word
pub words-next : (text : List ℕ) (b : ℕ) → is_white b ≡ false → ends_in_word text ≡ true → GrowsLast (words text) (words (text ++ b ∷ [])) b
unfolding ends_by
words-next [] b h e = absurd cc
words-next (x ∷ []) b h e = word_of_two x b (grind arith) h
words-next (x ∷ y ∷ text) b h e =
    subst (λ (found : List (List ℕ)). GrowsLast found (words (x ∷ y ∷ text ++ b ∷ [])) b) (sym (words-cons x (y ∷ text)))
    (subst (λ (more : List (List ℕ)). GrowsLast (words_by (is_white x) (begins_in_word (y ∷ text)) x (words (y ∷ text))) more b)
    (sym (words-cons x (y ∷ text ++ b ∷ [])))
    (grows_last (is_white x) (begins_in_word (y ∷ text)) x (words (y ∷ text)) (words (y ∷ text ++ b ∷ [])) b (words-next (y ∷ text) b h e)))

-- ---- a byte more, outside comments and inside

-- a text that goes on with a byte outside comments that begins none
pub uncommented-split : (a : List ℕ) (b : ℕ) (c : List ℕ) → ends_in_comment a ≡ false → (b == 35) ≡ false
    → uncommented (a ++ b ∷ c) ≡ uncommented a ++ b ∷ uncommented c
unfolding uncommented_from
uncommented-split a b c outside plain = uncommented_from-append false a (b ∷ c) ∙ ap (λ (i : Bool). uncommented a ++ uncommented_from i (b ∷ c)) outside
    ∙ rw plain refl

comment_is_cut_by : (inside : Bool) (b : ℕ) → (inside || (b == 35)) ≡ true → uncommented_from inside (b ∷ []) ≡ []
unfolding uncommented_from
comment_is_cut_by inside b h = rw h refl

comment_is_cut : (inside : Bool) (b : ℕ) → (inside ≡ true) ⊎ (b ≡ 35) → uncommented_from inside (b ∷ []) ≡ []
comment_is_cut inside b h = comment_is_cut_by inside b (grind (arith, nat_tests))

-- the number of one digit
one_digit : (b : ℕ) → is_digit b ≡ true → decimal_value (b ∷ []) ≡ b - 48
one_digit b e = omega (arith, digits_value_push 10 [] b, digit_value_is b e)

-- the number of one digit more
digit_more : (digits : List ℕ) (b : ℕ) → is_digit b ≡ true → decimal_value (digits ++ b ∷ []) ≡ decimal_value digits * 10 + (b - 48)
digit_more digits b e = digits_value_push 10 digits b ∙ ap (λ (n : ℕ). decimal_value digits * 10 + n) (digit_value_is b e)

module _ (before : List ℕ) (b : ℕ) where
  -- a byte outside comments that begins none
  pub uncommented-plain : ends_in_comment before ≡ false → (b == 35) ≡ false → uncommented (before ++ b ∷ []) ≡ uncommented before ++ b ∷ []
  unfolding uncommented_from
  uncommented-plain outside plain = uncommented-split before b [] outside plain

  -- a byte inside a comment, or one that begins a comment
  pub uncommented-comment : (ends_in_comment before ≡ true) ⊎ (b ≡ 35) → uncommented (before ++ b ∷ []) ≡ uncommented before
  unfolding uncommented_from
  uncommented-comment h = uncommented_from-append false before (b ∷ [])
      ∙ ap (λ (t : List ℕ). uncommented before ++ t) (comment_is_cut (ends_in_comment before) b h) ∙ append-nil (uncommented before)

  pub numbers-white : ends_in_comment before ≡ false → is_white b ≡ true → numbers_in (before ++ b ∷ []) ≡ numbers_in before
  numbers-white outside white = ap (λ (t : List ℕ). map decimal_value (words t)) (uncommented-plain outside (white_is_not_sharp b white))
      ∙ ap (map decimal_value) (words-white (uncommented before) b white)

  pub numbers-comment : (ends_in_comment before ≡ true) ⊎ (b ≡ 35) → numbers_in (before ++ b ∷ []) ≡ numbers_in before
  numbers-comment h = ap (λ (t : List ℕ). map decimal_value (words t)) (uncommented-comment h)

  pub numbers-first : ends_in_comment before ≡ false → is_digit b ≡ true → ends_in_word (uncommented before) ≡ false
      → numbers_in (before ++ b ∷ []) ≡ numbers_in before ++ (b - 48) ∷ []
  numbers-first outside digit ends =
      ap (λ (t : List ℕ). map decimal_value (words t)) (uncommented-plain outside (digit_is_not_sharp b digit))
      ∙ ap (map decimal_value) (words-first (uncommented before) b (digit_is_not_white b digit) ends)
      ∙ map-append decimal_value (words (uncommented before)) ((b ∷ []) ∷ [])
      ∙ ap (λ (n : ℕ). numbers_in before ++ n ∷ []) (one_digit b digit)

  pub numbers-next : ends_in_comment before ≡ false → is_digit b ≡ true → ends_in_word (uncommented before) ≡ true
      → (prefix : List ℕ) × (last : ℕ) × (numbers_in before ≡ prefix ++ last ∷ []) × (numbers_in (before ++ b ∷ []) ≡ prefix ++ (last * 10 + (b - 48)) ∷ [])
  numbers-next outside digit ends =
      let g = words-next (uncommented before) b (digit_is_not_white b digit) ends in (
        map decimal_value g.0,
        decimal_value g.1,
        ap (map decimal_value) g.2 ∙ map-append decimal_value g.0 (g.1 ∷ []),
        ap (λ (t : List ℕ). map decimal_value (words t)) (uncommented-plain outside (digit_is_not_sharp b digit)) ∙ ap (map decimal_value) g.3
            ∙ map-append decimal_value g.0 ((g.1 ++ b ∷ []) ∷ []) ∙ ap (λ (n : ℕ). map decimal_value g.0 ++ n ∷ []) (digit_more g.1 b digit),
      )

  -- ---- whether a text with one byte more ends in a word, comments cut out

  -- a byte outside comments that begins none
  pub ends_in_word-push : ends_in_comment before ≡ false → (b == 35) ≡ false → ends_in_word (uncommented (before ++ b ∷ [])) ≡ not (is_white b)
  ends_in_word-push outside plain = ap ends_in_word (uncommented-plain outside plain)
      ∙ ends_by-push (λ x. not (is_white x)) (uncommented before) b

  pub ends_in_word-white : ends_in_comment before ≡ false → is_white b ≡ true → ends_in_word (uncommented (before ++ b ∷ [])) ≡ false
  ends_in_word-white outside white = ends_in_word-push outside (white_is_not_sharp b white) ∙ ap not white

  pub ends_in_word-comment : (ends_in_comment before ≡ true) ⊎ (b ≡ 35) → ends_in_word (uncommented (before ++ b ∷ [])) ≡ ends_in_word (uncommented before)
  ends_in_word-comment h = ap ends_in_word (uncommented-comment h)

  pub ends_in_word-digit : ends_in_comment before ≡ false → is_digit b ≡ true → ends_in_word (uncommented (before ++ b ∷ [])) ≡ true
  ends_in_word-digit outside digit = ends_in_word-push outside (digit_is_not_sharp b digit) ∙ ap not (digit_is_not_white b digit)

-- ---- texts that end in a word

-- what the test of the last byte says of a text that goes on after a byte that fails it
pub ends_by-split : (test : ℕ → Bool) (a : List ℕ) (b : ℕ) (c : List ℕ) → test b ≡ false → ends_by test (a ++ b ∷ c) ≡ ends_by test c
unfolding ends_by
ends_by-split test [] b [] e = e
ends_by-split test [] b (y ∷ c) e = refl
ends_by-split test (x ∷ []) b c e = ends_by-split test [] b c e
ends_by-split test (x ∷ y ∷ a) b c e = ends_by-split test (y ∷ a) b c e

words_by_some : (white begins : Bool) (b : ℕ) (found : List (List ℕ)) → HasFirst found → HasFirst (words_by white begins b found)
words_by_some true begins b found h = h
words_by_some false begins b found h = word_has_first begins b found

-- a text that ends in a word has words
pub some_word : (text : List ℕ) → ends_in_word text ≡ true → HasFirst (words text)
unfolding ends_by
some_word [] e = absurd cc
some_word (x ∷ []) e = words_by_first (is_white x) x [] refl e
some_word (x ∷ y ∷ text) e =
    subst HasFirst (sym (words-cons x (y ∷ text))) (words_by_some (is_white x) (begins_in_word (y ∷ text)) x (words (y ∷ text)) (some_word (y ∷ text) e))

-- a prefix of a text that ends in a word, before white space, has fewer words
pub fewer_words : (a : List ℕ) (b : ℕ) (c : List ℕ) → is_white b ≡ true → ends_in_word (a ++ b ∷ c) ≡ true → length (words a) < length (words (a ++ b ∷ c))
fewer_words a b c white ends =
    let last : ends_in_word c ≡ true = sym (ends_by-split (λ x. not (is_white x)) a b c (ap not white)) ∙ ends in
    let some = some_word c last in
    let split : length (words (a ++ b ∷ c)) ≡ length (words a) + length (words c) = ap (λ (w : List (List ℕ)). length w) (words-split a b c white)
    ∙ length-append (words a) (words c) in
    let more : length (words c) ≡ length (some.0 ∷ some.1) = ap (λ (w : List (List ℕ)). length w) some.2 in
    omega arith

-- the numbers of a text are as many as its words
pub length-numbers : (text : List ℕ) → length (numbers_in text) ≡ length (words (uncommented text))
length-numbers text = length-map (words (uncommented text)) decimal_value

-- a prefix of a text that ends in a word, before white space outside comments, has fewer numbers
pub fewer_numbers : (a : List ℕ) (b : ℕ) (c : List ℕ) → ends_in_comment a ≡ false → is_white b ≡ true → ends_in_word (uncommented (a ++ b ∷ c)) ≡ true
    → length (numbers_in a) < length (numbers_in (a ++ b ∷ c))
fewer_numbers a b c outside white ends =
    let parts : uncommented (a ++ b ∷ c) ≡ uncommented a ++ b ∷ uncommented c = uncommented-split a b c outside (white_is_not_sharp b white) in
    let fewer : length (words (uncommented a)) < length (words (uncommented a ++ b ∷ uncommented c)) =
    fewer_words (uncommented a) b (uncommented c) white (sym (ap ends_in_word parts) ∙ ends) in
    let same : length (words (uncommented (a ++ b ∷ c))) ≡ length (words (uncommented a ++ b ∷ uncommented c)) = ap (λ (t : List ℕ). length (words t)) parts in
    omega (arith, length-numbers a, length-numbers (a ++ b ∷ c))
