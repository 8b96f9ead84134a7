-- The runs of a text, and its words, by its first byte.
use Rattle.std.proofs.Common.{◌≡◌, ℕ, Bool, true, false, not, cond, nat_lt, if◌then◌else◌, List, [], ◌∷◌, length, filter, refl, sym, ap, ◌∙◌, arith}
use Rattle.std.specs.List.{slice_split, onto_first}
use Rattle.std.proofs.lemmas.Bool.{lt-ltb}
use Rattle.pnm_image.specs.Texts.{is_white, runs_between, words}

-- the text begins with a byte of a run
abbrev pub begins_in_run : (ℕ → Bool) → List ℕ → Bool
begins_in_run test [] = false
begins_in_run test (b ∷ text) = not (test b)

-- the text begins with a byte of a word
abbrev pub begins_in_word : List ℕ → Bool
begins_in_word text = begins_in_run is_white text

-- the runs of a text by its first byte: whether that passes the test, and whether what follows it begins in a run
abbrev pub words_by : Bool → Bool → ℕ → List (List ℕ) → List (List ℕ)
words_by passes begins b others = if passes then others else if begins then onto_first b others else (b ∷ []) ∷ others

-- ---- a text with one byte more before it

abbrev has_bytes : List ℕ → Bool
has_bytes run = nat_lt 0 (length run)

some_bytes : (b : ℕ) (run : List ℕ) → has_bytes (b ∷ run) ≡ true
some_bytes b run = lt-ltb 0 (length (b ∷ run)) (omega arith)

-- the first part of a text that is split, and whether it has bytes
FirstPart : List (List ℕ) → Bool → Type 0
FirstPart parts begins = (first : List ℕ) × (others : List (List ℕ)) × (parts ≡ first ∷ others) × (has_bytes first ≡ begins)

first_by : (passes : Bool) (b : ℕ) (parts : List (List ℕ)) → FirstPart (cond passes ([] ∷ parts) (onto_first b parts)) (not passes)
unfolding FirstPart
first_by true b parts = ([], parts, refl, refl)
first_by false b [] = (b ∷ [], [], refl, refl)
first_by false b (part ∷ parts) = (b ∷ part, parts, refl, some_bytes b part)

first_part : (test : ℕ → Bool) (text : List ℕ) → FirstPart (slice_split test text) (begins_in_run test text)
unfolding FirstPart
first_part test [] = ([], [], refl, refl)
first_part test (b ∷ text) = first_by (test b) b (slice_split test text)

runs_by : (passes begins : Bool) (b : ℕ) (first : List ℕ) (others : List (List ℕ)) → has_bytes first ≡ begins
    → filter has_bytes (cond passes ([] ∷ first ∷ others) (onto_first b (first ∷ others))) ≡ words_by passes begins b (filter has_bytes (first ∷ others))
runs_by true begins b first others e = refl
runs_by false begins b [] others e = rw (sym e) refl
runs_by false begins b (c ∷ first) others e = rw (sym e, some_bytes b (c ∷ first), some_bytes c first) refl

pub runs-cons : (test : ℕ → Bool) (b : ℕ) (text : List ℕ)
    → runs_between test (b ∷ text) ≡ words_by (test b) (begins_in_run test text) b (runs_between test text)
unfolding FirstPart
runs-cons test b text =
    let part = first_part test text in
    ap (λ (parts : List (List ℕ)). filter has_bytes (cond (test b) ([] ∷ parts) (onto_first b parts))) part.2
    ∙ runs_by (test b) (begins_in_run test text) b part.0 part.1 part.3
    ∙ ap (λ (parts : List (List ℕ)). words_by (test b) (begins_in_run test text) b (filter has_bytes parts)) (sym part.2)

pub words-cons : (b : ℕ) (text : List ℕ) → words (b ∷ text) ≡ words_by (is_white b) (begins_in_word text) b (words text)
unfolding words
words-cons b text = runs-cons is_white b text

pub words-nil : words [] ≡ []
unfolding words
words-nil = refl
