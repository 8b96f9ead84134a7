-- Lines, tokens and values of a PAM header are what the steps along it give.
use Rattle.pnm_read.proofs.Words.{◌≡◌, ℕ, zero, suc, ◌+◌, ◌-◌, ◌<◌, ◌≤◌, Bool, true, false, not, cond, ◌==◌, if◌then◌else◌, List, [], ◌∷◌, ◌++◌, length, take}
use Rattle.pnm_read.proofs.Words.{drop, map, reverse, codes, slice_index_or, count_by, refl, sym, ap, ap₂, subst, ◌∙◌, append_assoc, append-nil, arith}
use Rattle.pnm_read.proofs.Words.{slice_split, onto_first, prefix_len, suffix_len, join_with_byte, lt-ltb, nat_tests, reverse-append, length-reverse}
use Rattle.pnm_read.proofs.Words.{length-append, take_at, drop-drop, prefix_len-append, length-slice_split, suffix_len-le-length, is_blank, runs_between}
use Rattle.pnm_read.proofs.Words.{begins_in_run, words_by, runs-cons, trimmed, onto_trimmed, after_first, begins_with, joined_with}
use Rattle.std.proofs.Common.{nat_lt}
use Rattle.std.proofs.Common.{filter}
use Rattle.pnm_read.specs.PamLines.{ended_lines, last_line, first_token, second_token, value_of, tuple_type_in}
use Rattle.pnm_read.specs.Internal.LineWalks.{ended_after, last_after, trimmed_start, trimmed_end, token_of, after_token}

-- ---- how many bytes at the end of a text pass a test, with one byte more before it

-- by whether all the others do
abbrev suffix_by : Bool → ℕ → ℕ → ℕ → ℕ
suffix_by all long found first = if all then long + first else found

suffix_len-cons : (test : ℕ → Bool) (b : ℕ) (text : List ℕ)
    → suffix_len test (b ∷ text) ≡ suffix_by (suffix_len test text == length text) (length text) (suffix_len test text) (if test b then 1 else 0)
suffix_len-cons test b text =
    ap (prefix_len test) (reverse-append (b ∷ []) text)
    ∙ prefix_len-append test (reverse text) (b ∷ [])
    ∙ ap (λ (n : ℕ). cond (prefix_len test (reverse text) == n) (n + prefix_len test (b ∷ [])) (prefix_len test (reverse text))) (length-reverse text)

-- ---- lines

abbrev is_feed : ℕ → Bool
is_feed b = b == 10

-- bytes before the first part of a text
paste : List ℕ → List (List ℕ) → List (List ℕ)
paste line [] = line ∷ []
paste line (part ∷ parts) = (line ++ part) ∷ parts

paste_nothing_by : (feeds : Bool) (b : ℕ) (parts : List (List ℕ))
    → paste [] (cond feeds ([] ∷ parts) (onto_first b parts)) ≡ cond feeds ([] ∷ parts) (onto_first b parts)
unfolding paste
paste_nothing_by true b parts = refl
paste_nothing_by false b [] = refl
paste_nothing_by false b (part ∷ parts) = refl

paste_nothing : (text : List ℕ) → paste [] (slice_split is_feed text) ≡ slice_split is_feed text
unfolding paste
paste_nothing [] = refl
paste_nothing (b ∷ text) = paste_nothing_by (is_feed b) b (slice_split is_feed text)

paste_by : (feeds : Bool) (line : List ℕ) (b : ℕ) (parts : List (List ℕ))
    → paste line (cond feeds ([] ∷ parts) (onto_first b parts)) ≡ (if feeds then line ∷ parts else paste (line ++ b ∷ []) parts)
unfolding paste
paste_by true line b parts = ap (λ (l : List ℕ). l ∷ parts) (append-nil line)
paste_by false line b [] = refl
paste_by false line b (part ∷ parts) = ap (λ (l : List ℕ). l ∷ parts) (sym (append_assoc line (b ∷ []) part))

lines_by : (feeds : Bool) (line : List ℕ) {a b : List (List ℕ)} (c d : List (List ℕ)) (x y : List ℕ) → a ≡ c ++ x ∷ [] → b ≡ d ++ y ∷ []
    → (if feeds then line ∷ a else b) ≡ (if feeds then line ∷ c else d) ++ (if feeds then x else y) ∷ []
lines_by true line c d x y p q = ap (λ (l : List (List ℕ)). line ∷ l) p
lines_by false line c d x y p q = q

lines_are : (line text : List ℕ) → paste line (slice_split is_feed text) ≡ ended_after line text ++ last_after line text ∷ []
unfolding paste ended_after last_after
lines_are line [] = ap (λ (l : List ℕ). l ∷ []) (append-nil line)
lines_are line (b ∷ text) =
    paste_by (is_feed b) line b (slice_split is_feed text)
    ∙ lines_by (is_feed b) line (ended_after [] text) (ended_after (line ++ b ∷ []) text) (last_after [] text) (last_after (line ++ b ∷ []) text)
    (sym (paste_nothing text) ∙ lines_are [] text) (lines_are (line ++ b ∷ []) text)

pub ended_lines_are : (text : List ℕ) → ended_lines text ≡ ended_after [] text
unfolding ended_lines
ended_lines_are text =
    let ended : List (List ℕ) = ended_after [] text in
    let parts : slice_split is_feed text ≡ ended ++ last_after [] text ∷ [] = sym (paste_nothing text) ∙ lines_are [] text in
    let long = ap (λ (l : List (List ℕ)). length l) parts in
    let count : count_by is_feed text ≡ length ended = omega (arith, length-slice_split is_feed text, long, length-append ended (last_after [] text ∷ [])) in
    ap₂ (λ (n : ℕ) (l : List (List ℕ)). take n l) count parts ∙ take_at ended (last_after [] text ∷ []) (length ended) refl

abbrev is_other : ℕ → Bool
is_other b = not (b == 10)

-- what follows the last LF, after these bytes if there is none
last_by : (feeds all : Bool) (line : List ℕ) (b : ℕ) (text : List ℕ) (found : ℕ) {more : ℕ} → found ≤ length text → (found == length text) ≡ all
    → more ≡ suffix_by all (length text) found (if not feeds then 1 else 0)
    → (if feeds then (if all then text else drop (length text - found) text) else (if all then (line ++ b ∷ []) ++ text else drop (length text - found)
    text)) ≡ (if more == length (b ∷ text) then line ++ b ∷ text else drop (length (b ∷ text) - more) (b ∷ text))
last_by true true line b text found {more} le e is =
    let other : (more == length (b ∷ text)) ≡ false = grind (arith, nat_tests) in
    let one : length (b ∷ text) - more ≡ 1 = omega arith in
    rw (other, one) refl
last_by false true line b text found {more} le e is =
    let same : (more == length (b ∷ text)) ≡ true = grind (arith, nat_tests) in
    rw same (append_assoc line (b ∷ []) text)
last_by true false line b text found {more} le e is =
    let other : (more == length (b ∷ text)) ≡ false = grind (arith, nat_tests) in
    let further : length (b ∷ text) - more ≡ suc (length text - found) = grind (arith, nat_tests) in
    rw (other, further) refl
last_by false false line b text found {more} le e is =
    let other : (more == length (b ∷ text)) ≡ false = grind (arith, nat_tests) in
    let further : length (b ∷ text) - more ≡ suc (length text - found) = grind (arith, nat_tests) in
    rw (other, further) refl

last_from : (line text : List ℕ)
    → last_after line text ≡ (if suffix_len is_other text == length text then line ++ text else drop (length text - suffix_len is_other text) text)
unfolding last_after
last_from line [] = sym (append-nil line)
last_from line (b ∷ text) =
    ap₂ (λ (x y : List ℕ). if is_feed b then x else y) (last_from [] text) (last_from (line ++ b ∷ []) text)
    ∙ last_by (is_feed b) (suffix_len is_other text == length text) line b text (suffix_len is_other text)
    (suffix_len-le-length is_other text) refl (suffix_len-cons is_other b text)

if_same : (all : Bool) (found : ℕ) (text : List ℕ) → (found == length text) ≡ all
    → (if all then text else drop (length text - found) text) ≡ drop (length text - found) text
if_same true found text e = let none : length text - found ≡ 0 = grind (arith, nat_tests) in rw none refl
if_same false found text e = refl

pub last_line_is : (text : List ℕ) → last_line text ≡ last_after [] text
unfolding last_line
last_line_is text =
    sym (if_same (suffix_len is_other text == length text) (suffix_len is_other text) text refl) ∙ sym (last_from [] text)

-- ---- white space at the ends of a text

end_some : (b c : ℕ) (text : List ℕ) (n : ℕ) → 0 < n → onto_trimmed b (take n (c ∷ text)) ≡ take (suc n) (b ∷ c ∷ text)
end_some b c text zero lt = absurd (omega arith)
end_some b c text (suc n) lt = refl

end_none : (blank : Bool) (b : ℕ) (text : List ℕ) → (if blank then [] else b ∷ []) ≡ take (1 - (if blank then 1 else 0)) (b ∷ text)
end_none true b text = refl
end_none false b text = refl

end_by : (all : Bool) (b : ℕ) (text : List ℕ) → (suffix_len is_blank text == length text) ≡ all
    → onto_trimmed b (take (length text - suffix_len is_blank text) text) ≡ take (length (b ∷ text) - suffix_len is_blank (b ∷ text)) (b ∷ text)
end_by true b text e =
    let none : length text - suffix_len is_blank text ≡ 0 = grind (arith, nat_tests) in
    let more : suffix_len is_blank (b ∷ text) ≡ length text + (if is_blank b then 1 else 0) =
    suffix_len-cons is_blank b text ∙ ap (λ (all : Bool). suffix_by all (length text) (suffix_len is_blank text) (if is_blank b then 1 else 0)) e in
    let count : 1 - (if is_blank b then 1 else 0) ≡ length (b ∷ text) - suffix_len is_blank (b ∷ text) = omega (arith, more) in
    ap (λ (n : ℕ). onto_trimmed b (take n text)) none ∙ end_none (is_blank b) b text ∙ ap (λ (n : ℕ). take n (b ∷ text)) count
end_by false b [] e = absurd cc
end_by false b (c ∷ text) e =
    let found : ℕ = suffix_len is_blank (c ∷ text) in
    let same : suffix_len is_blank (b ∷ c ∷ text) ≡ found =
    suffix_len-cons is_blank b (c ∷ text) ∙ ap (λ (all : Bool). suffix_by all (length (c ∷ text)) found (if is_blank b then 1 else 0)) e in
    let le : found ≤ length (c ∷ text) = suffix_len-le-length is_blank (c ∷ text) in
    let some : 0 < length (c ∷ text) - found = grind (arith, nat_tests) in
    let count : suc (length (c ∷ text) - found) ≡ length (b ∷ c ∷ text) - suffix_len is_blank (b ∷ c ∷ text) = omega (arith, same, le) in
    end_some b c text (length (c ∷ text) - found) some ∙ ap (λ (n : ℕ). take n (b ∷ c ∷ text)) count

trimmed_end_is : (text : List ℕ) → trimmed_end text ≡ take (length text - suffix_len is_blank text) text
unfolding trimmed_end
trimmed_end_is [] = refl
trimmed_end_is (b ∷ text) = ap (onto_trimmed b) (trimmed_end_is text) ∙ end_by (suffix_len is_blank text == length text) b text refl

start_count : (all : Bool) (long found first : ℕ) {more : ℕ} (front : ℕ) → found ≤ long → (found == long) ≡ all → first ≤ 1
    → more ≡ suffix_by all long found first → suc long - more - (1 + front) ≡ long - found - front
start_count true long found first front le e small is = grind (arith, nat_tests)
start_count false long found first front le e small is = omega arith

at_most_one : (b : Bool) → (if b then 1 else 0) ≤ 1
at_most_one true = omega arith
at_most_one false = omega arith

trimmed_by : (blank : Bool) (b : ℕ) (text : List ℕ) → trimmed text ≡ trimmed_end (trimmed_start text)
    → take (length (b ∷ text) - suffix_len is_blank (b ∷ text) - cond blank (1 + prefix_len is_blank text) 0)
    (drop (cond blank (1 + prefix_len is_blank text) 0) (b ∷ text)) ≡ trimmed_end (if blank then trimmed_start text else b ∷ text)
trimmed_by true b text is =
    let found : ℕ = suffix_len is_blank text in
    let count = start_count (found == length text) (length text) found (if is_blank b then 1 else 0) (prefix_len is_blank text)
    (suffix_len-le-length is_blank text) refl (at_most_one (is_blank b)) (suffix_len-cons is_blank b text) in
    let further : 1 + prefix_len is_blank text ≡ suc (prefix_len is_blank text) = omega arith in
    ap₂ (λ (n m : ℕ). take n (drop m (b ∷ text))) count further ∙ is
trimmed_by false b text is =
    let count : length (b ∷ text) - suffix_len is_blank (b ∷ text) - 0 ≡ length (b ∷ text) - suffix_len is_blank (b ∷ text) = omega arith in
    ap (λ (n : ℕ). take n (b ∷ text)) count ∙ sym (trimmed_end_is (b ∷ text))

pub trimmed_is : (text : List ℕ) → trimmed text ≡ trimmed_end (trimmed_start text)
unfolding trimmed_start trimmed_end
trimmed_is [] = refl
trimmed_is (b ∷ text) = trimmed_by (is_blank b) b text (trimmed_is text)

-- ---- tokens

-- the runs of a line that begins with a token
runs_step : (blank : Bool) (b c : ℕ) (text : List ℕ) → is_blank b ≡ false → is_blank c ≡ blank
    → (is_blank c ≡ false → runs_between is_blank (c ∷ text) ≡ (c ∷ token_of text) ∷ runs_between is_blank (after_token text))
    → runs_between is_blank (b ∷ c ∷ text)
    ≡ (b ∷ (if blank then [] else c ∷ token_of text)) ∷ runs_between is_blank (if blank then c ∷ text else after_token text)
runs_step true b c text e f is =
    runs-cons is_blank b (c ∷ text)
    ∙ ap₂ (λ (x y : Bool). words_by x (not y) b (runs_between is_blank (c ∷ text))) e f
runs_step false b c text e f is =
    runs-cons is_blank b (c ∷ text)
    ∙ ap₂ (λ (x y : Bool). words_by x (not y) b (runs_between is_blank (c ∷ text))) e f
    ∙ ap (onto_first b) (is f)

runs_token : (b : ℕ) (text : List ℕ) → is_blank b ≡ false
    → runs_between is_blank (b ∷ text) ≡ (b ∷ token_of text) ∷ runs_between is_blank (after_token text)
unfolding token_of after_token
runs_token b [] e = runs-cons is_blank b [] ∙ ap (λ (x : Bool). words_by x false b []) e
runs_token b (c ∷ text) e = runs_step (is_blank c) b c text e refl (runs_token c text)

-- the first two of the runs are the tokens of a line without white space at its start
abbrev AreTokens : List (List ℕ) → List ℕ → Type 0
AreTokens runs line = (slice_index_or runs 0 [] ≡ token_of line)
    × (slice_index_or runs 1 [] ≡ slice_index_or (runs_between is_blank (after_token line)) 0 [])

token_here : (b : ℕ) (text : List ℕ) → is_blank b ≡ false → AreTokens ((b ∷ token_of text) ∷ runs_between is_blank (after_token text)) (b ∷ text)
unfolding token_of after_token
token_here b text e = rw e (refl, refl)

tokens_by : (blank : Bool) (b : ℕ) (text : List ℕ) → is_blank b ≡ blank → AreTokens (runs_between is_blank text) (trimmed_start text)
    → AreTokens (runs_between is_blank (b ∷ text)) (if blank then trimmed_start text else b ∷ text)
tokens_by true b text e are =
    let same : runs_between is_blank (b ∷ text) ≡ runs_between is_blank text =
    runs-cons is_blank b text ∙ ap (λ (x : Bool). words_by x (begins_in_run is_blank text) b (runs_between is_blank text)) e in
    subst (λ (runs : List (List ℕ)). AreTokens runs (trimmed_start text)) (sym same) are
tokens_by false b text e are = subst (λ (runs : List (List ℕ)). AreTokens runs (b ∷ text)) (sym (runs_token b text e)) (token_here b text e)

tokens_are : (line : List ℕ) → AreTokens (runs_between is_blank line) (trimmed_start line)
unfolding trimmed_start token_of after_token
tokens_are [] = (refl, refl)
tokens_are (b ∷ line) = tokens_by (is_blank b) b line refl (tokens_are line)

pub first_token_is : (line : List ℕ) → first_token line ≡ token_of (trimmed_start line)
unfolding first_token
first_token_is line = (tokens_are line).0

pub second_token_is : (line : List ℕ) → second_token line ≡ first_token (after_first line)
unfolding first_token second_token
second_token_is line = (tokens_are line).1

-- ---- values

start_by : (blank : Bool) (b : ℕ) (text : List ℕ) → trimmed_start text ≡ drop (prefix_len is_blank text) text
    → (if blank then trimmed_start text else b ∷ text) ≡ drop (cond blank (1 + prefix_len is_blank text) 0) (b ∷ text)
start_by true b text is =
    let more : suc (prefix_len is_blank text) ≡ 1 + prefix_len is_blank text = omega arith in
    is ∙ ap (λ (n : ℕ). drop n (b ∷ text)) more
start_by false b text is = refl

start_is : (text : List ℕ) → trimmed_start text ≡ drop (prefix_len is_blank text) text
unfolding trimmed_start
start_is [] = refl
start_is (b ∷ text) = start_by (is_blank b) b text (start_is text)

after_by : (blank : Bool) (b : ℕ) (text : List ℕ) → after_token text ≡ drop (length (token_of text)) text
    → (if blank then b ∷ text else after_token text) ≡ drop (length (if blank then [] else b ∷ token_of text)) (b ∷ text)
after_by true b text is = refl
after_by false b text is = is

after_is : (text : List ℕ) → after_token text ≡ drop (length (token_of text)) text
unfolding token_of after_token
after_is [] = refl
after_is (b ∷ text) = after_by (is_blank b) b text (after_is text)

pub value_is_rest : (line : List ℕ) → value_of line ≡ trimmed (after_first line)
unfolding value_of
value_is_rest line =
    let front : ℕ = prefix_len is_blank line in
    let rest : drop (front + length (first_token line)) line ≡ after_first line =
    ap (λ (token : List ℕ). drop (front + length token) line) (first_token_is line)
    ∙ sym (drop-drop (length (token_of (trimmed_start line))) front line)
    ∙ ap (λ (l : List ℕ). drop (length (token_of (trimmed_start line))) l) (sym (start_is line))
    ∙ sym (after_is (trimmed_start line)) in
    ap trimmed rest

pub value_is : (line : List ℕ) → value_of line ≡ trimmed_end (trimmed_start (after_first line))
value_is line = value_is_rest line ∙ trimmed_is (after_first line)

-- ---- tuple types

abbrev has_bytes : List ℕ → Bool
has_bytes value = nat_lt 0 (length value)

some_bytes : (b : ℕ) (value : List ℕ) → has_bytes (b ∷ value) ≡ true
some_bytes b value = lt-ltb 0 (length (b ∷ value)) (omega arith)

join_some : (b : ℕ) (first : List ℕ) (c : ℕ) (next : List ℕ) (others : List (List ℕ))
    → join_with_byte 32 ((b ∷ first) ∷ (c ∷ next) ∷ others) ≡ joined_with (b ∷ first) (join_with_byte 32 ((c ∷ next) ∷ others))
join_some b first c next [] = refl
join_some b first c next (other ∷ others) = refl

join_more : (b : ℕ) (first : List ℕ) (values : List (List ℕ))
    → join_with_byte 32 ((b ∷ first) ∷ filter has_bytes values) ≡ joined_with (b ∷ first) (join_with_byte 32 (filter has_bytes values))
join_more b first [] = refl
join_more b first ([] ∷ values) = join_more b first values
join_more b first ((c ∷ next) ∷ values) = rw (some_bytes c next) (join_some b first c next (filter has_bytes values))

join_value : (value : List ℕ) (values : List (List ℕ))
    → join_with_byte 32 (filter has_bytes (value ∷ values)) ≡ joined_with value (join_with_byte 32 (filter has_bytes values))
join_value [] values = refl
join_value (b ∷ value) values = rw (some_bytes b value) (join_more b value values)

type_by : (begins : Bool) (line : List ℕ) (lines : List (List ℕ))
    → join_with_byte 32 (filter has_bytes (map value_of (cond begins (line ∷ lines) lines)))
    ≡ (if begins then joined_with (value_of line) (join_with_byte 32 (filter has_bytes (map value_of lines)))
    else join_with_byte 32 (filter has_bytes (map value_of lines)))
type_by true line lines = join_value (value_of line) (map value_of lines)
type_by false line lines = refl

pub tuple_type_in-cons : (line : List ℕ) (lines : List (List ℕ))
    → tuple_type_in (line ∷ lines) ≡ (if begins_with (codes "TUPLTYPE") line then joined_with (value_of line) (tuple_type_in lines) else tuple_type_in lines)
unfolding tuple_type_in
tuple_type_in-cons line lines = type_by (begins_with (codes "TUPLTYPE") line) line (filter (begins_with (codes "TUPLTYPE")) lines)

pub tuple_type_in-nil : tuple_type_in [] ≡ []
unfolding tuple_type_in
tuple_type_in-nil = refl
