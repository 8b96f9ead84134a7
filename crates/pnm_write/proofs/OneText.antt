-- The text of a plain row is that of its words in lines as long as they can be, and no other text is.
use Rattle.pnm_write.proofs.Words.{◌≡◌, ℕ, ◌+◌, ◌<◌, ◌≤◌, nat_le, if◌then◌else◌, Bool, true, false, List, [], ◌∷◌, ◌++◌, length, map, refl, sym, ap, ◌∙◌}
use Rattle.pnm_write.proofs.Words.{append_assoc, length-append, arith, AllByRecursion, nat_tests, Kind, HeadValue, IsHead, IsRowOf, byte, max_line_length}
use Rattle.pnm_write.proofs.Words.{sample_text, join_with_blank, IsFilled, AreFilled, IsLine, line_text, IsSetInLines, words_after, set_in_lines, HasOneText}
use Rattle.std.proofs.Common.{flat_map}
use Rattle.std.proofs.Common.{append-nil}
use Rattle.pnm_write.proofs.WordSizes.{AreShortWords, row_is_short}

-- ---- words in a line

-- the words of a line after its first
abbrev behind : List (List ℕ) → List ℕ
behind [] = []
behind (word ∷ words) = byte " " ∷ (word ++ behind words)

joined_is : (first : List ℕ) (words : List (List ℕ)) → join_with_blank (first ∷ words) ≡ first ++ behind words
joined_is first [] = sym (append-nil first)
joined_is first (word ∷ words) = ap (λ (l : List ℕ). first ++ byte " " ∷ l) (joined_is word words)

behind_more : (words : List (List ℕ)) (word : List ℕ) → behind (words ++ word ∷ []) ≡ behind words ++ byte " " ∷ word
behind_more [] word = ap (λ (l : List ℕ). byte " " ∷ l) (append-nil word)
behind_more (next ∷ words) word = ap (λ (l : List ℕ). byte " " ∷ (next ++ l)) (behind_more words word)
    ∙ ap (λ (l : List ℕ). byte " " ∷ l) (sym (append_assoc next (behind words) (byte " " ∷ word)))

-- a line with one word more
joined_more : (first : List ℕ) (words : List (List ℕ)) (word : List ℕ) → join_with_blank (first ∷ (words ++ word ∷ [])) ≡ join_with_blank (first ∷ words)
    ++ byte " " ∷ word
joined_more first words word =
    joined_is first (words ++ word ∷ [])
    ∙ ap (λ (l : List ℕ). first ++ l) (behind_more words word)
    ∙ sym (append_assoc first (behind words) (byte " " ∷ word))
    ∙ ap (λ (l : List ℕ). l ++ byte " " ∷ word) (sym (joined_is first words))

long_more : (line word : List ℕ) → length (line ++ byte " " ∷ word) ≡ length line + 1 + length word
long_more line word = omega (arith, length-append line (byte " " ∷ word))

-- ---- the lines of words

-- the lines of a line that has begun and of words after it
abbrev fill : List ℕ → List (List ℕ) → List (List ℕ) → List (List (List ℕ))
fill first more [] = (first ∷ more) ∷ []
fill first more (word ∷ words) =
    if nat_le (length (join_with_blank (first ∷ more)) + 1 + length word) max_line_length then fill first (more ++ word ∷ []) words
    else (first ∷ more) ∷ fill word [] words

-- what these lines are
record AreFilledFrom (first : List ℕ) (more words : List (List ℕ)) (lines : List (List (List ℕ))) : Type 0 where
  in_order : flat_map (λ line. line) lines ≡ (first ∷ more) ++ words
  each : AllByRecursion IsLine lines
  filled : AreFilled lines
  begins : (line : List (List ℕ)) → max_line_length < length (join_with_blank line ++ byte " " ∷ first) → IsFilled line lines
  text : flat_map line_text lines ≡ join_with_blank (first ∷ more) ++ words_after (length (join_with_blank (first ∷ more))) words

-- each word has room in a line
abbrev AreShort : List (List ℕ) → Type 0
AreShort words = AllByRecursion (λ word. length word ≤ max_line_length) words

fits : (n : ℕ) → nat_le n max_line_length ≡ true → n ≤ 70
fits n e = grind (arith, nat_tests)

fits_not : (n : ℕ) → nat_le n max_line_length ≡ false → 70 < n
fits_not n e = grind (arith, nat_tests)

le_is : (a b : ℕ) → a ≤ b → nat_le a b ≡ true
le_is a b h = grind (arith, nat_tests)

le_is_not : (a b : ℕ) → b < a → nat_le a b ≡ false
le_is_not a b h = grind (arith, nat_tests)

one_word : {word : List ℕ} → length word ≤ max_line_length → IsLine (word ∷ [])
one_word short = record { some = omega arith; short = short }

-- a word in the line
fill_here : {first : List ℕ} (more : List (List ℕ)) (word : List ℕ) {words : List (List ℕ)} {lines : List (List (List ℕ))}
    → AreFilledFrom first (more ++ word ∷ []) words lines
    → flat_map line_text lines ≡ join_with_blank (first ∷ more) ++ byte " " ∷ (word ++ words_after (length (join_with_blank (first ∷ more)) + 1 + length
    word) words)
fill_here {first} more word {words} are =
    let line : List ℕ = join_with_blank (first ∷ more) in
    are.text
    ∙ ap (λ (l : List ℕ). l ++ words_after (length l) words) (joined_more first more word)
    ∙ ap (λ (n : ℕ). (line ++ byte " " ∷ word) ++ words_after n words) (long_more line word)
    ∙ append_assoc line (byte " " ∷ word) (words_after (length line + 1 + length word) words)

-- a word in the next line
fill_next : (first : List ℕ) (more : List (List ℕ)) {word : List ℕ} {words : List (List ℕ)} {lines : List (List (List ℕ))}
    → AreFilledFrom word [] words lines
    → flat_map line_text ((first ∷ more) ∷ lines) ≡ join_with_blank (first ∷ more) ++ byte "\n" ∷ (word ++ words_after (length word) words)
fill_next first more {word} {words} are =
    let line : List ℕ = join_with_blank (first ∷ more) in
    ap (λ (l : List ℕ). (line ++ byte "\n" ∷ []) ++ l) are.text ∙ append_assoc line (byte "\n" ∷ []) (word ++ words_after (length word) words)

fill_step : (here : Bool) {first : List ℕ} {more : List (List ℕ)} {word : List ℕ} {words : List (List ℕ)}
    → nat_le (length (join_with_blank (first ∷ more)) + 1 + length word) max_line_length ≡ here → IsLine (first ∷ more)
    → (IsLine (first ∷ (more ++ word ∷ [])) → AreFilledFrom first (more ++ word ∷ []) words (fill first (more ++ word ∷ []) words))
    → AreFilledFrom word [] words (fill word [] words)
    → (let column : ℕ = length (join_with_blank (first ∷ more)) in let lines : List (List (List ℕ)) = if here then fill first (more ++ word ∷ []) words else
    (first ∷ more) ∷ fill word [] words in (flat_map (λ line. line) lines ≡ (first ∷ more) ++ word ∷ words) × AllByRecursion IsLine lines × AreFilled lines ×
    ((line : List (List ℕ)) → max_line_length < length (join_with_blank line ++ byte " " ∷ first) → IsFilled line lines) × (flat_map line_text lines ≡
    join_with_blank (first ∷ more) ++ (if here then byte " " ∷ (word ++ words_after (column + 1 + length word) words) else byte "\n" ∷ (word ++ words_after
    (length word) words))))
fill_step true {first} {more} {word} {words} is line same next =
    let long : length (join_with_blank (first ∷ (more ++ word ∷ []))) ≡ length (join_with_blank (first ∷ more)) + 1 + length word =
    ap length (joined_more first more word) ∙ long_more (join_with_blank (first ∷ more)) word in
    let are = same (record { some = omega arith; short = omega (arith, fits (length (join_with_blank (first ∷ more)) + 1 + length word) is) }) in (
      are.in_order ∙ append_assoc (first ∷ more) (word ∷ []) words,
      are.each,
      are.filled,
      are.begins,
      fill_here more word are,
    )
fill_step false {first} {more} {word} is line same next =
    let full : max_line_length < length (join_with_blank (first ∷ more) ++ byte " " ∷ word) =
    omega (arith, long_more (join_with_blank (first ∷ more)) word, fits_not (length (join_with_blank (first ∷ more)) + 1 + length word) is) in (
      ap (λ (l : List (List ℕ)). (first ∷ more) ++ l) next.in_order,
      (line, next.each),
      (next.begins (first ∷ more) full, next.filled),
      (λ before h. h),
      fill_next first more next,
    )

fill_is : (first : List ℕ) (more words : List (List ℕ)) → IsLine (first ∷ more) → AreShort words → AreFilledFrom first more words (fill first more words)
fill_is first more [] line short = record {
  in_order = refl;
  each = (line, tt);
  filled = (tt, tt);
  begins = λ before h. h;
  text = append-nil (join_with_blank (first ∷ more) ++ byte "\n" ∷ []);
}
fill_is first more (word ∷ words) line short =
    let all = fill_step (nat_le (length (join_with_blank (first ∷ more)) + 1 + length word) max_line_length) refl line
    (λ l. fill_is first (more ++ word ∷ []) words l short.1) (fill_is word [] words (one_word short.0) short.1) in
    record { in_order = all.0; each = all.1; filled = all.2; begins = all.3; text = all.4 }

-- words are set in lines by the text that is written
set_holds : (words : List (List ℕ)) → AreShort words → IsSetInLines words (set_in_lines words)
set_holds [] short = record { lines = []; are = record { in_order = refl; each = tt; filled = tt }; whole = refl }
set_holds (word ∷ words) short =
    let are = fill_is word [] words (one_word short.0) short.1 in
    record {
      lines = fill word [] words;
      are = record { in_order = are.in_order; each = are.each; filled = are.filled };
      whole = sym are.text;
    }

-- ---- no other text

-- words that have room in the line stand in it
stand_here : (column : ℕ) (line more : List (List ℕ)) → column + length (behind line) ≤ max_line_length
    → words_after column (line ++ more) ≡ behind line ++ words_after (column + length (behind line)) more
stand_here column [] more short = ap (λ (n : ℕ). words_after n more) (omega arith)
stand_here column (word ∷ line) more short =
    let now : ℕ = column + 1 + length word in
    let long : length (word ++ behind line) ≡ length word + length (behind line) = length-append word (behind line) in
    let buffer : nat_le now max_line_length ≡ true = le_is now max_line_length (omega arith) in
    let same : now + length (behind line) ≡ column + length (behind (word ∷ line)) = omega arith in
    ap (λ (b : Bool). if b then byte " " ∷ (word ++ words_after now (line ++ more)) else byte "\n" ∷ (word ++ words_after (length word) (line ++ more))) buffer
    ∙ ap (λ (l : List ℕ). byte " " ∷ (word ++ l)) (stand_here now line more (omega arith))
    ∙ ap (λ (l : List ℕ). byte " " ∷ l) (sym (append_assoc word (behind line) (words_after (now + length (behind line)) more)))
    ∙ ap (λ (n : ℕ). byte " " ∷ ((word ++ behind line) ++ words_after n more)) same

-- what follows a line that is filled
abbrev lines_words : List (List (List ℕ)) → List (List ℕ)
lines_words lines = flat_map (λ line. line) lines

follow_line : (line : List (List ℕ)) (lines : List (List (List ℕ))) → IsFilled line lines → AreFilled lines → AllByRecursion IsLine lines
    → words_after (length (join_with_blank line)) (lines_words lines) ≡ byte "\n" ∷ flat_map line_text lines
follow_line line [] filled others each = refl
follow_line line ([] ∷ lines) filled others each = absurd filled
follow_line line ((word ∷ words) ∷ lines) filled others each =
    let column : ℕ = length (join_with_blank line) in
    let full : nat_le (column + 1 + length word) max_line_length ≡ false =
    le_is_not (column + 1 + length word) max_line_length (omega (arith, long_more (join_with_blank line) word)) in
    let whole : join_with_blank (word ∷ words) ≡ word ++ behind words = joined_is word words in
    let long : length (join_with_blank (word ∷ words)) ≡ length word + length (behind words) = ap length whole ∙ length-append word (behind words) in
    let rest : List (List ℕ) = lines_words lines in
    ap (λ (b : Bool). if b then byte " " ∷ (word ++ words_after (column + 1 + length word) (words ++ rest)) else byte "\n"
    ∷ (word ++ words_after (length word) (words ++ rest))) full
    ∙ ap (λ (l : List ℕ). byte "\n" ∷ (word ++ l)) (stand_here (length word) words rest (omega (arith, each.0.short)))
    ∙ ap (λ (n : ℕ). byte "\n" ∷ (word ++ (behind words ++ words_after n rest))) (sym long)
    ∙ ap (λ (l : List ℕ). byte "\n" ∷ (word ++ (behind words ++ l))) (follow_line (word ∷ words) lines others.0 others.1 each.1)
    ∙ ap (λ (l : List ℕ). byte "\n" ∷ l) (sym (append_assoc word (behind words) (byte "\n" ∷ flat_map line_text lines)))
    ∙ ap (λ (l : List ℕ). byte "\n" ∷ (l ++ byte "\n" ∷ flat_map line_text lines)) (sym whole)
    ∙ ap (λ (l : List ℕ). byte "\n" ∷ l) (sym (append_assoc (join_with_blank (word ∷ words)) (byte "\n" ∷ []) (flat_map line_text lines)))

-- the text of lines is the one that is written of their words
lines_text : (lines : List (List (List ℕ))) → AreFilled lines → AllByRecursion IsLine lines → flat_map line_text lines ≡ set_in_lines (lines_words lines)
lines_text [] filled each = refl
lines_text ([] ∷ lines) filled each = absurd (omega (arith, each.0.some))
lines_text ((word ∷ words) ∷ lines) filled each =
    let whole : join_with_blank (word ∷ words) ≡ word ++ behind words = joined_is word words in
    let long : length (join_with_blank (word ∷ words)) ≡ length word + length (behind words) = ap length whole ∙ length-append word (behind words) in
    let rest : List (List ℕ) = lines_words lines in
    append_assoc (join_with_blank (word ∷ words)) (byte "\n" ∷ []) (flat_map line_text lines)
    ∙ ap (λ (l : List ℕ). join_with_blank (word ∷ words) ++ l) (sym (follow_line (word ∷ words) lines filled.0 filled.1 each.1))
    ∙ ap (λ (l : List ℕ). l ++ words_after (length (join_with_blank (word ∷ words))) rest) whole
    ∙ append_assoc word (behind words) (words_after (length (join_with_blank (word ∷ words))) rest)
    ∙ ap (λ (n : ℕ). word ++ (behind words ++ words_after n rest)) long
    ∙ ap (λ (l : List ℕ). word ++ l) (sym (stand_here (length word) words rest (omega (arith, each.0.short))))

set_is_only : {words : List (List ℕ)} {text : List ℕ} → IsSetInLines words text → text ≡ set_in_lines words
set_is_only set = set.whole ∙ lines_text set.lines set.are.filled set.are.each ∙ ap set_in_lines set.are.in_order

-- ---- rows

texts_are_short : (kind : Kind) (samples : List ℕ) → AreShortWords kind samples → AreShort (map (sample_text kind) samples)
texts_are_short kind [] are = tt
texts_are_short kind (sample ∷ samples) are = (omega (arith, are.0.short), texts_are_short kind samples are.1)

pub row_has_one_text : (head : HeadValue) → IsHead head → (row : List ℕ) → IsRowOf head.shape row → HasOneText head.shape.kind row
row_has_one_text head sound row is =
    let kind : Kind = head.shape.kind in
    let short : AreShort (map (sample_text kind) row) = texts_are_short kind row (row_is_short sound is) in
    record {
      holds = set_holds (map (sample_text kind) row) short;
      only = λ text set. set_is_only set;
    }
