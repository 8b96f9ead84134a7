-- The text of a plain row: part by part.
use Rattle.pnm_write.proofs.Words.{◌≡◌, ℕ, ◌+◌, ◌^◌, ◌==◌, ◌<◌, ◌≤◌, if◌then◌else◌, Bool, true, false, List, [], ◌∷◌, ◌++◌, length, take, drop, refl, sym, ap}
use Rattle.pnm_write.proofs.Words.{ap₂, ◌∙◌, append_assoc, arith, get_or, All, subst, suc, ◌-◌, append-nil, map-append, take-append-drop, take_more}
use Rattle.pnm_write.proofs.Words.{length-drop, All-nil, All-cons, All-head, All-tail, nat_tests, AllByRecursion, decimal_nonempty, Kind, Bit, Gray, Color, Pam}
use Rattle.pnm_write.proofs.Words.{byte, sample_text, words_after, plain_row_text, fits_in_line, column_after, word_in_line, text_of_part, column_after_part}
use Rattle.pnm_write.proofs.Words.{sample_texts, row_end}

-- ---- words

-- the text of words, and then of others
pub text_of_part-append : (column : ℕ) (words more : List (List ℕ)) → text_of_part column (words ++ more) ≡ text_of_part column words ++ text_of_part
    (column_after_part column words) more
text_of_part-append column [] more = refl
text_of_part-append column (word ∷ words) more =
    ap (λ (l : List ℕ). word_in_line column word ++ l) (text_of_part-append (column_after column word) words more)
    ∙ sym (append_assoc (word_in_line column word) (text_of_part (column_after column word) words)
    (text_of_part (column_after_part (column_after column word) words) more))

pub column_after_part-append : (column : ℕ) (words more : List (List ℕ))
    → column_after_part column (words ++ more) ≡ column_after_part (column_after_part column words) more
column_after_part-append column [] more = refl
column_after_part-append column (word ∷ words) more = column_after_part-append (column_after column word) words more

-- ---- rows

-- what is left of a row, behind a line that has so many bytes
abbrev pub text_left : ℕ → Kind → List ℕ → List ℕ
text_left column kind [] = []
text_left column kind (sample ∷ samples) = text_of_part column (sample_texts kind (sample ∷ samples)) ++ byte "\n" ∷ []

text_left-some : (column : ℕ) (kind : Kind) (samples : List ℕ) → 0 < length samples
    → text_left column kind samples ≡ text_of_part column (sample_texts kind samples) ++ byte "\n" ∷ []
text_left-some column kind [] some = absurd (omega arith)
text_left-some column kind (sample ∷ samples) some = refl

-- a part of what is left, and the rest
left_parts : (column : ℕ) (kind : Kind) (prefix back : List ℕ) (is_end : Bool) → 0 < length (prefix ++ back) → (length back ≡ 0 → is_end ≡ true)
    → (0 < length back → is_end ≡ false)
    → text_left column kind (prefix ++ back) ≡ (text_of_part column (sample_texts kind prefix) ++ row_end is_end) ++ text_left
    (column_after_part column (sample_texts kind prefix)) kind back
left_parts column kind prefix [] is_end some last more =
    ap (text_left column kind) (append-nil prefix)
    ∙ text_left-some column kind prefix (omega (arith, ap length (append-nil prefix)))
    ∙ ap (λ (b : Bool). text_of_part column (sample_texts kind prefix) ++ row_end b) (sym (last refl))
    ∙ sym (append-nil (text_of_part column (sample_texts kind prefix) ++ row_end is_end))
left_parts column kind prefix (sample ∷ back) is_end some last more =
    let words : List (List ℕ) = sample_texts kind prefix in
    let others : List (List ℕ) = sample_texts kind (sample ∷ back) in
    let then_column : ℕ = column_after_part column words in
    text_left-some column kind (prefix ++ sample ∷ back) some
    ∙ ap (λ (l : List (List ℕ)). text_of_part column l ++ byte "\n" ∷ []) (map-append (sample_text kind) prefix (sample ∷ back))
    ∙ ap (λ (l : List ℕ). l ++ byte "\n" ∷ []) (text_of_part-append column words others)
    ∙ append_assoc (text_of_part column words) (text_of_part then_column others) (byte "\n" ∷ [])
    ∙ ap (λ (l : List ℕ). l ++ (text_of_part then_column others ++ byte "\n" ∷ [])) (sym (append-nil (text_of_part column words))
    ∙ ap (λ (b : Bool). text_of_part column words ++ row_end b) (sym (more (omega arith))))

pub left_part : (column : ℕ) (kind : Kind) (n : ℕ) (samples : List ℕ) (is_end : Bool) → n ≤ length samples → 0 < length samples
    → (n ≡ length samples → is_end ≡ true) → (n < length samples → is_end ≡ false)
    → text_left column kind samples ≡ (text_of_part column (sample_texts kind (take n samples)) ++ row_end is_end) ++ text_left
    (column_after_part column (sample_texts kind (take n samples))) kind (drop n samples)
left_part column kind n samples is_end within some last more =
    ap (text_left column kind) (sym (take-append-drop n samples))
    ∙ left_parts column kind (take n samples) (drop n samples) is_end (subst (λ (l : List ℕ). 0 < length l) (sym (take-append-drop n samples)) some)
    (λ e. last (omega (arith, length-drop n samples))) (λ e. more (omega (arith, length-drop n samples)))

-- ---- the text of a row is what is left of it before its first sample

-- each of the words has bytes
abbrev HaveBytes : List (List ℕ) → Type 0
HaveBytes words = AllByRecursion (λ word. 0 < length word) words

sample_has_text : (kind : Kind) (sample : ℕ) → sample < 2 ^ 64 → 0 < length (sample_text kind sample)
sample_has_text Bit sample fits = omega arith
sample_has_text Gray sample fits = decimal_nonempty sample fits
sample_has_text Color sample fits = decimal_nonempty sample fits
sample_has_text Pam sample fits = decimal_nonempty sample fits

-- samples that are within a range have texts
samples_have_texts : (kind : Kind) (samples : List ℕ) → All (λ sample. sample < 2 ^ 64) samples → HaveBytes (sample_texts kind samples)
samples_have_texts kind [] fit = tt
samples_have_texts kind (sample ∷ samples) fit = (
  sample_has_text kind sample (All-head (λ n. n < 2 ^ 64) sample samples fit),
  samples_have_texts kind samples (All-tail (λ n. n < 2 ^ 64) sample samples fit),
)

-- a word behind a line that has begun, by whether it fits in
words_step : (at_start fits : Bool) (column : ℕ) (word : List ℕ) (words : List (List ℕ)) → at_start ≡ false
    → words_after (column + 1 + length word) words ≡ text_of_part (column + 1 + length word) words ++ byte "\n" ∷ []
    → words_after (length word) words ≡ text_of_part (length word) words ++ byte "\n" ∷ []
    → (if fits then byte " " ∷ (word ++ words_after (column + 1 + length word) words) else byte "\n" ∷ (word ++ words_after (length word) words))
    ≡ (((if at_start then [] else if fits then byte " " ∷ [] else byte "\n" ∷ []) ++ word) ++ text_of_part
    (if at_start then length word else if fits then column + 1 + length word else length word) words) ++ byte "\n" ∷ []
words_step true fits column word words begun here next = cc
words_step false true column word words begun here next = ap (λ (l : List ℕ). byte " " ∷ (word ++ l)) here
    ∙ ap (λ (l : List ℕ). byte " " ∷ l) (sym (append_assoc word (text_of_part (column + 1 + length word) words) (byte "\n" ∷ [])))
words_step false false column word words begun here next = ap (λ (l : List ℕ). byte "\n" ∷ (word ++ l)) next
    ∙ ap (λ (l : List ℕ). byte "\n" ∷ l) (sym (append_assoc word (text_of_part (length word) words) (byte "\n" ∷ [])))

pub has_begun_line : (column : ℕ) → 0 < column → (column == 0) ≡ false
has_begun_line column begun = grind (arith, nat_tests)

-- behind a line that has begun, the words that follow
words_after_are : (column : ℕ) (words : List (List ℕ)) → 0 < column → HaveBytes words → words_after column words ≡ text_of_part column words ++ byte "\n" ∷ []
words_after_are column [] begun have = refl
words_after_are column (word ∷ words) begun have =
    words_step (column == 0) (fits_in_line column word) column word words (has_begun_line column begun)
    (words_after_are (column + 1 + length word) words (omega arith) have.1) (words_after_are (length word) words have.0 have.1)

-- the text of a row is what is left of it before its first sample
pub row_text_left : (kind : Kind) (row : List ℕ) → All (λ sample. sample < 2 ^ 64) row → plain_row_text kind row ≡ text_left 0 kind row
row_text_left kind [] fit = refl
row_text_left kind (sample ∷ row) fit =
    let have : HaveBytes (sample_texts kind (sample ∷ row)) = samples_have_texts kind (sample ∷ row) fit in
    let word : List ℕ = sample_text kind sample in
    let words : List (List ℕ) = sample_texts kind row in
    ap (λ (l : List ℕ). word ++ l) (words_after_are (length word) words have.0 have.1)
    ∙ sym (append_assoc word (text_of_part (length word) words) (byte "\n" ∷ []))

-- ---- one sample more

-- the texts of one sample more
texts_more : (kind : Kind) (samples : List ℕ) (i : ℕ) {sample : ℕ} → i < length samples → sample ≡ get_or samples i 0
    → sample_texts kind (take (i + 1) samples) ≡ sample_texts kind (take i samples) ++ sample_text kind sample ∷ []
texts_more kind samples i below is =
    ap (sample_texts kind) (take_more samples i 0 below)
    ∙ map-append (sample_text kind) (take i samples) (get_or samples i 0 ∷ [])
    ∙ ap (λ (n : ℕ). sample_texts kind (take i samples) ++ sample_text kind n ∷ []) (sym is)

pub text_more : (column : ℕ) (kind : Kind) (samples : List ℕ) (i : ℕ) {sample at : ℕ} {buffer new : List ℕ} → i < length samples
    → sample ≡ get_or samples i 0 → buffer ≡ text_of_part column (sample_texts kind (take i samples))
    → at ≡ column_after_part column (sample_texts kind (take i samples)) → new ≡ buffer ++ word_in_line at (sample_text kind sample)
    → new ≡ text_of_part column (sample_texts kind (take (i + 1) samples))
text_more column kind samples i {sample} below is known here added =
    let words : List (List ℕ) = sample_texts kind (take i samples) in
    let word : List ℕ = sample_text kind sample in
    added
    ∙ ap₂ (λ (l : List ℕ) (n : ℕ). l ++ word_in_line n word) known here
    ∙ ap (λ (l : List ℕ). text_of_part column words ++ l) (sym (append-nil (word_in_line (column_after_part column words) word)))
    ∙ sym (text_of_part-append column words (word ∷ []))
    ∙ ap (text_of_part column) (sym (texts_more kind samples i below is))

pub column_more : (column : ℕ) (kind : Kind) (samples : List ℕ) (i : ℕ) {sample at new : ℕ} → i < length samples → sample ≡ get_or samples i 0
    → at ≡ column_after_part column (sample_texts kind (take i samples)) → new ≡ column_after at (sample_text kind sample)
    → new ≡ column_after_part column (sample_texts kind (take (i + 1) samples))
column_more column kind samples i {sample} below is here after =
    after
    ∙ ap (λ (n : ℕ). column_after n (sample_text kind sample)) here
    ∙ sym (column_after_part-append column (sample_texts kind (take i samples)) (sample_text kind sample ∷ []))
    ∙ ap (column_after_part column) (sym (texts_more kind samples i below is))

-- ---- numbers

-- numbers of a width are within a range
pub numbers_fit : (xs : List ℕ) → ((k : ℕ) → get_or xs k 0 < 2 ^ 64) → All (λ sample. sample < 2 ^ 64) xs
numbers_fit [] fits = All-nil (λ sample. sample < 2 ^ 64)
numbers_fit (x ∷ xs) fits = All-cons (λ sample. sample < 2 ^ 64) x xs (fits 0) (numbers_fit xs (λ k. fits (suc k)))

-- what is left of a row of numbers is the part that is written now, and the rest
pub part_of_numbers : (column n : ℕ) (rest : List ℕ) {part after set written : List ℕ} {then_column : ℕ} {is_end : Bool} → n ≤ length rest → 0 < length rest
    → part ≡ take n rest → after ≡ drop n rest → set ≡ text_of_part column (sample_texts Gray part)
    → then_column ≡ column_after_part column (sample_texts Gray part) → is_end ≡ (length after == 0) → written ≡ set ++ row_end is_end
    → text_left column Gray rest ≡ written ++ text_left then_column Gray after
part_of_numbers column n rest {after} {then_column} {is_end} within some prefix back text column_is ends whole =
    let left : length after ≡ length rest - n = ap length back ∙ length-drop n rest in
    left_part column Gray n rest is_end within some (λ e. ends ∙ is_nothing (length after) (omega arith))
    (λ h. ends ∙ has_begun_line (length after) (omega arith))
    ∙ ap (λ (l : List ℕ). (text_of_part column (sample_texts Gray l) ++ row_end is_end) ++ text_left (column_after_part column (sample_texts Gray l)) Gray
    (drop n rest)) (sym prefix)
    ∙ ap₂ (λ (l : List ℕ) (k : ℕ). (l ++ row_end is_end) ++ text_left k Gray (drop n rest)) (sym text) (sym column_is)
    ∙ ap₂ (λ (l m : List ℕ). l ++ text_left then_column Gray m) (sym whole) (sym back)
  where
    is_nothing : (n : ℕ) → n ≡ 0 → (n == 0) ≡ true
    is_nothing n e = grind (arith, nat_tests)

pub some_left : (n : ℕ) {is_nothing : Bool} → is_nothing ≡ (n == 0) → is_nothing ≡ false → 0 < n
some_left n e f = some_by n (sym e ∙ f)
  where
    some_by : (n : ℕ) → (n == 0) ≡ false → 0 < n
    some_by n h = grind (arith, nat_tests)

-- a row of numbers has the same text in each kind that is not pixels
pub row_of_numbers : (kind : Kind) {numbers samples : List ℕ} → (kind ≡ Bit → ⊥) → numbers ≡ samples
    → plain_row_text Gray numbers ≡ plain_row_text kind samples
row_of_numbers Bit is same = absurd (is refl)
row_of_numbers Gray is same = ap (plain_row_text Gray) same
row_of_numbers Color is same = ap (plain_row_text Gray) same
row_of_numbers Pam is same = ap (plain_row_text Gray) same
