-- The text of a number that is put into a buffer.
use Rattle.pnm_write.proofs.Words.{◌≡◌, ℕ, ◌+◌, ◌-◌, ◌/◌, ◌%◌, ◌<◌, ◌≤◌, ◌==◌, nat_le, if◌then◌else◌, Bool, true, false, List, [], ◌∷◌, ◌++◌, length, take}
use Rattle.pnm_write.proofs.Words.{drop, set, get_or, decimal, refl, sym, ap, ap₂, ◌∙◌, append_assoc, length-append, arith, take-append-add, take-set-lt}
use Rattle.pnm_write.proofs.Words.{take-append-le, get_or-drop, take_all, take_more_set, take-take, length-take, length-drop, drop-drop, length-set}
use Rattle.pnm_write.proofs.Words.{decimal_step, decimal_digit, length-decimal-le, Gray, byte, max_line_length, fits_in_line, column_after, word_in_line}
use Rattle.pnm_write.proofs.Words.{text_of_part, column_after_part, sample_texts, IsEntry, three_digits}
use Rattle.std.proofs.Common.{append-nil}
use Rattle.pnm_write.proofs.PlainLaws.{has_begun_line, text_more}

-- ---- the digits of a number

-- the last three digits, and those before them
pub decimal_split : (n : ℕ) → 1000 ≤ n → n < 65536 → decimal n ≡ decimal (n / 1000) ++ three_digits (n % 1000)
decimal_split n large small =
    let hundreds : n / 10 / 10 % 10 ≡ n % 1000 / 100 % 10 = omega arith in
    let tens : n / 10 % 10 ≡ n % 1000 / 10 % 10 = omega arith in
    let ones : n % 10 ≡ n % 1000 % 10 = omega arith in
    let prefix : n / 10 / 10 / 10 ≡ n / 1000 = omega arith in
    decimal_step n (omega arith) (omega arith)
    ∙ ap (λ (l : List ℕ). l ++ (48 + n % 10) ∷ []) (decimal_step (n / 10) (omega arith) (omega arith))
    ∙ ap (λ (l : List ℕ). (l ++ (48 + n / 10 % 10) ∷ []) ++ (48 + n % 10) ∷ []) (decimal_step (n / 10 / 10) (omega arith) (omega arith))
    ∙ append_assoc (decimal (n / 10 / 10 / 10) ++ (48 + n / 10 / 10 % 10) ∷ []) ((48 + n / 10 % 10) ∷ []) ((48 + n % 10) ∷ [])
    ∙ append_assoc (decimal (n / 10 / 10 / 10)) ((48 + n / 10 / 10 % 10) ∷ []) ((48 + n / 10 % 10) ∷ (48 + n % 10) ∷ [])
    ∙ ap (λ (k : ℕ). decimal k ++ (48 + n / 10 / 10 % 10) ∷ (48 + n / 10 % 10) ∷ (48 + n % 10) ∷ []) prefix
    ∙ ap₂ (λ (a b : ℕ). decimal (n / 1000) ++ (48 + a) ∷ (48 + b) ∷ (48 + n % 10) ∷ []) hundreds tens
    ∙ ap (λ (a : ℕ). decimal (n / 1000) ++ (48 + n % 1000 / 100 % 10) ∷ (48 + n % 1000 / 10 % 10) ∷ (48 + a) ∷ []) ones

-- a number of three digits
pub decimal_three : (n : ℕ) → 100 ≤ n → n < 1000 → decimal n ≡ three_digits n
decimal_three n large small =
    let hundreds : n / 10 / 10 ≡ n / 100 % 10 = omega arith in
    decimal_step n (omega arith) (omega arith)
    ∙ ap (λ (l : List ℕ). l ++ (48 + n % 10) ∷ []) (decimal_step (n / 10) (omega arith) (omega arith))
    ∙ ap (λ (l : List ℕ). (l ++ (48 + n / 10 % 10) ∷ []) ++ (48 + n % 10) ∷ []) (decimal_digit (n / 10 / 10) (omega arith))
    ∙ ap (λ (a : ℕ). (48 + a) ∷ (48 + n / 10 % 10) ∷ (48 + n % 10) ∷ []) hundreds

-- ---- bytes that are put into a buffer

-- what a buffer has through bytes that were put there
pub take_put_prefix : (buffer bytes after : List ℕ) (at count : ℕ) → at ≤ length buffer → count ≤ length bytes
    → take (at + count) (take at buffer ++ (bytes ++ after)) ≡ take at buffer ++ take count bytes
take_put_prefix buffer bytes after at count within enough =
    let long : length (take at buffer) ≡ at = omega (arith, length-take at buffer) in
    ap (λ (n : ℕ). take (n + count) (take at buffer ++ (bytes ++ after))) (sym long)
    ∙ take-append-add (take at buffer) (bytes ++ after) count
    ∙ ap (λ (l : List ℕ). take at buffer ++ l) (take-append-le count bytes after enough)

-- four bytes, one after the other
pub four_are_put : (buffer bytes : List ℕ) (at : ℕ) → at + 4 ≤ length buffer → 4 ≤ length bytes
    → take (at + 4) (set (set (set (set buffer at (get_or bytes 0 0)) (at + 1) (get_or bytes 1 0)) (at + 2) (get_or bytes 2 0)) (at + 3) (get_or bytes 3 0))
    ≡ take at buffer ++ take 4 bytes
four_are_put buffer (a ∷ b ∷ c ∷ d ∷ bytes) at within enough =
    let one : List ℕ = set buffer at a in
    let two : List ℕ = set one (at + 1) b in
    let three : List ℕ = set two (at + 2) c in
    let long_one : length one ≡ length buffer = length-set buffer at a in
    let long_two : length two ≡ length buffer = length-set one (at + 1) b ∙ long_one in
    let long_three : length three ≡ length buffer = length-set two (at + 2) c ∙ long_two in
    next three d (at + 3) (at + 4) (omega arith) (omega arith)
    ∙ ap (λ (l : List ℕ). l ++ d ∷ []) (next two c (at + 2) (at + 3) (omega arith) (omega arith)
    ∙ ap (λ (l : List ℕ). l ++ c ∷ []) (next one b (at + 1) (at + 2) (omega arith) (omega arith)
    ∙ ap (λ (l : List ℕ). l ++ b ∷ []) (next buffer a at (at + 1) (omega arith) (omega arith))))
    ∙ append_assoc ((take at buffer ++ a ∷ []) ++ b ∷ []) (c ∷ []) (d ∷ [])
    ∙ append_assoc (take at buffer ++ a ∷ []) (b ∷ []) (c ∷ d ∷ [])
    ∙ append_assoc (take at buffer) (a ∷ []) (b ∷ c ∷ d ∷ [])
  where
    next : (l : List ℕ) (x i j : ℕ) → j ≡ i + 1 → i < length l → take j (set l i x) ≡ take i l ++ x ∷ []
    next l x i j e below = ap (λ (n : ℕ). take n (set l i x)) e ∙ take_more_set l i x below
four_are_put buffer [] at within enough = absurd (omega arith)
four_are_put buffer (a ∷ []) at within enough = absurd (omega arith)
four_are_put buffer (a ∷ b ∷ []) at within enough = absurd (omega arith)
four_are_put buffer (a ∷ b ∷ c ∷ []) at within enough = absurd (omega arith)

-- the prefix of an entry is a blank and the number
pub small_is_put : (buffer new : List ℕ) {entry : List ℕ} (at : ℕ) {number size : ℕ} → number < 256 → IsEntry number entry
    → size ≡ 1 + length (decimal number) → take (at + 4) new ≡ take at buffer ++ take 4 (drop 1 entry) → at ≤ length buffer
    → take (at + size) new ≡ take at buffer ++ byte " " ∷ decimal number
small_is_put buffer new {entry} at {number} {size} small is count put within =
    let digits : length (decimal number) ≤ 3 = length-decimal-le 3 number (omega arith) (omega arith) (omega arith) in
    let copied : List ℕ = take 4 (drop 1 entry) in
    let long : length copied ≡ 4 = omega (arith, length-take 4 (drop 1 entry), length-drop 1 entry, is.long) in
    sym (take-take (at + size) (at + 4) new (omega arith))
    ∙ ap (take (at + size)) (put ∙ ap (λ (l : List ℕ). take at buffer ++ l) (sym (append-nil copied)))
    ∙ take_put_prefix buffer copied [] at size within (omega arith)
    ∙ ap (λ (l : List ℕ). take at buffer ++ l) (take-take size 4 (drop 1 entry) (omega arith) ∙ ap (λ (n : ℕ). take n (drop 1 entry)) count ∙ is.text)

-- the end of the entry of a number from 100 to 199 is its last two digits
pub entry_ends : (n : ℕ) {entry : List ℕ} → n < 1000 → IsEntry (100 + n % 100) entry → drop 3 entry ≡ (48 + n / 10 % 10) ∷ (48 + n % 10) ∷ []
entry_ends n {entry} small is =
    let number : ℕ = 100 + n % 100 in
    let digits : decimal number ≡ three_digits number = decimal_three number (omega arith) (omega arith) in
    let long : length (drop 1 entry) ≡ 4 = omega (arith, length-drop 1 entry, is.long) in
    let count : 1 + length (decimal number) ≡ 4 = ap (λ (l : List ℕ). 1 + length l) digits in
    let whole : drop 1 entry ≡ byte " " ∷ three_digits number =
    sym (take_all 4 (drop 1 entry) (omega arith))
    ∙ ap (λ (k : ℕ). take k (drop 1 entry)) (sym count)
    ∙ is.text ∙ ap (λ (l : List ℕ). byte " " ∷ l) digits in
    let tens : number / 10 % 10 ≡ n / 10 % 10 = omega arith in
    let ones : number % 10 ≡ n % 10 = omega arith in
    sym (drop-drop 2 1 entry) ∙ ap (drop 2) whole ∙ ap₂ (λ (a b : ℕ). (48 + a) ∷ (48 + b) ∷ []) tens ones

-- three digits
pub three_are_put : (buffer : List ℕ) {entry : List ℕ} (at n : ℕ) {digit : ℕ} → n < 1000 → IsEntry (100 + n % 100) entry → at + 3 ≤ length buffer
    → digit ≡ 48 + n / 100 → take (at + 3)
    (set (set (set buffer at digit) (at + 1) (get_or entry 3 0)) (at + 2) (get_or entry 4 0)) ≡ take at buffer ++ three_digits n
three_are_put buffer {entry} at n {digit} small is within first =
    let ends : drop 3 entry ≡ (48 + n / 10 % 10) ∷ (48 + n % 10) ∷ [] = entry_ends n small is in
    let tens : get_or entry 3 0 ≡ 48 + n / 10 % 10 = sym (get_or-drop 3 entry 0 0) ∙ ap (λ (l : List ℕ). get_or l 0 0) ends in
    let ones : get_or entry 4 0 ≡ 48 + n % 10 = sym (get_or-drop 3 entry 1 0) ∙ ap (λ (l : List ℕ). get_or l 1 0) ends in
    let hundreds : digit ≡ 48 + n / 100 % 10 = omega arith in
    let one : List ℕ = set buffer at digit in
    let two : List ℕ = set one (at + 1) (get_or entry 3 0) in
    let long_one : length one ≡ length buffer = length-set buffer at digit in
    let long_two : length two ≡ length buffer = length-set one (at + 1) (get_or entry 3 0) ∙ long_one in
    next two (get_or entry 4 0) (at + 2) (at + 3) (omega arith) (omega arith)
    ∙ ap (λ (l : List ℕ). l ++ get_or entry 4 0 ∷ []) (next one (get_or entry 3 0) (at + 1) (at + 2) (omega arith) (omega arith)
    ∙ ap (λ (l : List ℕ). l ++ get_or entry 3 0 ∷ []) (next buffer digit at (at + 1) (omega arith) (omega arith)))
    ∙ append_assoc (take at buffer ++ digit ∷ []) (get_or entry 3 0 ∷ []) (get_or entry 4 0 ∷ [])
    ∙ append_assoc (take at buffer) (digit ∷ []) (get_or entry 3 0 ∷ get_or entry 4 0 ∷ [])
    ∙ ap₂ (λ (d e : ℕ). take at buffer ++ digit ∷ d ∷ e ∷ []) tens ones
    ∙ ap (λ (d : ℕ). take at buffer ++ d ∷ (48 + n / 10 % 10) ∷ (48 + n % 10) ∷ []) hundreds
  where
    next : (l : List ℕ) (x i j : ℕ) → j ≡ i + 1 → i < length l → take j (set l i x) ≡ take i l ++ x ∷ []
    next l x i j e below = ap (λ (n : ℕ). take n (set l i x)) e ∙ take_more_set l i x below

-- a number of three digits behind a blank
pub three_alone : (buffer new : List ℕ) (at n : ℕ) → 256 ≤ n → n < 1000 → at < length buffer
    → take (at + 1 + 3) new ≡ take (at + 1) (set buffer at (byte " ")) ++ three_digits n → take (at + 4) new ≡ take at buffer ++ byte " " ∷ decimal n
three_alone buffer new at n large small within put =
    ap (λ (k : ℕ). take k new) (omega arith)
    ∙ put
    ∙ ap (λ (l : List ℕ). l ++ three_digits n) (take_more_set buffer at (byte " ") within)
    ∙ append_assoc (take at buffer) (byte " " ∷ []) (three_digits n)
    ∙ ap (λ (l : List ℕ). take at buffer ++ byte " " ∷ l) (sym (decimal_three n (omega arith) small))

pub three_count : (n : ℕ) → 256 ≤ n → n < 1000 → 4 ≡ 1 + length (decimal n)
three_count n large small = omega (arith, ap length (decimal_three n (omega arith) small))

-- three digits behind others
pub three_behind : (buffer small new : List ℕ) (at size n : ℕ) → 1000 ≤ n → n < 65536 → take (at + size) small ≡ take at buffer ++ byte " " ∷ decimal (n / 1000)
    → take (at + size + 3) new ≡ take (at + size) small ++ three_digits (n % 1000)
    → take (at + (size + 3)) new ≡ take at buffer ++ byte " " ∷ decimal n
three_behind buffer small new at size n large fits prefix put =
    ap (λ (k : ℕ). take k new) (omega arith)
    ∙ put
    ∙ ap (λ (l : List ℕ). l ++ three_digits (n % 1000)) prefix
    ∙ append_assoc (take at buffer) (byte " " ∷ decimal (n / 1000)) (three_digits (n % 1000))
    ∙ ap (λ (l : List ℕ). take at buffer ++ byte " " ∷ l) (sym (decimal_split n large fits))

pub behind_count : (n : ℕ) {size : ℕ} → 1000 ≤ n → n < 65536 → size ≡ 1 + length (decimal (n / 1000)) → size + 3 ≡ 1 + length (decimal n)
behind_count n large fits count = omega (arith, count, ap length (decimal_split n large fits), length-append (decimal (n / 1000)) (three_digits (n % 1000)))

pub prefix_short : (n : ℕ) → n < 65536 → length (decimal (n / 1000)) ≤ 2
prefix_short n fits = length-decimal-le 2 (n / 1000) (omega arith) (omega arith) (omega arith)

-- ---- words in a line

-- the byte behind some becomes a LF
pub set_behind : (prefix : List ℕ) (b : ℕ) (word : List ℕ) → set (prefix ++ b ∷ word) (length prefix) (byte "\n") ≡ prefix ++ byte "\n" ∷ word
set_behind [] b word = refl
set_behind (a ∷ prefix) b word = ap (λ (l : List ℕ). a ∷ l) (set_behind prefix b word)

-- what a buffer has, where the line is ended before the word that was put last, or isn't
put_word_by : (fits : Bool) (buffer : List ℕ) {at : ℕ} (prefix word : List ℕ) → at ≡ length prefix → at < length buffer
    → take (at + (1 + length word)) buffer ≡ prefix ++ byte " " ∷ word → take (at + (1 + length word))
    (if fits then buffer else set buffer at (byte "\n")) ≡ prefix ++ ((if fits then byte " " ∷ [] else byte "\n" ∷ []) ++ word)
put_word_by true buffer prefix word here within put = put
put_word_by false buffer {at} prefix word here within put =
    take-set-lt (at + (1 + length word)) buffer at (byte "\n") (omega arith)
    ∙ ap (λ (l : List ℕ). set l at (byte "\n")) put
    ∙ ap (λ (n : ℕ). set (prefix ++ byte " " ∷ word) n (byte "\n")) here
    ∙ set_behind prefix (byte " ") word

-- the separator of a word in a line that has begun
separator_by : (at_start fits : Bool) → at_start ≡ false → (if at_start then [] else if fits then byte " " ∷ [] else byte "\n" ∷ [])
    ≡ (if fits then byte " " ∷ [] else byte "\n" ∷ [])
separator_by true fits e = cc
separator_by false fits e = refl

column_by : (at_start fits : Bool) (column size : ℕ) → at_start ≡ false → (if fits then column + (1 + size) else 1 + size - 1)
    ≡ (if at_start then size else if fits then column + 1 + size else size)
column_by true fits column size e = cc
column_by false true column size e = omega arith
column_by false false column size e = omega arith

same_room : (column size : ℕ) → nat_le (column + (1 + size)) max_line_length ≡ nat_le (column + 1 + size) max_line_length
same_room column size = ap (λ (n : ℕ). nat_le n max_line_length) (omega arith)

pub word_is_put : (old put : List ℕ) {new prefix : List ℕ} (word : List ℕ) (at column : ℕ) {size : ℕ} → 0 < column → prefix ≡ take at old → at < length old
    → length put ≡ length old → size ≡ 1 + length word → take (at + size) put ≡ take at old ++ byte " " ∷ word
    → new ≡ (if nat_le (column + size) max_line_length then put else set put at (byte "\n")) → take (at + size) new ≡ prefix ++ word_in_line column word
word_is_put old put {prefix} word at column begun prefix_is within same count put_is new_is =
    let long : at ≡ length prefix = sym (ap length prefix_is ∙ omega (arith, length-take at old)) in
    let put_here : take (at + (1 + length word)) put ≡ prefix ++ byte " " ∷ word = ap (λ (n : ℕ). take (at + n) put) (sym count) ∙ put_is
    ∙ ap (λ (l : List ℕ). l ++ byte " " ∷ word) (sym prefix_is) in
    let fits : Bool = fits_in_line column word in
    ap₂ (λ (n : ℕ) (l : List ℕ). take (at + n) l) count
    (new_is ∙ ap (λ (n : ℕ). if nat_le (column + n) max_line_length then put else set put at (byte "\n")) count
    ∙ ap (λ (b : Bool). if b then put else set put at (byte "\n")) (same_room column (length word)))
    ∙ put_word_by fits put prefix word long (omega arith) put_here
    ∙ ap (λ (l : List ℕ). prefix ++ (l ++ word)) (sym (separator_by (column == 0) fits (has_begun_line column begun)))

pub column_is : (column : ℕ) {size : ℕ} (word : List ℕ) {new : ℕ} → 0 < column → size ≡ 1 + length word
    → new ≡ (if nat_le (column + size) max_line_length then column + size else size - 1) → new ≡ column_after column word
column_is column word begun count new_is =
    new_is
    ∙ ap (λ (n : ℕ). if nat_le (column + n) max_line_length then column + n else n - 1) count
    ∙ ap (λ (b : Bool). if b then column + (1 + length word) else 1 + length word - 1) (same_room column (length word))
    ∙ column_by (column == 0) (fits_in_line column word) column (length word) (has_begun_line column begun)

-- one number more
pub number_more : (start column end : ℕ) {at size : ℕ} (i : ℕ) {sample : ℕ} (initial buffer put : List ℕ) {new : List ℕ} (samples : List ℕ) → 0 < at
    → end < length buffer → length put ≡ length buffer → i < length samples → sample ≡ get_or samples i 0
    → take end buffer ≡ take start initial ++ text_of_part column (sample_texts Gray (take i samples))
    → at ≡ column_after_part column (sample_texts Gray (take i samples)) → size ≡ 1 + length (decimal sample)
    → take (end + size) put ≡ take end buffer ++ byte " " ∷ decimal sample
    → new ≡ (if nat_le (at + size) max_line_length then put else set put end (byte "\n"))
    → take (end + size) new ≡ take start initial ++ text_of_part column (sample_texts Gray (take (i + 1) samples))
number_more start column end {at} i {sample} initial buffer put samples begun within same below is known here count put_is new_is =
    let prefix : List ℕ = text_of_part column (sample_texts Gray (take i samples)) in
    word_is_put buffer put (decimal sample) end at begun refl within same count put_is new_is
    ∙ ap (λ (l : List ℕ). l ++ word_in_line at (decimal sample)) known
    ∙ append_assoc (take start initial) prefix (word_in_line at (decimal sample))
    ∙ ap (λ (l : List ℕ). take start initial ++ l) (text_more column Gray samples i below is refl here refl)
