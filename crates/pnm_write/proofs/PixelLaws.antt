-- The text of a plain row of PBM: line by line, and a buffer that it is put into.
use Rattle.pnm_write.proofs.Words.{◌≡◌, ℕ, zero, suc, ◌+◌, ◌-◌, ◌*◌, ◌/◌, ◌%◌, ◌^◌, ◌<◌, ◌≤◌, ◌&&◌, nat_le, min, if◌then◌else◌, Bool, true, false, List, []}
use Rattle.pnm_write.proofs.Words.{◌∷◌, ◌++◌, length, take, drop, set, get_or, refl, sym, ap, ap₂, ◌∙◌, append_assoc, length-append, inl, inr, arith, flat_map}
use Rattle.pnm_write.proofs.Words.{take-set-lt, take-add, cases_lt, nat_tests, flat_map-append, take-append-drop, take_all, drop_all, take_more, length-take}
use Rattle.pnm_write.proofs.Words.{length-drop, drop-drop, take-take, all_pixels, length-all_pixels, all_pixels-push, take-all_pixels, drop-all_pixels, Bit}
use Rattle.pnm_write.proofs.Words.{byte, max_line_length, words_after, plain_row_text, sample_texts, cell, cells, nibble_cells}
use Rattle.std.proofs.Common.{append-nil}
use Rattle.pnm_samples.specs.Pixels.{pixels}
use Rattle.pnm_write.proofs.NumeralLaws.{set_behind}
use Rattle.pnm_write.proofs.EntryLaws.{are_same, same, and_parts}

-- ---- the table

abbrev pub are_nibbles : ℕ → ℕ → List ℕ → Bool
are_nibbles zero bits table = true
are_nibbles (suc count) bits table = are_same (take 8 table) (nibble_cells bits) && are_nibbles count (bits + 1) (drop 8 table)

nibble_at : (count bits k : ℕ) (table : List ℕ) → are_nibbles count bits table ≡ true → k < count → take 8 (drop (8 * k) table) ≡ nibble_cells (bits + k)
nibble_at zero bits k table e below = absurd (omega arith)
nibble_at (suc count) bits zero table e below =
    same (take 8 table) (nibble_cells bits) (and_parts (are_same (take 8 table) (nibble_cells bits)) (are_nibbles count (bits + 1) (drop 8 table)) e).0
    ∙ ap nibble_cells (omega arith)
nibble_at (suc count) bits (suc k) table e below =
    let place : drop (8 * suc k) table ≡ drop (8 * k) (drop 8 table) = ap (λ (n : ℕ). drop n table) (omega arith) ∙ sym (drop-drop (8 * k) 8 table) in
    ap (take 8) place
    ∙ nibble_at count (bits + 1) k (drop 8 table) (and_parts (are_same (take 8 table) (nibble_cells bits)) (are_nibbles count (bits + 1) (drop 8 table)) e).1
    (omega arith)
    ∙ ap nibble_cells (omega arith)

pub nibble_is : (bits : ℕ) (table : List ℕ) → are_nibbles 16 0 table ≡ true → bits < 16 → take (8 * bits + 8 - 8 * bits) (drop (8 * bits) table)
    ≡ nibble_cells bits
nibble_is bits table e below =
    let size : 8 * bits + 8 - 8 * bits ≡ 8 = omega arith in
    ap (λ (n : ℕ). take n (drop (8 * bits) table)) size ∙ nibble_at 16 0 bits table e below ∙ ap nibble_cells (omega arith)

-- ---- the characters of a byte

character : (a b : ℕ) → a ≡ b → 49 - (1 - a % 2) ≡ 48 + b % 2
character a b e = omega arith

-- those of its first four pixels, and of the others
pub byte_cells : (b : ℕ) → b < 256 → cells (pixels b) ≡ nibble_cells (b / 16) ++ nibble_cells (b % 16)
unfolding pixels
byte_cells b small =
    let c7 = character (b / 2 ^ 7) (b / 16 / 8) (omega arith) in
    let c6 = character (b / 2 ^ 6) (b / 16 / 4) (omega arith) in
    let c5 = character (b / 2 ^ 5) (b / 16 / 2) (omega arith) in
    let c4 = character (b / 2 ^ 4) (b / 16) (omega arith) in
    let c3 : 49 - (1 - b / 2 ^ 3 % 2) ≡ 48 + b % 16 / 8 % 2 = omega arith in
    let c2 : 49 - (1 - b / 2 ^ 2 % 2) ≡ 48 + b % 16 / 4 % 2 = omega arith in
    let c1 : 49 - (1 - b / 2 ^ 1 % 2) ≡ 48 + b % 16 / 2 % 2 = omega arith in
    let c0 : 49 - (1 - b / 2 ^ 0 % 2) ≡ 48 + b % 16 % 2 = omega arith in
    cc

pub nibble_is_put : (buffer half new : List ℕ) {cells' : List ℕ} (at bits : ℕ) → cells' ≡ nibble_cells bits
    → take (at + 4) half ≡ take at buffer ++ take 4 cells' → take (at + 4 + 4) new ≡ take (at + 4) half ++ take 4 (drop 4 cells')
    → take (at + 8) new ≡ take at buffer ++ nibble_cells bits
nibble_is_put buffer half new at bits is first second =
    ap (λ (n : ℕ). take n new) (omega arith)
    ∙ second
    ∙ ap₂ (λ (a b : List ℕ). a ++ take 4 (drop 4 b)) (first ∙ ap (λ (l : List ℕ). take at buffer ++ take 4 l) is) is
    ∙ append_assoc (take at buffer) (take 4 (nibble_cells bits)) (drop 4 (nibble_cells bits))

pub byte_is_put : (buffer half new : List ℕ) (at b : ℕ) → b < 256 → take (at + 8) half ≡ take at buffer ++ nibble_cells (b / 16)
    → take (at + 8 + 8) new ≡ take (at + 8) half ++ nibble_cells (b % 16) → take (at + 16) new ≡ take at buffer ++ cells (pixels b)
byte_is_put buffer half new at b small first second =
    ap (λ (n : ℕ). take n new) (omega arith)
    ∙ second
    ∙ ap (λ (l : List ℕ). l ++ nibble_cells (b % 16)) first
    ∙ append_assoc (take at buffer) (nibble_cells (b / 16)) (nibble_cells (b % 16))
    ∙ ap (λ (l : List ℕ). take at buffer ++ l) (sym (byte_cells b small))

pub cells_more : (buffer new bytes : List ℕ) (i : ℕ) {b : ℕ} → i < length bytes → b ≡ get_or bytes i 0
    → take (16 * i) buffer ≡ cells (all_pixels (take i bytes)) → take (16 * i + 16) new ≡ take (16 * i) buffer ++ cells (pixels b)
    → take (16 * (i + 1)) new ≡ cells (all_pixels (take (i + 1) bytes))
cells_more buffer new bytes i {b} below is known added =
    ap (λ (n : ℕ). take n new) (omega arith)
    ∙ added
    ∙ ap (λ (l : List ℕ). l ++ cells (pixels b)) known
    ∙ sym (flat_map-append cell (all_pixels (take i bytes)) (pixels b))
    ∙ ap cells (sym (all_pixels-push (take i bytes) b))
    ∙ ap (λ (n : ℕ). cells (all_pixels (take i bytes ++ n ∷ []))) is
    ∙ ap (λ (l : List ℕ). cells (all_pixels l)) (sym (take_more bytes i 0 below))

-- ---- lines

-- pixels behind others, in their line
abbrev behind : List ℕ → List ℕ
behind samples = flat_map (λ sample. byte " " ∷ (49 - sample) ∷ []) samples

length-behind : (samples : List ℕ) → length (behind samples) ≡ 2 * length samples
length-behind [] = refl
length-behind (sample ∷ samples) = omega (arith, length-behind samples)

length-cells : (samples : List ℕ) → length (cells samples) ≡ 2 * length samples
length-cells [] = refl
length-cells (sample ∷ samples) = omega (arith, length-cells samples)

-- the characters of pixels, a blank before each or behind each
shifted : (samples : List ℕ) → byte " " ∷ cells samples ≡ behind samples ++ byte " " ∷ []
shifted [] = refl
shifted (sample ∷ samples) = ap (λ (l : List ℕ). byte " " ∷ (49 - sample) ∷ l) (shifted samples)

le_is : (a b : ℕ) → a ≤ b → nat_le a b ≡ true
le_is a b h = grind (arith, nat_tests)

le_is_not : (a b : ℕ) → b < a → nat_le a b ≡ false
le_is_not a b h = grind (arith, nat_tests)

-- pixels for which the line has room
stand_here : (column : ℕ) (samples more : List ℕ) → column + 2 * length samples ≤ 70 → words_after column (sample_texts Bit (samples ++ more)) ≡ behind samples
    ++ words_after (column + 2 * length samples) (sample_texts Bit more)
stand_here column [] more short = ap (λ (n : ℕ). words_after n (sample_texts Bit more)) (omega arith)
stand_here column (sample ∷ samples) more short =
    let buffer : nat_le (column + 1 + 1) max_line_length ≡ true = le_is (column + 1 + 1) max_line_length (omega arith) in
    let same_column : column + 1 + 1 + 2 * length samples ≡ column + 2 * length (sample ∷ samples) = omega arith in
    ap (λ (b : Bool). if b then byte " " ∷ (((49 - sample) ∷ []) ++ words_after (column + 1 + 1) (sample_texts Bit (samples ++ more))) else byte "\n"
    ∷ (((49 - sample) ∷ []) ++ words_after 1 (sample_texts Bit (samples ++ more)))) buffer
    ∙ ap (λ (l : List ℕ). byte " " ∷ (49 - sample) ∷ l) (stand_here (column + 1 + 1) samples more (omega arith))
    ∙ ap (λ (n : ℕ). byte " " ∷ (49 - sample) ∷ (behind samples ++ words_after n (sample_texts Bit more))) same_column

-- a pixel for which it hasn't
stands_next : (column sample : ℕ) (more : List ℕ) → 68 < column → words_after column (sample_texts Bit (sample ∷ more)) ≡ byte "\n" ∷ plain_row_text Bit
    (sample ∷ more)
stands_next column sample more full =
    ap (λ (b : Bool). if b then byte " " ∷ (((49 - sample) ∷ []) ++ words_after (column + 1 + 1) (sample_texts Bit more)) else byte "\n"
    ∷ (((49 - sample) ∷ []) ++ words_after 1 (sample_texts Bit more))) (le_is_not (column + 1 + 1) max_line_length (omega arith))

-- a line of pixels
line_of : (sample : ℕ) (samples : List ℕ) → length samples ≤ 34 → plain_row_text Bit (sample ∷ samples) ≡ ((49 - sample) ∷ behind samples) ++ byte "\n" ∷ []
line_of sample samples short =
    ap (λ (l : List ℕ). (49 - sample) ∷ words_after 1 (sample_texts Bit l)) (sym (append-nil samples))
    ∙ ap (λ (l : List ℕ). (49 - sample) ∷ l) (stand_here 1 samples [] (omega arith))

-- a whole line, and what follows it
first_line : (line more : List ℕ) → length line ≡ 35 → plain_row_text Bit (line ++ more) ≡ plain_row_text Bit line ++ plain_row_text Bit more
first_line line [] whole = ap (plain_row_text Bit) (append-nil line) ∙ sym (append-nil (plain_row_text Bit line))
first_line [] (sample ∷ more) whole = absurd (omega (arith, whole))
first_line (first ∷ line) (sample ∷ more) whole =
    let count : length line ≡ 34 = omega arith in
    ap (λ (l : List ℕ). (49 - first) ∷ l) (stand_here 1 line (sample ∷ more) (omega arith))
    ∙ ap (λ (l : List ℕ). (49 - first) ∷ (behind line ++ l)) (stands_next (1 + 2 * length line) sample more (omega arith))
    ∙ ap (λ (l : List ℕ). (49 - first) ∷ l) (sym (append_assoc (behind line) (byte "\n" ∷ []) (plain_row_text Bit (sample ∷ more))))
    ∙ ap (λ (l : List ℕ). l ++ plain_row_text Bit (sample ∷ more)) (sym (line_of first line (omega arith)))

-- whole lines, and what follows them
pub whole_lines : (k : ℕ) (prefix more : List ℕ) → length prefix ≡ 35 * k → plain_row_text Bit (prefix ++ more) ≡ plain_row_text Bit prefix
    ++ plain_row_text Bit more
whole_lines zero [] more whole = refl
whole_lines zero (sample ∷ prefix) more whole = absurd (omega (arith, whole))
whole_lines (suc k) prefix more whole =
    let line : List ℕ = take 35 prefix in
    let others : List ℕ = drop 35 prefix in
    let one : length line ≡ 35 = omega (arith, length-take 35 prefix) in
    let rest : length others ≡ 35 * k = omega (arith, length-drop 35 prefix) in
    let parts : prefix ≡ line ++ others = sym (take-append-drop 35 prefix) in
    ap (λ (l : List ℕ). plain_row_text Bit (l ++ more)) parts
    ∙ ap (plain_row_text Bit) (append_assoc line others more)
    ∙ first_line line (others ++ more) one
    ∙ ap (λ (l : List ℕ). plain_row_text Bit line ++ l) (whole_lines k others more rest)
    ∙ sym (append_assoc (plain_row_text Bit line) (plain_row_text Bit others) (plain_row_text Bit more))
    ∙ ap (λ (l : List ℕ). l ++ plain_row_text Bit more) (sym (first_line line others one) ∙ ap (plain_row_text Bit) (sym parts))

-- ---- the LFs

-- the last byte of a line's characters becomes its LF
line_ends : (prefix line more : List ℕ) → 0 < length line → length line ≤ 35
    → set (prefix ++ (cells line ++ more)) (length prefix + 2 * length line - 1) (byte "\n") ≡ prefix ++ (plain_row_text Bit line ++ more)
line_ends prefix [] more some short = absurd (omega (arith, some))
line_ends prefix (sample ∷ line) more some short =
    let text : List ℕ = (49 - sample) ∷ behind line in
    let before : List ℕ = prefix ++ text in
    let place : length prefix + 2 * length (sample ∷ line) - 1 ≡ length before = omega (arith, length-append prefix text, length-behind line) in
    let held : prefix ++ (cells (sample ∷ line) ++ more) ≡ before ++ byte " " ∷ more =
    ap (λ (l : List ℕ). prefix ++ (((49 - sample) ∷ l) ++ more)) (shifted line)
    ∙ ap (λ (l : List ℕ). prefix ++ l) (append_assoc text (byte " " ∷ []) more)
    ∙ sym (append_assoc prefix text (byte " " ∷ more)) in
    ap₂ (λ (l : List ℕ) (n : ℕ). set l n (byte "\n")) held place
    ∙ set_behind before (byte " ") more
    ∙ append_assoc prefix text (byte "\n" ∷ more)
    ∙ ap (λ (l : List ℕ). prefix ++ l) (sym (append_assoc text (byte "\n" ∷ []) more))
    ∙ ap (λ (l : List ℕ). prefix ++ (l ++ more)) (sym (line_of sample line (omega arith)))

-- one line more is ended
pub line_more : (buffer xs : List ℕ) {count : ℕ} (done : ℕ) {next : ℕ} → length xs ≡ count → 2 * count ≤ length buffer → done < count
    → next ≡ min (done + 35) count → done % 35 ≡ 0 → take (2 * count) buffer ≡ plain_row_text Bit (take done xs) ++ cells (drop done xs) → take (2 * count)
    (set buffer (2 * next - 1) (byte "\n")) ≡ plain_row_text Bit (take next xs) ++ cells (drop next xs)
line_more buffer xs {count} done {next} size within below next_is whole known =
    let prefix : List ℕ = plain_row_text Bit (take done xs) in
    let rest : List ℕ = drop done xs in
    let line : List ℕ = take (next - done) rest in
    let others : List ℕ = drop (next - done) rest in
    let left : length rest ≡ count - done = omega (arith, length-drop done xs) in
    let some : length line ≡ next - done = omega (arith, length-take (next - done) rest) in
    let parts : rest ≡ line ++ others = sym (take-append-drop (next - done) rest) in
    let long : length prefix ≡ 2 * done =
    omega (arith, ap length known, length-append prefix (cells rest), length-cells rest, length-take (2 * count) buffer) in
    let after : others ≡ drop next xs = drop-drop (next - done) done xs ∙ ap (λ (n : ℕ). drop n xs) (omega arith) in
    let before : take next xs ≡ take done xs ++ line = ap (λ (n : ℕ). take n xs) (omega arith) ∙ take-add done (next - done) xs in
    take-set-lt (2 * count) buffer (2 * next - 1) (byte "\n") (omega arith)
    ∙ ap (λ (l : List ℕ). set l (2 * next - 1) (byte "\n")) (known ∙ ap (λ (l : List ℕ). prefix ++ cells l) parts
    ∙ ap (λ (l : List ℕ). prefix ++ l) (flat_map-append cell line others))
    ∙ ap (λ (n : ℕ). set (prefix ++ (cells line ++ cells others)) n (byte "\n")) (omega arith)
    ∙ line_ends prefix line (cells others) (omega arith) (omega arith)
    ∙ sym (append_assoc prefix (plain_row_text Bit line) (cells others))
    ∙ ap (λ (l : List ℕ). l ++ cells others) (sym (whole_lines (done / 35) (take done xs) line (omega (arith, length-take done xs))))
    ∙ ap₂ (λ (l m : List ℕ). plain_row_text Bit l ++ cells m) (sym before) after

-- ---- a row

take-cells : (n : ℕ) (samples : List ℕ) → take (2 * n) (cells samples) ≡ cells (take n samples)
take-cells zero samples = refl
take-cells (suc n) [] = take_all (2 * suc n) [] (omega arith)
take-cells (suc n) (sample ∷ samples) =
    ap (λ (k : ℕ). take k (cells (sample ∷ samples))) (two_more n) ∙ ap (λ (l : List ℕ). (49 - sample) ∷ byte " " ∷ l) (take-cells n samples)
  where
    two_more : (n : ℕ) → 2 * suc n ≡ suc (suc (2 * n))
    two_more n = omega arith

-- the characters of so many pixels
pub cells_of_count : (buffer bytes : List ℕ) (count : ℕ) → count ≤ 8 * length bytes → take (16 * length bytes) buffer ≡ cells (all_pixels bytes)
    → take (2 * count) buffer ≡ cells (take count (all_pixels bytes))
cells_of_count buffer bytes count enough known =
    sym (take-take (2 * count) (16 * length bytes) buffer (omega arith)) ∙ ap (take (2 * count)) known ∙ take-cells count (all_pixels bytes)

-- all lines are ended
pub all_ended : (buffer xs : List ℕ) {count : ℕ} (done : ℕ) → length xs ≡ count → count ≤ done
    → take (2 * count) buffer ≡ plain_row_text Bit (take done xs) ++ cells (drop done xs) → take (2 * count) buffer ≡ plain_row_text Bit xs
all_ended buffer xs done size all known = known ∙ ap₂ (λ (l m : List ℕ). plain_row_text Bit l ++ cells m) (take_all done xs (omega arith))
    (drop_all done xs (omega arith)) ∙ append-nil (plain_row_text Bit xs)

pub count_of : (bytes : List ℕ) (count : ℕ) → count ≤ 8 * length bytes → length (take count (all_pixels bytes)) ≡ count
count_of bytes count enough = omega (arith, length-take count (all_pixels bytes), length-all_pixels bytes)

-- a part of a row of whole bytes and whole lines, and what is left
pub pixels_split : (rest part after : List ℕ) (left count : ℕ) → left ≤ 8 * length rest → count ≡ min left 1960 → part ≡ take ((count + 7) / 8) rest
    → after ≡ drop ((count + 7) / 8) rest
    → plain_row_text Bit (take left (all_pixels rest)) ≡ plain_row_text Bit (take count (all_pixels part)) ++ plain_row_text Bit
    (take (left - count) (all_pixels after))
pixels_split rest part after left count enough count_is prefix back = elim (cases_lt 1960 left) [
  | inl more ↦
      let whole : count ≡ 1960 = omega arith in
      let bytes : (count + 7) / 8 ≡ 245 = omega arith in
      let many : 1960 ≡ 8 * 245 = refl in
      let line : List ℕ = take 1960 (all_pixels rest) in
      let long : length line ≡ 35 * 56 = omega (arith, length-take 1960 (all_pixels rest), length-all_pixels rest) in
      let here : line ≡ take count (all_pixels part) =
      take-all_pixels 245 rest ∙ ap (λ (n : ℕ). all_pixels (take n rest)) (sym bytes) ∙ ap all_pixels (sym prefix)
      ∙ sym (take_all count (all_pixels part) (omega (arith, length-all_pixels part, ap length prefix, length-take ((count + 7) / 8) rest))) in
      let there : drop 1960 (all_pixels rest) ≡ all_pixels after = drop-all_pixels 245 rest ∙ ap (λ (n : ℕ). all_pixels (drop n rest)) (sym bytes)
      ∙ ap all_pixels (sym back) in
      let sum : left ≡ 1960 + (left - count) = omega arith in
      ap (λ (n : ℕ). plain_row_text Bit (take n (all_pixels rest))) sum
      ∙ ap (plain_row_text Bit) (take-add 1960 (left - count) (all_pixels rest))
      ∙ whole_lines 56 line (take (left - count) (drop 1960 (all_pixels rest))) long
      ∙ ap₂ (λ (l m : List ℕ). plain_row_text Bit l ++ plain_row_text Bit (take (left - count) m)) here there
  | inr less ↦
      let all : count ≡ left = omega arith in
      let none : left - count ≡ 0 = omega arith in
      let bytes : ℕ = (count + 7) / 8 in
      let here : take left (all_pixels rest) ≡ take count (all_pixels part) =
      ap (λ (n : ℕ). take n (all_pixels rest)) (sym all) ∙ sym (take-take count (8 * bytes) (all_pixels rest) (omega arith))
      ∙ ap (take count) (take-all_pixels bytes rest ∙ ap all_pixels (sym prefix)) in
      ap (plain_row_text Bit) here ∙ sym (append-nil (plain_row_text Bit (take count (all_pixels part))))
      ∙ ap (λ (n : ℕ). plain_row_text Bit (take count (all_pixels part)) ++ plain_row_text Bit (take n (all_pixels after))) (sym none)
]
