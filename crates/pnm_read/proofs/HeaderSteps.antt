-- The scanner of a header, byte by byte.
use Rattle.pnm_read.proofs.Words.{◌≡◌, ◌⊎◌, inl, inr, ℕ, ◌+◌, ◌-◌, ◌*◌, ◌<◌, ◌≤◌, Bool, true, false, not, ◌&&◌, ◌||◌, ◌==◌, List, [], ◌∷◌, ◌++◌, length, map}
use Rattle.pnm_read.proofs.Words.{drop, refl, sym, ap, subst, ◌∙◌, arith, nat_le, slice_index, AllPass, eqb-true, eqb-false, and_right, nat_tests}
use Rattle.pnm_read.proofs.Words.{length-append, get_or-drop, drop_all, All-nil, ScanStatus, GoesOn, EndsWith, EndsBefore, Fails, HeaderScanner, is_apart}
use Rattle.pnm_read.proofs.Words.{commented, ends_in_comment, numbers_in, is_white, is_digit, header_limit, is_bad_in_header, is_delimiter, header_item}
use Rattle.pnm_read.proofs.Words.{JudgesByte, saturate_u32, with_digit, IsHeaderFresh, IsHeaderAfter, IsHeaderWhole, JudgesHeader, PushesHeader}
use Rattle.pnm_read.proofs.Words.{is_numeral_byte, numbers_with_digit}
use Rattle.pnm_read.specs.HeaderTexts.{ends_by, uncommented_from}
use Rattle.pnm_image.specs.Texts.{words}
use Rattle.pnm_read.proofs.CommentLaws.{commented_after-push}
use Rattle.pnm_read.proofs.WordLaws.{uncommented-comment, numbers-white, numbers-comment, numbers-first, numbers-next, ends_in_word-white, ends_in_word-comment}
use Rattle.pnm_read.proofs.WordLaws.{ends_in_word-digit, white_is_not_digit, white_is_not_sharp, digit_is_not_sharp}
use Rattle.pnm_read.proofs.HeaderLaws.{header_item_is, goes_on_by, never_before_by, bad_parts, not_last, digit_left, is_decimal, decimal_push, ended}
use Rattle.pnm_read.proofs.DecimalSteps.{with_digit-saturate_u32}

-- ---- the last three numbers

-- a number that is held, by what is held from a place on
held_at : (k i : ℕ) (held : List ℕ) {found : List ℕ} → drop k held ≡ found → slice_index held (k + i) ≡ slice_index found i
held_at k i held e = sym (get_or-drop k held i 0) ∙ ap (λ (l : List ℕ). slice_index l i) e

first_value : (d : ℕ) → with_digit 0 d ≡ saturate_u32 d
first_value d = omega arith

-- the first digit of a number
first_digit : (held found : List ℕ) (d : ℕ) → length found < 3 → drop (3 - length found) held ≡ map saturate_u32 found
    → drop (3 - (length found + 1)) (numbers_with_digit false held d) ≡ map saturate_u32 (found ++ d ∷ [])
first_digit held [] d lt e = let v : with_digit 0 d ≡ saturate_u32 d = first_value d in cc
first_digit held (a ∷ []) d lt e =
    let v : with_digit 0 d ≡ saturate_u32 d = first_value d in
    let h : slice_index held 2 ≡ saturate_u32 a = held_at 2 0 held e in
    cc
first_digit held (a ∷ b ∷ []) d lt e =
    let v : with_digit 0 d ≡ saturate_u32 d = first_value d in
    let g : slice_index held 1 ≡ saturate_u32 a = held_at 1 0 held e in
    let h : slice_index held 2 ≡ saturate_u32 b = held_at 1 1 held e in
    cc
first_digit held (a ∷ b ∷ c ∷ found) d lt e = absurd (omega arith)

-- the next digit of the last number
next_digit : (held prefix : List ℕ) (last d : ℕ) → length prefix < 3 → drop (3 - (length prefix + 1)) held ≡ map saturate_u32 (prefix ++ last ∷ [])
    → drop (3 - (length prefix + 1)) (numbers_with_digit true held d) ≡ map saturate_u32 (prefix ++ (last * 10 + d) ∷ [])
next_digit held [] last d lt e =
    let v : with_digit (saturate_u32 last) d ≡ saturate_u32 (last * 10 + d) = with_digit-saturate_u32 last d in
    let h : slice_index held 2 ≡ saturate_u32 last = held_at 2 0 held e in
    ap (λ (n : ℕ). with_digit n d ∷ []) h ∙ ap (λ (n : ℕ). n ∷ []) v
next_digit held (a ∷ []) last d lt e =
    let v : with_digit (saturate_u32 last) d ≡ saturate_u32 (last * 10 + d) = with_digit-saturate_u32 last d in
    let g : slice_index held 1 ≡ saturate_u32 a = held_at 1 0 held e in
    let h : slice_index held 2 ≡ saturate_u32 last = held_at 1 1 held e in
    ap (λ (n : ℕ). slice_index held 1 ∷ with_digit n d ∷ []) h ∙ ap (λ (n : ℕ). slice_index held 1 ∷ n ∷ []) v
    ∙ ap (λ (n : ℕ). n ∷ saturate_u32 (last * 10 + d) ∷ []) g
next_digit held (a ∷ b ∷ []) last d lt e =
    let v : with_digit (saturate_u32 last) d ≡ saturate_u32 (last * 10 + d) = with_digit-saturate_u32 last d in
    let f : slice_index held 0 ≡ saturate_u32 a = held_at 0 0 held e in
    let g : slice_index held 1 ≡ saturate_u32 b = held_at 0 1 held e in
    let h : slice_index held 2 ≡ saturate_u32 last = held_at 0 2 held e in
    ap (λ (n : ℕ). slice_index held 0 ∷ slice_index held 1 ∷ with_digit n d ∷ []) h ∙ ap (λ (n : ℕ). slice_index held 0 ∷ slice_index held 1 ∷ n ∷ []) v
    ∙ ap (λ (n : ℕ). slice_index held 0 ∷ n ∷ saturate_u32 (last * 10 + d) ∷ []) g ∙ ap (λ (n : ℕ). n ∷ saturate_u32 b ∷ saturate_u32 (last * 10 + d) ∷ []) f
next_digit held (a ∷ b ∷ c ∷ prefix) last d lt e = absurd (omega arith)

-- ---- the first byte

-- no byte so far
pub header_fresh : (wanted : ℕ) (s : HeaderScanner) → IsHeaderFresh wanted s → 0 < wanted → wanted ≤ 3 → length s.numbers ≤ 3 → IsHeaderAfter s []
unfolding ends_by uncommented_from words
header_fresh wanted s f some most three = record {
  length_is = f.length_is;
  comment = f.comment;
  word = f.word;
  decimal = All-nil (λ b. is_decimal b ≡ true);
  found = f.found;
  most = omega arith;
  more = λ e. omega arith;
  three = omega arith;
  last = rw f.found (drop_all 3 s.numbers three);
}

-- ---- one byte more

sharp_is_no_digit : {b : ℕ} → b ≡ 35 → is_digit b ≡ false
sharp_is_no_digit e = grind (arith, nat_tests)

sharp_is_not_white : {b : ℕ} → b ≡ 35 → is_white b ≡ false
sharp_is_not_white e = grind (arith, nat_tests)

in_comment_no : (inside t : Bool) (b : ℕ) → (inside ≡ true) ⊎ (b ≡ 35) → (b ≡ 35 → t ≡ false) → (not inside && t) ≡ false
in_comment_no inside t b (inl e) f = rw e refl
in_comment_no inside t b (inr e) f = and_right (not inside) t (f e)

-- the numbers after a digit
record Digit (new : HeaderScanner) (count : ℕ) (found : List ℕ) : Type 0 where
  pub found_is : new.found ≡ length found
  pub within : new.found ≤ count
  pub last : drop (3 - new.found) new.numbers ≡ map saturate_u32 found

module _ {old new : HeaderScanner} {b : ℕ} {before : List ℕ} where
  length_after : IsHeaderAfter old before → PushesHeader old b new → new.length ≡ length (before ++ b ∷ [])
  length_after a p = p.length_is ∙ ap (λ n. n + 1) a.length_is ∙ sym (length-append before (b ∷ []))

  comment_after : IsHeaderAfter old before → PushesHeader old b new → new.in_comment ≡ ends_in_comment (before ++ b ∷ [])
  comment_after a p = p.comment ∙ ap (λ t. commented t b) a.comment ∙ sym (commented_after-push before b)

  -- inside a comment, or at its beginning
  after_comment : IsHeaderAfter old before → PushesHeader old b new → (ends_in_comment before ≡ true) ⊎ (b ≡ 35) → IsHeaderAfter new (before ++ b ∷ [])
  after_comment a p h =
      let digit : is_numeral_byte old.in_comment b ≡ false = rw a.comment (in_comment_no (ends_in_comment before) (is_digit b) b h (sharp_is_no_digit)) in
      let white : (not old.in_comment && is_white b) ≡ false = rw a.comment (in_comment_no (ends_in_comment before) (is_white b) b h (sharp_is_not_white)) in
      let word : new.in_number ≡ old.in_number = rw (digit, white) at p.word in
      let found : new.found ≡ old.found = rw digit at p.found in
      let numbers : new.numbers ≡ old.numbers = rw digit at p.numbers in
      record {
        length_is = length_after a p;
        comment = comment_after a p;
        word = word ∙ a.word ∙ sym (ends_in_word-comment before b h);
        decimal = subst (AllPass is_decimal) (sym (uncommented-comment before b h)) a.decimal;
        found = found ∙ a.found ∙ ap length (sym (numbers-comment before b h));
        most = omega arith;
        more = λ e. let more = a.more (sym word ∙ e) in omega arith;
        three = omega arith;
        last = rw (found, numbers, numbers-comment before b h) a.last;
      }

  -- white space outside comments
  after_white : IsHeaderAfter old before → PushesHeader old b new → ends_in_comment before ≡ false → is_white b ≡ true
      → (length (numbers_in before) == old.wanted) ≡ false → IsHeaderAfter new (before ++ b ∷ [])
  after_white a p outside white others =
      let plain : old.in_comment ≡ false = a.comment ∙ outside in
      let digit : is_numeral_byte old.in_comment b ≡ false = and_right (not old.in_comment) (is_digit b) (white_is_not_digit b white) in
      let gap : (not old.in_comment && is_white b) ≡ true = ap (λ (t : Bool). not t && is_white b) plain ∙ white in
      let word : new.in_number ≡ false = rw (digit, gap) at p.word in
      let found : new.found ≡ old.found = rw digit at p.found in
      let numbers : new.numbers ≡ old.numbers = rw digit at p.numbers in
      let not_all : length (numbers_in before) ≡ old.wanted → ⊥ = eqb-false (length (numbers_in before)) old.wanted others in
      let was = a.found in
      let within = a.most in
      let less : old.found < old.wanted = omega arith in
      record {
        length_is = length_after a p;
        comment = comment_after a p;
        word = word ∙ sym (ends_in_word-white before b outside white);
        decimal = decimal_push before b outside (white_is_not_sharp b white) (grind (arith, white)) a.decimal;
        found = found ∙ a.found ∙ ap length (sym (numbers-white before b outside white));
        most = omega arith;
        more = λ e. omega arith;
        three = omega arith;
        last = rw (found, numbers, numbers-white before b outside white) a.last;
      }

  digit_by : (word : Bool) → old.in_number ≡ word → IsHeaderAfter old before → PushesHeader old b new → ends_in_comment before ≡ false → is_digit b ≡ true
      → is_numeral_byte old.in_comment b ≡ true → Digit new old.wanted (numbers_in (before ++ b ∷ []))
  digit_by true g a p outside digit numeral =
      let next = numbers-next before b outside digit (sym a.word ∙ g) in
      let found : new.found ≡ old.found = rw (numeral, g) at p.found in
      let numbers : new.numbers ≡ numbers_with_digit true old.numbers (b - 48) = rw (numeral, g) at p.numbers in
      let was : old.found ≡ length next.0 + 1 = a.found ∙ ap length next.2 ∙ length-append next.0 (next.1 ∷ []) in
      let is : new.found ≡ length next.0 + 1 = found ∙ was in
      let all : length (numbers_in (before ++ b ∷ [])) ≡ length next.0 + 1 = ap length next.3 ∙ length-append next.0 ((next.1 * 10 + (b - 48)) ∷ []) in
      let held : drop (3 - (length next.0 + 1)) old.numbers ≡ map saturate_u32 (next.0 ++ next.1 ∷ []) = rw (was, next.2) at a.last in
      let few : length next.0 < 3 = omega arith in
      record {
        found_is = is ∙ sym all;
        within = omega arith;
        last = rw (is, numbers, next.3) (next_digit old.numbers next.0 next.1 (b - 48) few held);
      }
  digit_by false g a p outside digit numeral =
      let first = numbers-first before b outside digit (sym a.word ∙ g) in
      let found : new.found ≡ old.found + 1 = rw (numeral, g) at p.found in
      let numbers : new.numbers ≡ numbers_with_digit false old.numbers (b - 48) = rw (numeral, g) at p.numbers in
      let is : new.found ≡ length (numbers_in before) + 1 = found ∙ ap (λ (n : ℕ). n + 1) a.found in
      let all : length (numbers_in (before ++ b ∷ [])) ≡ length (numbers_in before) + 1 = ap length first ∙ length-append (numbers_in before) ((b - 48) ∷ []) in
      let held : drop (3 - length (numbers_in before)) old.numbers ≡ map saturate_u32 (numbers_in before) = rw a.found at a.last in
      let fewer : old.found < old.wanted = a.more g in
      let few : length (numbers_in before) < 3 = let was = a.found in omega arith in
      record {
        found_is = is ∙ sym all;
        within = omega arith;
        last = rw (is, numbers, first) (first_digit old.numbers (numbers_in before) (b - 48) few held);
      }

  -- a digit outside comments
  after_digit : IsHeaderAfter old before → PushesHeader old b new → ends_in_comment before ≡ false → is_digit b ≡ true → IsHeaderAfter new (before ++ b ∷ [])
  after_digit a p outside digit =
      let numeral : is_numeral_byte old.in_comment b ≡ true = ap (λ (t : Bool). is_numeral_byte t b) (a.comment ∙ outside) ∙ digit in
      let word : new.in_number ≡ true = rw numeral at p.word in
      let d = digit_by old.in_number refl a p outside digit numeral in
      record {
        length_is = length_after a p;
        comment = comment_after a p;
        word = word ∙ sym (ends_in_word-digit before b outside digit);
        decimal = decimal_push before b outside (digit_is_not_sharp b digit) (grind (arith, digit)) a.decimal;
        found = d.found_is;
        most = omega arith;
        more = λ e. absurd cc;
        three = omega arith;
        last = d.last;
      }

  after_by : (comment sharp white : Bool) → ends_in_comment before ≡ comment → (b == 35) ≡ sharp → is_white b ≡ white → IsHeaderAfter old before
      → PushesHeader old b new → (ends_in_comment before ≡ false → (is_digit b || is_apart b) ≡ true) → is_delimiter old.wanted before b ≡ false
      → IsHeaderAfter new (before ++ b ∷ [])
  after_by true sharp white c h w a p decimal last = after_comment a p (inl c)
  after_by false true white c h w a p decimal last = after_comment a p (inr (eqb-true b 35 h))
  after_by false false true c h w a p decimal last = after_white a p c w (not_last (length (numbers_in before) == old.wanted) last c w)
  after_by false false false c h w a p decimal last = after_digit a p c (digit_left (is_digit b) (decimal c) w h)

  header_after : IsHeaderAfter old before → PushesHeader old b new → header_item old.wanted before b ≡ GoesOn → IsHeaderAfter new (before ++ b ∷ [])
  header_after a p e =
      let parts = goes_on_by (nat_le header_limit (length before)) (is_bad_in_header before b) (is_delimiter old.wanted before b)
      (sym (header_item_is old.wanted before b) ∙ e) in
      let byte = bad_parts (length before == 0) (is_apart b) (ends_in_comment before) (is_digit b || is_apart b) parts.1 in
      after_by (ends_in_comment before) (b == 35) (is_white b) refl refl refl a p byte.1 parts.2

-- the header goes on with the byte
pub header_goes_on : {old new : HeaderScanner} {b : ℕ} (j : ScanStatus) → j ≡ GoesOn → JudgesHeader old b j → PushesHeader old b new
    → JudgesByte (header_item old.wanted) (IsHeaderAfter old) (IsHeaderAfter new) (IsHeaderWhole new) b j
header_goes_on j is h p before a = inl (h before a, rw is (header_after a p (sym (h before a) ∙ is)))

-- ---- the last byte

-- the header ends with the byte
header_whole : {s : HeaderScanner} (b : ℕ) {before : List ℕ} → IsHeaderAfter s before → header_item s.wanted before b ≡ EndsWith
    → IsHeaderWhole s (before ++ b ∷ [])
header_whole {s} b {before} a e =
    let end = ended s.wanted before b e in
    let same = numbers-white before b end.outside end.white in
    record { count = ap length same ∙ end.all; most = a.three; last = rw same (rw a.found at a.last) }

header_never_before : (count : ℕ) (before : List ℕ) (b : ℕ) → header_item count before b ≡ EndsBefore → ⊥
header_never_before count before b e = never_before_by (nat_le header_limit (length before)) (is_bad_in_header before b) (is_delimiter count before b)
    (sym (header_item_is count before b) ∙ e)

-- the header does not go on after the byte
pub header_stops : (s : HeaderScanner) (b : ℕ) (j : ScanStatus) → (j ≡ GoesOn → ⊥) → JudgesHeader s b j
    → JudgesByte (header_item s.wanted) (IsHeaderAfter s) (IsHeaderAfter s) (IsHeaderWhole s) b j
header_stops s b GoesOn n h before a = absurd (n refl)
header_stops s b EndsWith n h before a = inl (h before a, header_whole b a (sym (h before a)))
header_stops s b EndsBefore n h before a = absurd (header_never_before s.wanted before b (sym (h before a)))
header_stops s b (Fails k) n h before a = inl (h before a, tt)
