-- One plain sample: a piece that spells it is read as the sample, and what is read as a sample is spelled.
use Rattle.pnm_read.proofs.Words.{◌≡◌, ℕ, zero, suc, ◌+◌, ◌-◌, ◌<◌, ◌≤◌, Bool, true, false, not, ◌&&◌, ◌||◌, List, [], ◌∷◌, ◌++◌, length, Some, None, Result}
use Rattle.pnm_read.proofs.Words.{Ok, Err, refl, sym, ap, ap₂, subst, ◌∙◌, append_assoc, append-nil, arith, nat_le, filter, AllPass, le-leb, leb-true}
use Rattle.pnm_read.proofs.Words.{leb-false, and_right, not_from_true, nat_tests, filter-append, All-nil, All-cons, All-head, All-tail, All-push, InputFault}
use Rattle.pnm_read.proofs.Words.{RasterCut, SampleAboveMaxval, ScanStatus, GoesOn, EndsWith, EndsBefore, Fails, Kind, Bit, Gray, Color, Pam, is_apart}
use Rattle.pnm_read.proofs.Words.{begins_apart, ends_by, commented, ends_in_comment, uncommented, number_in, is_white, is_digit, decimal_value, not_and_parts}
use Rattle.pnm_read.proofs.Words.{greatest_in, IsGap, SpellsDecimal, SpellsSample, SpellsPiece, MayFollowSample, ◌>>=◌, piece_from, ends_in_digit, is_complete}
use Rattle.pnm_read.proofs.Words.{decimal_item, decimal_end, is_pixel, pixel_item, pixel_end, pixel_in, sample_item, plain_sample, GAP_LIMIT}
use Rattle.std.proofs.Common.{length-append}
use Rattle.std.specs.Prelude.{◌==◌, if◌then◌else◌}
use Rattle.pnm_read.specs.HeaderTexts.{uncommented_from}
use Rattle.pnm_read.specs.Items.{plain_pixel, plain_decimal}
use Rattle.pnm_read.proofs.CommentLaws.{uncommented_from-append, ends_by-push}
use Rattle.pnm_read.proofs.PieceLaws.{bind_ok, done, ok_is, piece_step, FoundBy, found_from, found_at_end, piece_ends, found_is_whole, in_gap}
use Rattle.pnm_read.proofs.PieceLaws.{apart_is_no_digit, after_gap_byte, ends_in_digit-push, gap-push, nothing_ends, over_whole_gap, is_bad_in_decimal}
use Rattle.pnm_read.proofs.PieceLaws.{decimal_goes_on, decimal_ends_before, DecimalTold, decimal_told, is_bad_in_pixels, pixel_ends_with, PixelTold, pixel_told}
use Rattle.pnm_read.proofs.PieceLaws.{good_in_gap, decimals_go_over_gaps, pixels_go_over_gaps, if_ok}
use Rattle.pnm_read.proofs.WordLaws.{digit_is_not_sharp, white_is_not_digit}

-- ---- digits

bad_no_more : (inside : Bool) {digit : Bool} (apart : Bool) → digit ≡ true → (not inside && not (digit || apart)) ≡ false
bad_no_more true apart e = refl
bad_no_more false apart e = ap (λ (d : Bool). not (d || apart)) e

-- a digit lets the piece go on
digit_goes_on : (before : List ℕ) (b : ℕ) → length before < GAP_LIMIT → is_digit b ≡ true → decimal_item before b ≡ GoesOn
digit_goes_on before b short h = decimal_goes_on before b short (bad_no_more (ends_in_comment before) (is_apart b) h)
    (and_right (ends_in_digit before) (not (is_digit b)) (not_from_true (is_digit b) h))

-- a text outside comments and a digit end in a digit
pub ends_in_digit-digit : (before : List ℕ) (b : ℕ) → ends_in_comment before ≡ false → is_digit b ≡ true → ends_in_digit (before ++ b ∷ []) ≡ true
ends_in_digit-digit before b e h =
    ends_in_digit-push before b ∙ ap (λ (i : Bool). not (commented i b) && is_digit b) e ∙ ap (λ (m : Bool). not m && is_digit b) (digit_is_not_sharp b h) ∙ h

-- digits are gone over
over_digits : (digits before rest : List ℕ) → ends_in_digit before ≡ true → AllPass is_digit digits → length before + length digits ≤ GAP_LIMIT
    → (piece_from decimal_item decimal_end before (digits ++ rest) ≡ piece_from decimal_item decimal_end (before ++ digits) rest)
    × (ends_in_digit (before ++ digits) ≡ true)
over_digits [] before rest out digits short =
    let whole : before ++ [] ≡ before = append-nil before in
    (ap (λ (t : List ℕ). piece_from decimal_item decimal_end t rest) (sym whole), ap ends_in_digit whole ∙ out)
over_digits (b ∷ digits) before rest out all short =
    let first : is_digit b ≡ true = All-head (λ x. is_digit x ≡ true) b digits all in
    let outside : ends_in_comment before ≡ false = (not_and_parts (ends_in_comment before) (ends_by is_digit before) out).0 in
    let long : length (before ++ b ∷ []) ≡ length before + 1 = length-append before (b ∷ []) in
    let more = over_digits digits (before ++ b ∷ []) rest (ends_in_digit-digit before b outside first) (All-tail (λ x. is_digit x ≡ true) b digits all)
    (omega arith) in
    let whole : (before ++ b ∷ []) ++ digits ≡ before ++ b ∷ digits = append_assoc before (b ∷ []) digits in
    let short_here : length before < GAP_LIMIT = omega arith in (
      piece_step decimal_item decimal_end before b (digits ++ rest) (digit_goes_on before b short_here first) ∙ more.0
          ∙ ap (λ (t : List ℕ). piece_from decimal_item decimal_end t rest) whole,
      ap ends_in_digit (sym whole) ∙ more.1,
    )

apart_is_good : (inside : Bool) (b : ℕ) → is_apart b ≡ true → is_bad_in_decimal inside b ≡ false
apart_is_good true b h = refl
apart_is_good false b h = good_in_gap false b h

-- digits end before white space, before a comment, and where the text ends
digits_end : (before rest : List ℕ) → ends_in_digit before ≡ true → begins_apart rest ≡ true
    → piece_from decimal_item decimal_end before rest ≡ Ok (before, rest)
digits_end before [] out apart = piece_ends decimal_item decimal_end before (ap (λ (t : Bool). if t then None else Some RasterCut) out)
digits_end before (b ∷ rest) out apart =
    let no_digit = apart_is_no_digit b apart in
    let complete : is_complete before b ≡ true = ap₂ (λ (t d : Bool). t && not d) out no_digit in
    piece_step decimal_item decimal_end before b rest (decimal_ends_before before b (apart_is_good (ends_in_comment before) b apart) complete)

-- a gap and digits are read as one piece
decimal_piece_is_read : {gap : List ℕ} (digits rest : List ℕ) → IsGap gap → 0 < length digits → AllPass is_digit digits → length (gap ++ digits) ≤ GAP_LIMIT
    → begins_apart rest ≡ true → piece_from decimal_item decimal_end [] ((gap ++ digits) ++ rest) ≡ Ok (gap ++ digits, rest)
decimal_piece_is_read [] rest g some all short apart = absurd (omega (arith, some))
decimal_piece_is_read {gap} (b ∷ digits) rest g some all short apart =
    let lengths : length (gap ++ b ∷ digits) ≡ length gap + suc (length digits) = length-append gap (b ∷ digits) in
    let within : length gap < GAP_LIMIT = omega arith in
    let first : is_digit b ≡ true = All-head (λ x. is_digit x ≡ true) b digits all in
    let over = over_whole_gap decimal_item decimal_end decimals_go_over_gaps (b ∷ digits ++ rest) g (omega arith) in
    let long : length (gap ++ b ∷ []) ≡ length gap + 1 = length-append gap (b ∷ []) in
    let more = over_digits digits (gap ++ b ∷ []) rest (ends_in_digit-digit gap b g.outside first) (All-tail (λ x. is_digit x ≡ true) b digits all)
    (omega arith) in
    let whole : (gap ++ b ∷ []) ++ digits ≡ gap ++ b ∷ digits = append_assoc gap (b ∷ []) digits in
    ap (piece_from decimal_item decimal_end []) (append_assoc gap (b ∷ digits) rest) ∙ over.0
    ∙ piece_step decimal_item decimal_end gap b (digits ++ rest) (digit_goes_on gap b within first) ∙ more.0
    ∙ digits_end ((gap ++ b ∷ []) ++ digits) rest more.1 apart ∙ ap (λ (t : List ℕ). done (t, rest)) whole

-- ---- the number of a piece

-- white space holds no digits
no_digits_in_white : (text : List ℕ) → AllPass is_white text → filter is_digit text ≡ []
no_digits_in_white [] all = refl
no_digits_in_white (b ∷ text) all =
    let first : is_digit b ≡ false = white_is_not_digit b (All-head (λ x. is_white x ≡ true) b text all) in
    rw first (no_digits_in_white text (All-tail (λ x. is_white x ≡ true) b text all))

-- digits are all digits
all_digits : (digits : List ℕ) → AllPass is_digit digits → filter is_digit digits ≡ digits
all_digits [] all = refl
all_digits (b ∷ digits) all =
    let first : is_digit b ≡ true = All-head (λ x. is_digit x ≡ true) b digits all in
    rw first (ap (λ (t : List ℕ). b ∷ t) (all_digits digits (All-tail (λ x. is_digit x ≡ true) b digits all)))

-- no comment is among digits
pub uncommented_digits : (digits : List ℕ) → AllPass is_digit digits → uncommented digits ≡ digits
unfolding uncommented_from
uncommented_digits [] all = refl
uncommented_digits (b ∷ digits) all =
    let first : (b == 35) ≡ false = digit_is_not_sharp b (All-head (λ x. is_digit x ≡ true) b digits all) in
    rw first (ap (λ (t : List ℕ). b ∷ t) (uncommented_digits digits (All-tail (λ x. is_digit x ≡ true) b digits all)))

-- the number of a gap and digits is that of the digits
number_of_piece : {gap : List ℕ} (digits : List ℕ) → IsGap gap → AllPass is_digit digits → number_in (gap ++ digits) ≡ decimal_value digits
number_of_piece {gap} digits g all =
    let cut : uncommented (gap ++ digits) ≡ uncommented gap ++ digits =
    uncommented_from-append false gap digits ∙ ap (λ (i : Bool). uncommented gap ++ uncommented_from i digits) g.outside
    ∙ ap (λ (t : List ℕ). uncommented gap ++ t) (uncommented_digits digits all) in
    let left : filter is_digit (uncommented (gap ++ digits)) ≡ digits =
    ap (λ (t : List ℕ). filter is_digit t) cut ∙ filter-append is_digit (uncommented gap) digits
    ∙ ap₂ (λ (a c : List ℕ). a ++ c) (no_digits_in_white (uncommented gap) g.white) (all_digits digits all) in
    ap decimal_value left

-- ---- what is spelled is read

-- a number and the gap before it are read
spelled_decimal_is_read : (maxval : ℕ) {gap digits : List ℕ} (rest : List ℕ) {sample : ℕ} → IsGap gap → SpellsDecimal digits sample
    → length (gap ++ digits) ≤ GAP_LIMIT → begins_apart rest ≡ true → sample ≤ maxval → plain_decimal maxval ((gap ++ digits) ++ rest) ≡ Ok (sample, rest)
unfolding plain_decimal
spelled_decimal_is_read maxval {gap} {digits} rest {sample} g d short apart range =
    let found = decimal_piece_is_read digits rest g d.some d.digits short apart in
    let value : number_in (gap ++ digits) ≡ sample = number_of_piece digits g d.digits ∙ d.value in
    ap (λ (r : Result (List ℕ × List ℕ) InputFault). r >>= λ piece. sample_item maxval (number_in piece.0) >>= λ number. Ok (number, piece.1)) found
    ∙ ap (λ (n : ℕ). sample_item maxval n >>= λ number. Ok (number, rest)) value
    ∙ ap (λ (t : Bool). (if t then Ok sample else Err SampleAboveMaxval) >>= λ number. Ok (number, rest)) (le-leb sample maxval range)

-- the character of a sample, and the sample of the character
pixel_of_sample : (sample : ℕ) → sample ≤ 1 → (is_pixel (49 - sample) ≡ true) × ((if (49 - sample) == 49 then 0 else 1) ≡ sample)
pixel_of_sample zero h = (refl, refl)
pixel_of_sample (suc zero) h = (refl, refl)
pixel_of_sample (suc (suc sample)) h = absurd (omega arith)

pixel_is_good : (inside : Bool) (b : ℕ) → inside ≡ false → is_pixel b ≡ true → (is_bad_in_pixels inside b ≡ false) × ((not inside && is_pixel b) ≡ true)
pixel_is_good true b e h = absurd cc
pixel_is_good false b e h = (ap (λ (t : Bool). not (t || is_apart b)) h, h)

-- a pixel and the gap before it are read
spelled_pixel_is_read : {gap : List ℕ} (rest : List ℕ) (b : ℕ) → IsGap gap → is_pixel b ≡ true → length (gap ++ b ∷ []) ≤ GAP_LIMIT
    → plain_pixel ((gap ++ b ∷ []) ++ rest) ≡ Ok (if b == 49 then 0 else 1, rest)
unfolding plain_pixel
spelled_pixel_is_read {gap} rest b g h short =
    let lengths : length (gap ++ b ∷ []) ≡ length gap + 1 = length-append gap (b ∷ []) in
    let within : length gap < GAP_LIMIT = omega arith in
    let over = over_whole_gap pixel_item pixel_end pixels_go_over_gaps (b ∷ rest) g (omega arith) in
    let good = pixel_is_good (ends_in_comment gap) b g.outside h in
    let found : piece_from pixel_item pixel_end [] ((gap ++ b ∷ []) ++ rest) ≡ Ok (gap ++ b ∷ [], rest) =
    ap (piece_from pixel_item pixel_end []) (append_assoc gap (b ∷ []) rest) ∙ over.0
    ∙ piece_step pixel_item pixel_end gap b rest (pixel_ends_with gap b within good.0 good.1) in
    ap (λ (r : Result (List ℕ × List ℕ) InputFault). r >>= λ piece. Ok (pixel_in piece.0, piece.1)) found
    ∙ ap (λ (t : Bool). done (if t then 0 else 1, rest)) (ends_by-push (λ c. c == 49) gap b)

spelled_by_kind : (kind : Kind) (maxval : ℕ) {gap : List ℕ} (digits rest : List ℕ) (sample : ℕ) → IsGap gap → SpellsSample kind digits sample
    → length (gap ++ digits) ≤ GAP_LIMIT → MayFollowSample kind rest → sample ≤ maxval
    → plain_sample kind maxval ((gap ++ digits) ++ rest) ≡ Ok (sample, rest)
spelled_by_kind Bit maxval {gap} digits rest sample g d short follows range =
    let p = pixel_of_sample sample d.0 in
    let short_here : length (gap ++ (49 - sample) ∷ []) ≤ GAP_LIMIT = subst (λ (t : List ℕ). length (gap ++ t) ≤ GAP_LIMIT) d.1 short in
    ap (λ (t : List ℕ). plain_pixel ((gap ++ t) ++ rest)) d.1 ∙ spelled_pixel_is_read rest (49 - sample) g p.0 short_here
    ∙ ap (λ (n : ℕ). done (n, rest)) p.1
spelled_by_kind Gray maxval digits rest sample g d short follows range = spelled_decimal_is_read maxval rest g d short follows range
spelled_by_kind Color maxval digits rest sample g d short follows range = spelled_decimal_is_read maxval rest g d short follows range
spelled_by_kind Pam maxval digits rest sample g d short follows range = spelled_decimal_is_read maxval rest g d short follows range

-- a sample that is spelled is read
pub spelled_piece_is_read : (kind : Kind) (maxval : ℕ) (piece rest : List ℕ) (sample : ℕ) → SpellsPiece kind piece sample → MayFollowSample kind rest
    → sample ≤ maxval
    → plain_sample kind maxval (piece ++ rest) ≡ Ok (sample, rest)
spelled_piece_is_read kind maxval piece rest sample s follows range =
    let short : length (s.gap ++ s.digits) ≤ GAP_LIMIT = subst (λ (t : List ℕ). length t ≤ GAP_LIMIT) s.whole s.short in
    ap (λ (t : List ℕ). plain_sample kind maxval (t ++ rest)) s.whole ∙ spelled_by_kind kind maxval s.digits rest sample s.gap_is s.digits_are short
    follows range

-- ---- what is read is spelled

-- a text that ends in digits of a number, after a gap
record InDigits (before : List ℕ) : Type 0 where
  pub gap : List ℕ
  pub digits : List ℕ
  pub whole : before ≡ gap ++ digits
  pub gap_is : IsGap gap
  pub some : 0 < length digits
  pub all : AllPass is_digit digits
  pub short : length before ≤ GAP_LIMIT
  pub ends : ends_in_digit before ≡ true

-- a number that was read, and what may follow it
record IsDecimal (found : List ℕ × List ℕ) : Type 0 where
  pub read : InDigits found.0
  pub follows : begins_apart found.1 ≡ true

short-push : (before : List ℕ) (b : ℕ) → nat_le GAP_LIMIT (length before) ≡ false → length (before ++ b ∷ []) ≤ GAP_LIMIT
short-push before b e =
    let within : length before < GAP_LIMIT = leb-false GAP_LIMIT (length before) e in
    omega (arith, length-append before (b ∷ []))

-- one digit more
digits-push : (before : List ℕ) (b : ℕ) → InDigits before → nat_le GAP_LIMIT (length before) ≡ false → is_digit b ≡ true → InDigits (before ++ b ∷ [])
digits-push before b s short h = record {
  gap = s.gap;
  digits = s.digits ++ b ∷ [];
  whole = ap (λ (t : List ℕ). t ++ b ∷ []) s.whole ∙ append_assoc s.gap s.digits (b ∷ []);
  gap_is = s.gap_is;
  some = omega (arith, length-append s.digits (b ∷ []));
  all = All-push (λ x. is_digit x ≡ true) s.digits b s.all h;
  short = short-push before b short;
  ends = ends_in_digit-digit before b (not_and_parts (ends_in_comment before) (ends_by is_digit before) s.ends).0 h;
}

-- where digits go on, the byte is a digit; where they end, it stands apart
goes_on_by : (ends digit : Bool) → ends ≡ true → (ends && not digit) ≡ false → digit ≡ true
goes_on_by ends true e h = refl
goes_on_by true false e h = absurd cc
goes_on_by false false e h = absurd cc

ends_apart_by : (inside ends digit apart : Bool) → (not inside && ends) ≡ true → (not inside && not (digit || apart)) ≡ false
    → ((not inside && ends) && not digit) ≡ true → apart ≡ true
ends_apart_by true ends digit apart e h c = absurd cc
ends_apart_by false false digit apart e h c = absurd cc
ends_apart_by false true true apart e h c = absurd cc
ends_apart_by false true false true e h c = refl
ends_apart_by false true false false e h c = absurd cc

in_digits_by : {before : List ℕ} (b : ℕ) (text : List ℕ) {found : List ℕ × List ℕ} (j : ScanStatus) → InDigits before → DecimalTold before b j
    → FoundBy decimal_item decimal_end before b text found j
    → (InDigits (before ++ b ∷ []) → piece_from decimal_item decimal_end (before ++ b ∷ []) text ≡ Ok found → IsDecimal found) → IsDecimal found
in_digits_by b text (Fails fault) s told f on = absurd f
in_digits_by b text EndsWith s told f on = absurd told
in_digits_by {before} b text EndsBefore s told f on =
    subst IsDecimal f
    (record { read = s; follows = ends_apart_by (ends_in_comment before) (ends_by is_digit before) (is_digit b) (is_apart b) s.ends told.0 told.1 })
in_digits_by {before} b text GoesOn s told f on = on (digits-push before b s told.0 (goes_on_by (ends_in_digit before) (is_digit b) s.ends told.2)) f

-- from digits on, a number is read
in_digits : (text before : List ℕ) {found : List ℕ × List ℕ} → InDigits before → piece_from decimal_item decimal_end before text ≡ Ok found → IsDecimal found
in_digits [] before s e = subst IsDecimal (found_at_end decimal_item decimal_end before e).1 (record { read = s; follows = refl })
in_digits (b ∷ text) before s e =
    in_digits_by b text (decimal_item before b) s (decimal_told before b) (found_from decimal_item decimal_end before b text e)
    (in_digits text (before ++ b ∷ []))

-- a text that is a gap, or one that goes on in a comment
record InGap (before : List ℕ) : Type 0 where
  pub white : AllPass is_white (uncommented before)
  pub ends : ends_in_digit before ≡ false

-- the first digit
first_digit : {before : List ℕ} (b : ℕ) → InGap before → nat_le GAP_LIMIT (length before) ≡ false → (not (ends_in_comment before) && is_digit b) ≡ true
    → InDigits (before ++ b ∷ [])
first_digit {before} b s short h =
    let parts = not_and_parts (ends_in_comment before) (is_digit b) h in
    record {
      gap = before;
      digits = b ∷ [];
      whole = refl;
      gap_is = record { white = s.white; outside = parts.0 };
      some = omega arith;
      all = All-cons (λ x. is_digit x ≡ true) b [] parts.1 (All-nil (λ x. is_digit x ≡ true));
      short = short-push before b short;
      ends = ends_in_digit-digit before b parts.0 parts.1;
    }

-- one byte more of a gap
gap_goes_on : {before : List ℕ} (b : ℕ) → InGap before → in_gap (ends_in_comment before) b ≡ true → InGap (before ++ b ∷ [])
gap_goes_on {before} b s h = record { white = gap-push before b h s.white; ends = ends_in_digit-push before b ∙ after_gap_byte (ends_in_comment before) b h }

-- a good byte that is no digit is one of a gap
gap_byte_by : (inside digit apart : Bool) → (not inside && not (digit || apart)) ≡ false → (not inside && digit) ≡ false → (inside || apart) ≡ true
gap_byte_by true digit apart h d = refl
gap_byte_by false true apart h d = absurd cc
gap_byte_by false false true h d = refl
gap_byte_by false false false h d = absurd cc

-- where the piece goes on in a gap, by whether the byte is a digit
go_on_by : {before : List ℕ} (b : ℕ) (text : List ℕ) {found : List ℕ × List ℕ} (digit : Bool) → (not (ends_in_comment before) && is_digit b) ≡ digit
    → InGap before → DecimalTold before b GoesOn → piece_from decimal_item decimal_end (before ++ b ∷ []) text ≡ Ok found
    → (InGap (before ++ b ∷ []) → IsDecimal found) → IsDecimal found
go_on_by {before} b text true d s told e on = in_digits text (before ++ b ∷ []) (first_digit b s told.0 d) e
go_on_by {before} b text false d s told e on = on (gap_goes_on b s (gap_byte_by (ends_in_comment before) (is_digit b) (is_apart b) told.1 d))

complete_ends : (ends digit : Bool) → ends ≡ false → (ends && not digit) ≡ true → ⊥
complete_ends true digit e h = cc
complete_ends false digit e h = cc

not_at_end : (ends : Bool) → ends ≡ false → (if ends then None else Some RasterCut) ≡ None → ⊥
not_at_end true e h = cc
not_at_end false e h = cc

in_decimal_gap_by : {before : List ℕ} (b : ℕ) (text : List ℕ) {found : List ℕ × List ℕ} (j : ScanStatus) → InGap before → DecimalTold before b j
    → FoundBy decimal_item decimal_end before b text found j
    → (InGap (before ++ b ∷ []) → piece_from decimal_item decimal_end (before ++ b ∷ []) text ≡ Ok found → IsDecimal found) → IsDecimal found
in_decimal_gap_by b text (Fails fault) s told f on = absurd f
in_decimal_gap_by b text EndsWith s told f on = absurd told
in_decimal_gap_by {before} b text EndsBefore s told f on = absurd (complete_ends (ends_in_digit before) (is_digit b) s.ends told.1)
in_decimal_gap_by {before} b text GoesOn s told f on = go_on_by b text (not (ends_in_comment before) && is_digit b) refl s told f (λ g. on g f)

-- from a gap on, a number is read
in_decimal_gap : (text before : List ℕ) {found : List ℕ × List ℕ} → InGap before → piece_from decimal_item decimal_end before text ≡ Ok found
    → IsDecimal found
in_decimal_gap [] before s e = absurd (not_at_end (ends_in_digit before) s.ends (found_at_end decimal_item decimal_end before e).0)
in_decimal_gap (b ∷ text) before s e =
    in_decimal_gap_by b text (decimal_item before b) s (decimal_told before b) (found_from decimal_item decimal_end before b text e)
    (in_decimal_gap text (before ++ b ∷ []))

-- nothing is a gap
no_bytes_yet : InGap []
unfolding uncommented_from
no_bytes_yet = record { white = All-nil (λ x. is_white x ≡ true); ends = nothing_ends }

-- the range of a sample that was read
abbrev pub IsInRange : Kind → ℕ → ℕ → Type 0
IsInRange kind maxval sample = sample ≤ greatest_in kind maxval

-- a text that begins with a sample's piece, and goes on with what may follow it
abbrev pub BeginsWithPiece : Kind → ℕ → List ℕ → ℕ × List ℕ → Type 0
BeginsWithPiece kind maxval text found = (piece : List ℕ) × (text ≡ piece ++ found.1) × SpellsPiece kind piece found.0 × MayFollowSample kind found.1
    × IsInRange kind maxval found.0

-- a number that is read is spelled
read_decimal_is_spelled : (maxval : ℕ) (text : List ℕ) {found : ℕ × List ℕ} → plain_decimal maxval text ≡ Ok found → BeginsWithPiece Gray maxval text found
unfolding plain_decimal
read_decimal_is_spelled maxval text {found} e =
    let a = bind_ok (piece_from decimal_item decimal_end [] text) (λ piece. sample_item maxval (number_in piece.0) >>= λ number. Ok (number, piece.1)) e in
    let piece : List ℕ = a.0.0 in
    let b = bind_ok (sample_item maxval (number_in piece)) (λ number. Ok (number, a.0.1)) a.2 in
    let c = if_ok (nat_le (number_in piece) maxval) (number_in piece) b.0 SampleAboveMaxval b.1 in
    let d : IsDecimal a.0 = in_decimal_gap text [] no_bytes_yet a.1 in
    let value : decimal_value d.read.digits ≡ b.0 = sym (number_of_piece d.read.digits d.read.gap_is d.read.all) ∙ ap number_in (sym d.read.whole)
    ∙ c.1 in
    let range : b.0 ≤ maxval = subst (λ (n : ℕ). n ≤ maxval) c.1 (leb-true (number_in piece) maxval c.0) in
    let spelled : SpellsPiece Gray piece b.0 = record {
      gap = d.read.gap;
      digits = d.read.digits;
      whole = d.read.whole;
      gap_is = d.read.gap_is;
      digits_are = record { some = d.read.some; digits = d.read.all; value = value };
      short = d.read.short;
    } in
    subst (BeginsWithPiece Gray maxval text) (ok_is (b.0, a.0.1) found b.2) (
      piece,
      found_is_whole decimal_item decimal_end text [] a.1,
      spelled,
      d.follows,
      range,
    )

-- a pixel that was read: the gap before it, and its character
record IsPixelPiece (found : List ℕ × List ℕ) : Type 0 where
  pub gap : List ℕ
  pub character : ℕ
  pub whole : found.0 ≡ gap ++ character ∷ []
  pub gap_is : IsGap gap
  pub pixel : is_pixel character ≡ true
  pub short : length found.0 ≤ GAP_LIMIT

in_pixel_gap_by : (before : List ℕ) (b : ℕ) (text : List ℕ) {found : List ℕ × List ℕ} (j : ScanStatus) → AllPass is_white (uncommented before)
    → PixelTold before b j → FoundBy pixel_item pixel_end before b text found j
    → (AllPass is_white (uncommented (before ++ b ∷ [])) → piece_from pixel_item pixel_end (before ++ b ∷ []) text ≡ Ok found → IsPixelPiece found)
    → IsPixelPiece found
in_pixel_gap_by before b text (Fails fault) white told f on = absurd f
in_pixel_gap_by before b text EndsWith white told f on =
    let parts = not_and_parts (ends_in_comment before) (is_pixel b) told.2 in
    let here : IsPixelPiece (before ++ b ∷ [], text) = record {
      gap = before;
      character = b;
      whole = refl;
      gap_is = record { white = white; outside = parts.0 };
      pixel = parts.1;
      short = short-push before b told.0;
    } in
    subst IsPixelPiece f here
in_pixel_gap_by before b text EndsBefore white told f on = absurd told
in_pixel_gap_by before b text GoesOn white told f on =
    on (gap-push before b (gap_byte_by (ends_in_comment before) (is_pixel b) (is_apart b) told.1 told.2) white) f

-- from a gap on, a pixel is read
in_pixel_gap : (text before : List ℕ) {found : List ℕ × List ℕ} → AllPass is_white (uncommented before)
    → piece_from pixel_item pixel_end before text ≡ Ok found → IsPixelPiece found
in_pixel_gap [] before white e = let ended : Some RasterCut ≡ None = (found_at_end pixel_item pixel_end before e).0 in absurd cc
in_pixel_gap (b ∷ text) before white e =
    in_pixel_gap_by before b text (pixel_item before b) white (pixel_told before b) (found_from pixel_item pixel_end before b text e)
    (in_pixel_gap text (before ++ b ∷ []))

-- the sample of a pixel's character, and the character of the sample
sample_of_pixel : (b : ℕ) → is_pixel b ≡ true → ((if b == 49 then 0 else 1) ≤ 1) × (b ≡ 49 - (if b == 49 then 0 else 1))
sample_of_pixel b h = (grind (arith, nat_tests), grind (arith, nat_tests))

-- a pixel that is read is spelled
read_pixel_is_spelled : (maxval : ℕ) (text : List ℕ) {found : ℕ × List ℕ} → plain_pixel text ≡ Ok found → BeginsWithPiece Bit maxval text found
unfolding plain_pixel
read_pixel_is_spelled maxval text {found} e =
    let a = bind_ok (piece_from pixel_item pixel_end [] text) (λ piece. Ok (pixel_in piece.0, piece.1)) e in
    let piece : List ℕ = a.0.0 in
    let d : IsPixelPiece a.0 = in_pixel_gap text [] no_bytes_yet.white a.1 in
    let value : (if d.character == 49 then 0 else 1) ≡ pixel_in piece =
    ap (λ (t : Bool). if t then 0 else 1) (sym (ap (ends_by (λ c. c == 49)) d.whole ∙ ends_by-push (λ c. c == 49) d.gap d.character)) in
    let s = sample_of_pixel d.character d.pixel in
    let range : pixel_in piece ≤ 1 = subst (λ (n : ℕ). n ≤ 1) value s.0 in
    let spelled : SpellsPiece Bit piece (pixel_in piece) = record {
      gap = d.gap;
      digits = d.character ∷ [];
      whole = d.whole;
      gap_is = d.gap_is;
      digits_are = (range, ap (λ (c : ℕ). c ∷ []) (s.1 ∙ ap (λ (n : ℕ). 49 - n) value));
      short = d.short;
    } in
    subst (BeginsWithPiece Bit maxval text) (ok_is (pixel_in piece, a.0.1) found a.2) (
      piece,
      found_is_whole pixel_item pixel_end text [] a.1,
      spelled,
      tt,
      range,
    )

-- a number is spelled alike in each kind that has numbers
as_color : (maxval : ℕ) (text : List ℕ) (found : ℕ × List ℕ) → BeginsWithPiece Gray maxval text found → BeginsWithPiece Color maxval text found
as_color maxval text found r =
    let s = r.2 in
    (r.0, r.1, record { gap = s.gap; digits = s.digits; whole = s.whole; gap_is = s.gap_is; digits_are = s.digits_are; short = s.short }, r.3, r.4)

as_pam : (maxval : ℕ) (text : List ℕ) (found : ℕ × List ℕ) → BeginsWithPiece Gray maxval text found → BeginsWithPiece Pam maxval text found
as_pam maxval text found r =
    let s = r.2 in
    (r.0, r.1, record { gap = s.gap; digits = s.digits; whole = s.whole; gap_is = s.gap_is; digits_are = s.digits_are; short = s.short }, r.3, r.4)

read_by_kind : (kind : Kind) (maxval : ℕ) (text : List ℕ) {found : ℕ × List ℕ} → plain_sample kind maxval text ≡ Ok found
    → BeginsWithPiece kind maxval text found
read_by_kind Bit maxval text e = read_pixel_is_spelled maxval text e
read_by_kind Gray maxval text e = read_decimal_is_spelled maxval text e
read_by_kind Color maxval text {found} e = as_color maxval text found (read_decimal_is_spelled maxval text e)
read_by_kind Pam maxval text {found} e = as_pam maxval text found (read_decimal_is_spelled maxval text e)

-- a sample that is read is spelled
pub read_piece_is_spelled : (kind : Kind) (maxval : ℕ) (text rest : List ℕ) (sample : ℕ) → plain_sample kind maxval text ≡ Ok (sample, rest)
    → (piece : List ℕ) × (text ≡ piece ++ rest) × SpellsPiece kind piece sample × MayFollowSample kind rest × IsInRange kind maxval sample
read_piece_is_spelled kind maxval text rest sample e = read_by_kind kind maxval text e
