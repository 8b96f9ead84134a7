-- The header of a text: how its bytes are judged, what is read of them, and that a header that is read is spelled.
pub use Rattle.pnm_read.proofs.ShapeLaws.{limits_of}
use Rattle.pnm_read.proofs.Words.{◌≡◌, ◌≢◌, ◌⊎◌, inl, inr, ℕ, ◌+◌, ◌-◌, ◌*◌, ◌<◌, ◌≤◌, Bool, true, false, not, ◌||◌, ◌&&◌, ◌==◌, if◌then◌else◌, List, [], ◌∷◌}
use Rattle.pnm_read.proofs.Words.{◌++◌, length, Result, Ok, Err, refl, sym, ap, subst, ◌∙◌, append_assoc, arith, nat_le, slice_index, AllPass, eqb-true}
use Rattle.pnm_read.proofs.Words.{leb-false, eqb-false, length-append, All-nil, All-push, Shape, Kind, Bit, Gray, Color, Pam, HeadValue, IsHead, IsTupleType}
use Rattle.pnm_read.proofs.Words.{Suits, head_value, shape_fault, InputFault, TooLong, BadNumber, ScanStatus, GoesOn, EndsWith, EndsBefore, Fails, is_apart}
use Rattle.pnm_read.proofs.Words.{begins_apart, ends_in_comment, uncommented, ends_in_word, numbers_in, is_white, is_digit, plain, number_count, planes}
use Rattle.pnm_read.proofs.Words.{shape_of, header_numbers, header_limit, is_bad_in_header, is_delimiter, header_end}
use Rattle.pnm_read.specs.HeaderTexts.{uncommented_from}
use Rattle.pnm_image.specs.Texts.{words}
use Rattle.pnm_read.specs.Items.{piece_from, header_item, numbers_item}
use Rattle.pnm_read.proofs.ShapeLaws.{head_or_fault_ok}
use Rattle.pnm_read.proofs.PieceLaws.{ok_is}
use Rattle.pnm_read.proofs.WordLaws.{uncommented-plain, uncommented-comment, numbers-white, numbers-comment, numbers-first, numbers-next, ends_in_word-comment}
use Rattle.pnm_read.proofs.WordLaws.{ends_in_word-digit, white_is_not_sharp, digit_is_not_sharp}

-- ---- how a byte of a header is judged

abbrev pub judged_by : Bool → Bool → Bool → ScanStatus
judged_by long bad last = if long then Fails TooLong else if bad then Fails BadNumber else if last then EndsWith else GoesOn

pub header_item_is : (count : ℕ) (before : List ℕ) (b : ℕ) → header_item count before b ≡ judged_by (nat_le header_limit (length before))
    (is_bad_in_header before b) (is_delimiter count before b)
unfolding header_item
header_item_is count before b = refl

pub goes_on_by : (long bad last : Bool) → judged_by long bad last ≡ GoesOn → (long ≡ false) × (bad ≡ false) × (last ≡ false)
goes_on_by true bad last e = absurd cc
goes_on_by false true last e = absurd cc
goes_on_by false false true e = absurd cc
goes_on_by false false false e = (refl, refl, refl)

ends_with_by : (long bad last : Bool) → judged_by long bad last ≡ EndsWith → (long ≡ false) × (bad ≡ false) × (last ≡ true)
ends_with_by true bad last e = absurd cc
ends_with_by false true last e = absurd cc
ends_with_by false false true e = (refl, refl, refl)
ends_with_by false false false e = absurd cc

pub never_before_by : (long bad last : Bool) → judged_by long bad last ≡ EndsBefore → ⊥
never_before_by true bad last e = cc
never_before_by false true last e = cc
never_before_by false false true e = cc
never_before_by false false false e = cc

-- what a byte is that can stand in a header
pub bad_parts : (first apart comment decimal : Bool) → ((first && not apart) || (not comment && not decimal)) ≡ false → (first ≡ true → apart ≡ true)
    × (comment ≡ false → decimal ≡ true)
bad_parts first apart comment decimal e = (λ h. grind arith, λ h. grind arith)

pub not_bad : (first apart comment decimal : Bool) → (first ≡ true → apart ≡ true) → (comment ≡ false → decimal ≡ true)
    → ((first && not apart) || (not comment && not decimal)) ≡ false
not_bad true apart true decimal f g = rw (f refl) refl
not_bad true apart false decimal f g = rw (f refl, g refl) refl
not_bad false apart true decimal f g = refl
not_bad false apart false decimal f g = rw (g refl) refl

-- ---- the bytes of a header so far

-- a byte of a body, comments cut out
abbrev pub is_decimal : ℕ → Bool
is_decimal b = is_digit b || is_white b

-- there are at most so many numbers, and fewer where the last isn't going on
pub record Counted (count found : ℕ) (goes_on : Bool) : Type 0 where
  pub within : found ≤ count
  pub fewer : goes_on ≡ false → found < count

-- what is known of the bytes after the magic where each of them went on
pub record SoFar (count : ℕ) (before : List ℕ) : Type 0 where
  pub begins : begins_apart before ≡ true
  pub decimal : AllPass is_decimal (uncommented before)
  pub counted : Counted count (length (numbers_in before)) (ends_in_word (uncommented before))

-- one byte more, of three sorts
begins_push : (before : List ℕ) (b : ℕ) → begins_apart before ≡ true → ((length before == 0) ≡ true → is_apart b ≡ true)
    → begins_apart (before ++ b ∷ []) ≡ true
begins_push [] b e h = h refl
begins_push (x ∷ before) b e h = e

pub decimal_push : (before : List ℕ) (b : ℕ) → ends_in_comment before ≡ false → (b == 35) ≡ false → is_decimal b ≡ true
    → AllPass is_decimal (uncommented before) → AllPass is_decimal (uncommented (before ++ b ∷ []))
decimal_push before b outside plain e h = subst (AllPass is_decimal) (sym (uncommented-plain before b outside plain))
    (All-push (λ x. is_decimal x ≡ true) (uncommented before) b h e)

so_far-comment : (count : ℕ) (before : List ℕ) (b : ℕ) → SoFar count before → (ends_in_comment before ≡ true) ⊎ (b ≡ 35)
    → begins_apart (before ++ b ∷ []) ≡ true → SoFar count (before ++ b ∷ [])
so_far-comment count before b s h begins = record {
  begins = begins;
  decimal = subst (AllPass is_decimal) (sym (uncommented-comment before b h)) s.decimal;
  counted = rw (numbers-comment before b h, ends_in_word-comment before b h) s.counted;
}

so_far-white : {count : ℕ} {before : List ℕ} (b : ℕ) → SoFar count before → ends_in_comment before ≡ false → is_white b ≡ true
    → (length (numbers_in before) == count) ≡ false → begins_apart (before ++ b ∷ []) ≡ true → SoFar count (before ++ b ∷ [])
so_far-white {count} {before} b s outside white others begins =
    let not_all : length (numbers_in before) ≡ count → ⊥ = eqb-false (length (numbers_in before)) count others in
    let within = s.counted.within in
    let less : length (numbers_in before) < count = omega arith in
    record {
      begins = begins;
      decimal = decimal_push before b outside (white_is_not_sharp b white) (grind (arith, white)) s.decimal;
      counted = rw (numbers-white before b outside white) (record { within = s.counted.within; fewer = λ e. less });
    }

digit_counted : {count : ℕ} (before : List ℕ) (b : ℕ) (goes_on : Bool) → ends_in_word (uncommented before) ≡ goes_on
    → Counted count (length (numbers_in before)) goes_on → ends_in_comment before ≡ false → is_digit b ≡ true → length (numbers_in (before ++ b ∷ [])) ≤ count
digit_counted before b true e c outside digit =
    let n = numbers-next before b outside digit e in
    let old : length (numbers_in before) ≡ length n.0 + 1 = ap (λ (t : List ℕ). length t) n.2 ∙ length-append n.0 (n.1 ∷ []) in
    let new : length (numbers_in (before ++ b ∷ [])) ≡ length n.0 + 1 = ap (λ (t : List ℕ). length t) n.3 ∙ length-append n.0 ((n.1 * 10 + (b - 48)) ∷ []) in
    let within = c.within in
    omega arith
digit_counted before b false e c outside digit =
    let new : length (numbers_in (before ++ b ∷ [])) ≡ length (numbers_in before) + 1 = ap (λ (t : List ℕ). length t) (numbers-first before b outside digit e)
    ∙ length-append (numbers_in before) ((b - 48) ∷ []) in
    let fewer = c.fewer refl in
    omega arith

so_far-digit : (count : ℕ) (before : List ℕ) (b : ℕ) → SoFar count before → ends_in_comment before ≡ false → is_digit b ≡ true
    → begins_apart (before ++ b ∷ []) ≡ true → SoFar count (before ++ b ∷ [])
so_far-digit count before b s outside digit begins = record {
  begins = begins;
  decimal = decimal_push before b outside (digit_is_not_sharp b digit) (grind (arith, digit)) s.decimal;
  counted = rw (ends_in_word-digit before b outside digit)
      (record { within = digit_counted before b (ends_in_word (uncommented before)) refl s.counted outside digit; fewer = λ e. absurd cc });
}

-- white space outside comments that ends no header
pub not_last : {comment white : Bool} (all : Bool) → (not comment && white && all) ≡ false → comment ≡ false → white ≡ true → all ≡ false
not_last all e c w = grind arith

-- a byte outside comments that is neither white space nor begins a comment
pub digit_left : (digit : Bool) {white sharp : Bool} → (digit || (white || sharp)) ≡ true → white ≡ false → sharp ≡ false → digit ≡ true
digit_left digit e w s = grind arith

so_far_by : (comment sharp white : Bool) {count : ℕ} {before : List ℕ} (b : ℕ) → ends_in_comment before ≡ comment → (b == 35) ≡ sharp → is_white b ≡ white
    → SoFar count before → (ends_in_comment before ≡ false → (is_digit b || is_apart b) ≡ true) → is_delimiter count before b ≡ false
    → begins_apart (before ++ b ∷ []) ≡ true → SoFar count (before ++ b ∷ [])
so_far_by true sharp white {count} {before} b c h w s decimal last begins = so_far-comment count before b s (inl c) begins
so_far_by false true white {count} {before} b c h w s decimal last begins = so_far-comment count before b s (inr (eqb-true b 35 h)) begins
so_far_by false false true {count} {before} b c h w s decimal last begins =
    so_far-white b s c w (not_last (length (numbers_in before) == count) last c w) begins
so_far_by false false false {count} {before} b c h w s decimal last begins = so_far-digit count before b s c (digit_left (is_digit b) (decimal c) w h) begins

-- a byte more that went on
so_far-push : {count : ℕ} {before : List ℕ} (b : ℕ) → SoFar count before → header_item count before b ≡ GoesOn → SoFar count (before ++ b ∷ [])
so_far-push {count} {before} b s e =
    let parts = goes_on_by (nat_le header_limit (length before)) (is_bad_in_header before b) (is_delimiter count before b) (sym (header_item_is count before b)
    ∙ e) in
    let byte = bad_parts (length before == 0) (is_apart b) (ends_in_comment before) (is_digit b || is_apart b) parts.1 in
    so_far_by (ends_in_comment before) (b == 35) (is_white b) b refl refl refl s byte.1 parts.2 (begins_push before b s.begins byte.0)

-- no byte so far
pub so_far_none : {count : ℕ} → 0 < count → SoFar count []
unfolding words uncommented_from
so_far_none some = record { begins = refl; decimal = All-nil (λ b. is_decimal b ≡ true); counted = record { within = omega arith; fewer = λ e. some } }

-- ---- what is read is spelled

-- the body that was read, the delimiter, and what follows
pub record Body (count : ℕ) (before text piece rest : List ℕ) : Type 0 where
  pub body : List ℕ
  pub delimiter : ℕ
  pub so_far : SoFar count body
  pub ends : header_item count body delimiter ≡ EndsWith
  pub piece_is : piece ≡ body ++ delimiter ∷ []
  pub whole : before ++ text ≡ piece ++ rest

abbrev pub pieced : ScanStatus → ℕ → List ℕ → ℕ → List ℕ → Result (List ℕ × List ℕ) InputFault
pieced scan_status count before b text = elim scan_status [
  | Fails fault ↦ Err fault
  | EndsWith ↦ Ok (before ++ b ∷ [], text)
  | EndsBefore ↦ Ok (before, b ∷ text)
  | GoesOn ↦ piece_from (header_item count) header_end (before ++ b ∷ []) text
]

body_by : (scan_status : ScanStatus) {count : ℕ} {before : List ℕ} {b : ℕ} {text piece rest : List ℕ} → header_item count before b ≡ scan_status
    → SoFar count before → pieced scan_status count before b text ≡ Ok (piece, rest)
    → (SoFar count (before ++ b ∷ []) → piece_from (header_item count) header_end (before ++ b ∷ []) text ≡ Ok (piece, rest) → Body count (before ++ b ∷ [])
    text piece rest) → Body count before (b ∷ text) piece rest
body_by (Fails fault) j s e more = absurd cc
body_by EndsWith {before} {b} {text} {piece} {rest} j s e more =
    let parts : (before ++ b ∷ [], text) ≡ (piece, rest) = ok_is (before ++ b ∷ [], text) (piece, rest) e in
    let prefix : before ++ b ∷ [] ≡ piece = ap (λ (p : List ℕ × List ℕ). p.0) parts in
    let back : text ≡ rest = ap (λ (p : List ℕ × List ℕ). p.1) parts in
    record {
      body = before;
      delimiter = b;
      so_far = s;
      ends = j;
      piece_is = sym prefix;
      whole = sym (append_assoc before (b ∷ []) text)
          ∙ ap (λ (t : List ℕ). t ++ text) prefix ∙ ap (λ (t : List ℕ). piece ++ t) back;
    }
body_by EndsBefore {count} {before} {b} j s e more =
    absurd (never_before_by (nat_le header_limit (length before)) (is_bad_in_header before b) (is_delimiter count before b) (sym (header_item_is count before b)
    ∙ j))
body_by GoesOn {before} {b} {text} j s e more =
    let found = more (so_far-push b s j) e in
    record {
      body = found.body;
      delimiter = found.delimiter;
      so_far = found.so_far;
      ends = found.ends;
      piece_is = found.piece_is;
      whole = sym (append_assoc before (b ∷ []) text) ∙ found.whole;
    }

pub body_is_read : {count : ℕ} (before text : List ℕ) {piece rest : List ℕ} → SoFar count before
    → piece_from (header_item count) header_end before text ≡ Ok (piece, rest) → Body count before text piece rest
unfolding piece_from
body_is_read before [] s e = absurd cc
body_is_read {count} before (b ∷ text) s e = body_by (header_item count before b) refl s e (λ t f. body_is_read (before ++ b ∷ []) text t f)

-- what is known of a body where the header ends with the byte after it
last_parts : (comment white all : Bool) → (not comment && white && all) ≡ true → (comment ≡ false) × (white ≡ true) × (all ≡ true)
last_parts comment white all e = (grind arith, grind arith, grind arith)

pub record Ended (count : ℕ) (body : List ℕ) (delimiter : ℕ) : Type 0 where
  pub short : length body < header_limit
  pub outside : ends_in_comment body ≡ false
  pub white : is_white delimiter ≡ true
  pub all : length (numbers_in body) ≡ count

pub ended : (count : ℕ) (body : List ℕ) (delimiter : ℕ) → header_item count body delimiter ≡ EndsWith → Ended count body delimiter
ended count body delimiter e =
    let parts = ends_with_by (nat_le header_limit (length body)) (is_bad_in_header body delimiter) (is_delimiter count body delimiter)
    (sym (header_item_is count body delimiter) ∙ e) in
    let last = last_parts (ends_in_comment body) (is_white delimiter) (length (numbers_in body) == count) parts.2 in
    record { short = leb-false header_limit (length body) parts.0; outside = last.0; white = last.1; all = eqb-true (length (numbers_in body)) count last.2 }

-- a body with all its numbers ends with the last
pub ends_in_last : {count : ℕ} (body : List ℕ) (ends : Bool) → ends_in_word (uncommented body) ≡ ends → Counted count (length (numbers_in body))
    (ends_in_word (uncommented body)) → length (numbers_in body) ≡ count → ends_in_word (uncommented body) ≡ true
ends_in_last body true e c all = e
ends_in_last body false e c all = let fewer = c.fewer e in absurd (omega arith)

-- ---- the numbers of a header

-- the numbers of a shape are those that make it
two_numbers : (numbers : List ℕ) → length numbers ≡ 2 → slice_index numbers 0 ∷ slice_index numbers 1 ∷ [] ≡ numbers
two_numbers [] e = absurd (omega arith)
two_numbers (a ∷ []) e = absurd (omega arith)
two_numbers (a ∷ b ∷ []) e = refl
two_numbers (a ∷ b ∷ c ∷ numbers) e = absurd (omega arith)

three_numbers : (numbers : List ℕ) → length numbers ≡ 3 → slice_index numbers 0 ∷ slice_index numbers 1 ∷ slice_index numbers 2 ∷ [] ≡ numbers
three_numbers [] e = absurd (omega arith)
three_numbers (a ∷ []) e = absurd (omega arith)
three_numbers (a ∷ b ∷ []) e = absurd (omega arith)
three_numbers (a ∷ b ∷ c ∷ []) e = refl
three_numbers (a ∷ b ∷ c ∷ d ∷ numbers) e = absurd (omega arith)

pub numbers_of_shape : (kind : Kind) (numbers : List ℕ) → length numbers ≡ number_count kind → header_numbers (shape_of kind numbers) ≡ numbers
numbers_of_shape Bit numbers e = two_numbers numbers e
numbers_of_shape Gray numbers e = three_numbers numbers e
numbers_of_shape Color numbers e = three_numbers numbers e
numbers_of_shape Pam numbers e = three_numbers numbers e

-- a header has some numbers
pub some_numbers : (kind : Kind) → 0 < number_count kind
some_numbers Bit = omega arith
some_numbers Gray = omega arith
some_numbers Color = omega arith
some_numbers Pam = omega arith

-- ---- the head

-- nothing is a tuple type
no_tuple_type : IsTupleType []
no_tuple_type = record { short = omega arith; one_line = All-nil (λ b. b ≢ 10); first = λ h. absurd (omega (arith, h)); last = λ h. absurd (omega (arith, h)) }

-- a shape that numbers make suits its kind
suits_kind : (kind : Kind) (numbers : List ℕ) → Suits kind (planes kind) ((shape_of kind numbers).maxval) []
suits_kind Bit numbers = (refl, refl, refl)
suits_kind Gray numbers = (refl, refl)
suits_kind Color numbers = (refl, refl)
suits_kind Pam numbers = no_tuple_type

-- numbers that make a head
pub record Made (kind : Kind) (numbers : List ℕ) (head : HeadValue) : Type 0 where
  pub head_is : head_value (shape_of kind numbers) [] ≡ head
  pub sound : IsHead head
  pub rows : 0 < head.shape.height

pub numbers_make_head : {kind : Kind} {numbers : List ℕ} {head : HeadValue} → numbers_item kind numbers ≡ Ok head → Made kind numbers head
unfolding numbers_item
numbers_make_head {kind} {numbers} e =
    let s : Shape = shape_of kind numbers in
    let good = head_or_fault_ok (shape_fault s) (head_value s []) e in
    let limits = limits_of s good.0 in
    let made : Made kind numbers (head_value s []) =
    record { head_is = refl; sound = record { limits = limits.0; suits = suits_kind kind numbers }; rows = limits.1 } in
    subst (Made kind numbers) good.1 made
