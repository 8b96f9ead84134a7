-- The bytes of a plain sample's piece: how each is judged, what a step of the piece finds, and how the gap before the sample is gone over.
use Rattle.pnm_read.proofs.Words.{◌≡◌, ℕ, ◌+◌, ◌-◌, ◌*◌, ◌<◌, ◌≤◌, Bool, true, false, not, cond, ◌&&◌, ◌||◌, List, [], ◌∷◌, ◌++◌, length, Option, Some, None}
use Rattle.pnm_read.proofs.Words.{Result, Ok, Err, refl, sym, ap, ap₂, subst, ◌∙◌, append_assoc, append-nil, arith, inl, inr, nat_le, filter, AllPass, lt-leb}
use Rattle.pnm_read.proofs.Words.{eqb-true, and_right, nat_tests, digits_value_push, filter-append, All-head, All-tail, All-push, InputFault, TooLong}
use Rattle.pnm_read.proofs.Words.{BadSample, ScanStatus, GoesOn, EndsWith, EndsBefore, Fails, is_line_end, is_apart, commented, ends_in_comment, uncommented}
use Rattle.pnm_read.proofs.Words.{number_in, is_white, is_digit, decimal_value, IsGap, ◌>>=◌, ends_in_digit, is_complete, is_pixel, GAP_LIMIT}
use Rattle.std.proofs.Common.{length-append}
use Rattle.std.specs.Prelude.{◌==◌, if◌then◌else◌}
use Rattle.pnm_read.specs.HeaderTexts.{ends_by, uncommented_from}
use Rattle.pnm_read.specs.Items.{piece_from, decimal_item, pixel_item}
use Rattle.pnm_read.proofs.CommentLaws.{commented_after-push, ends_by-push}
use Rattle.pnm_read.proofs.WordLaws.{digit_is_not_sharp, digit_value_is, uncommented-plain, uncommented-comment}

-- ---- one byte more

-- a digit outside comments is one more digit of the number
pub number_in-digit : (before : List ℕ) (b : ℕ) → ends_in_comment before ≡ false → is_digit b ≡ true
    → number_in (before ++ b ∷ []) ≡ number_in before * 10 + (b - 48)
number_in-digit before b e h =
    let digits : List ℕ = filter is_digit (uncommented before) in
    let left : filter is_digit (uncommented (before ++ b ∷ [])) ≡ digits ++ b ∷ [] =
    ap (λ (t : List ℕ). filter is_digit t) (uncommented-plain before b e (digit_is_not_sharp b h)) ∙ filter-append is_digit (uncommented before) (b ∷ [])
    ∙ ap (λ (t : Bool). digits ++ cond t (b ∷ []) []) h in
    ap decimal_value left ∙ digits_value_push 10 digits b ∙ ap (λ (n : ℕ). number_in before * 10 + n) (digit_value_is b h)

-- outside comments, a byte that is no digit leaves the digits
digits_stay : (before : List ℕ) (b : ℕ) (mark : Bool) → ends_in_comment before ≡ false → (b == 35) ≡ mark → is_digit b ≡ false
    → filter is_digit (uncommented (before ++ b ∷ [])) ≡ filter is_digit (uncommented before)
digits_stay before b true e m h = ap (λ (t : List ℕ). filter is_digit t) (uncommented-comment before b (inr (eqb-true b 35 m)))
digits_stay before b false e m h =
    let digits : List ℕ = filter is_digit (uncommented before) in
    ap (λ (t : List ℕ). filter is_digit t) (uncommented-plain before b e m) ∙ filter-append is_digit (uncommented before) (b ∷ [])
    ∙ ap (λ (t : Bool). digits ++ cond t (b ∷ []) []) h ∙ append-nil digits

number_by : (before : List ℕ) (b : ℕ) (inside : Bool) → ends_in_comment before ≡ inside → (not inside && is_digit b) ≡ false
    → number_in (before ++ b ∷ []) ≡ number_in before
number_by before b true e h = ap (λ (t : List ℕ). decimal_value (filter is_digit t)) (uncommented-comment before b (inl e))
number_by before b false e h = ap decimal_value (digits_stay before b (b == 35) e refl h)

-- another byte leaves the number: one in a comment, or no digit
pub number_in-other : (before : List ℕ) (b : ℕ) → (not (ends_in_comment before) && is_digit b) ≡ false → number_in (before ++ b ∷ []) ≡ number_in before
number_in-other before b h = number_by before b (ends_in_comment before) refl h

-- ---- steps

-- the value of a step that did not fail
pub bind_ok : {A B : Type 0} (r : Result A InputFault) (f : A → Result B InputFault) {y : B} → (r >>= f) ≡ Ok y → (x : A) × (r ≡ Ok x) × (f x ≡ Ok y)
bind_ok (Ok x) f e = (x, refl, e)
bind_ok (Err d) f e = absurd cc

-- a step that did not fail
abbrev pub done : {A : Type 0} → A → Result A InputFault
done x = Ok x

-- a step has one value
pub ok_is : {A : Type 0} (x y : A) → done x ≡ done y → x ≡ y
ok_is x y e = cc

-- a test that let a value through
pub if_ok : {A : Type 0} (t : Bool) (x y : A) (fault : InputFault) → (if t then Ok x else Err fault) ≡ done y → (t ≡ true) × (x ≡ y)
if_ok true x y fault e = (refl, ok_is x y e)
if_ok false x y fault e = absurd cc

-- the piece that goes on, or ends, as a byte is judged
abbrev pub piece_by : (List ℕ → ℕ → ScanStatus) → (List ℕ → Option InputFault) → List ℕ → ℕ → List ℕ → ScanStatus → Result (List ℕ × List ℕ) InputFault
piece_by item at_end before b text j = elim j [
  | Fails fault ↦ Err fault
  | EndsWith ↦ Ok (before ++ b ∷ [], text)
  | EndsBefore ↦ Ok (before, b ∷ text)
  | GoesOn ↦ piece_from item at_end (before ++ b ∷ []) text
]

-- what was found of a byte and what follows it: how the byte was judged, and what was found then
abbrev pub FoundBy : (List ℕ → ℕ → ScanStatus) → (List ℕ → Option InputFault) → List ℕ → ℕ → List ℕ → List ℕ × List ℕ → ScanStatus → Type 0
FoundBy item at_end before b text found (Fails fault) = ⊥
FoundBy item at_end before b text found EndsWith = (before ++ b ∷ [], text) ≡ found
FoundBy item at_end before b text found EndsBefore = (before, b ∷ text) ≡ found
FoundBy item at_end before b text found GoesOn = piece_from item at_end (before ++ b ∷ []) text ≡ Ok found

-- the piece where the text ends, by the fault that this is
abbrev pub piece_at_end : List ℕ → Option InputFault → Result (List ℕ × List ℕ) InputFault
piece_at_end before at_end = elim at_end [ Some fault ↦ Err fault | None ↦ Ok (before, []) ]

-- where a text has ended and a piece was found, that is what came before
ended_with : (at_end : Option InputFault) (before : List ℕ) {found : List ℕ × List ℕ} → piece_at_end before at_end ≡ Ok found
    → (at_end ≡ None) × ((before, []) ≡ found)
ended_with (Some fault) before e = absurd cc
ended_with None before {found} e = (refl, ok_is (before, []) found e)

-- ---- bytes of a gap

-- the byte is in a comment, or is white space, or begins a comment
abbrev pub in_gap : Bool → ℕ → Bool
in_gap inside b = inside || is_apart b

-- white space and # are no digits
pub apart_is_no_digit : (b : ℕ) → is_apart b ≡ true → is_digit b ≡ false
apart_is_no_digit b h = grind (arith, nat_tests)

line_end_is_no_digit : (b : ℕ) → (not (not (is_line_end b)) && is_digit b) ≡ false
line_end_is_no_digit b = grind (arith, nat_tests)

-- after a byte of a gap the text does not end in a digit outside comments
pub after_gap_byte : (inside : Bool) (b : ℕ) → in_gap inside b ≡ true → (not (commented inside b) && is_digit b) ≡ false
after_gap_byte true b h = line_end_is_no_digit b
after_gap_byte false b h = and_right (not (b == 35)) (is_digit b) (apart_is_no_digit b h)

-- whether a text with one byte more ends in a digit outside comments
pub ends_in_digit-push : (before : List ℕ) (b : ℕ) → ends_in_digit (before ++ b ∷ []) ≡ (not (commented (ends_in_comment before) b) && is_digit b)
ends_in_digit-push before b = ap₂ (λ (i d : Bool). not i && d) (commented_after-push before b) (ends_by-push is_digit before b)

-- the first byte of a gap that goes on, outside comments
outside_head : (t : Bool) (b : ℕ) (gap : List ℕ) → (b == 35) ≡ t
    → AllPass is_white (if t then uncommented_from (b == 35) gap else b ∷ uncommented_from false gap)
    → (is_apart b ≡ true) × AllPass is_white (uncommented_from (b == 35) gap)
outside_head true b gap e h = (grind (arith, nat_tests), h)
outside_head false b gap e h =
    let first : is_white b ≡ true = All-head (λ x. is_white x ≡ true) b (uncommented_from false gap) h in (
      ap (λ (t : Bool). t || (b == 35)) first,
      subst (λ (t : Bool). AllPass is_white (uncommented_from t gap)) (sym e)
          (All-tail (λ x. is_white x ≡ true) b (uncommented_from false gap) h),
    )

-- the first byte of a gap that goes on, and the gap after it
gap_head : (inside : Bool) (b : ℕ) (gap : List ℕ) → AllPass is_white (uncommented_from inside (b ∷ gap)) → (in_gap inside b ≡ true)
    × AllPass is_white (uncommented_from (commented inside b) gap)
unfolding uncommented_from
gap_head true b gap h = (refl, h)
gap_head false b gap h = outside_head (b == 35) b gap refl h

-- such a byte leaves what is not cut out white
white-push : (t : Bool) (before : List ℕ) (b : ℕ) → (b == 35) ≡ t → ends_in_comment before ≡ false → is_apart b ≡ true → AllPass is_white (uncommented before)
    → AllPass is_white (uncommented (before ++ b ∷ []))
white-push true before b e out h all = subst (AllPass is_white) (sym (uncommented-comment before b (inr (eqb-true b 35 e)))) all
white-push false before b e out h all =
    let white : is_white b ≡ true = grind (arith, nat_tests) in
    subst (AllPass is_white) (sym (uncommented-plain before b out e)) (All-push (λ x. is_white x ≡ true) (uncommented before) b all white)

white_by : (inside : Bool) (before : List ℕ) (b : ℕ) → ends_in_comment before ≡ inside → in_gap inside b ≡ true → AllPass is_white (uncommented before)
    → AllPass is_white (uncommented (before ++ b ∷ []))
white_by true before b e h all = subst (AllPass is_white) (sym (uncommented-comment before b (inl e))) all
white_by false before b e h all = white-push (b == 35) before b refl e h all

-- a gap with one of its bytes more is white
pub gap-push : (before : List ℕ) (b : ℕ) → in_gap (ends_in_comment before) b ≡ true → AllPass is_white (uncommented before)
    → AllPass is_white (uncommented (before ++ b ∷ []))
gap-push before b h all = white_by (ends_in_comment before) before b refl h all

-- ---- over a gap

-- a byte of a gap lets the piece go on
abbrev pub GoesOverGaps : (List ℕ → ℕ → ScanStatus) → Type 0
GoesOverGaps item = (before : List ℕ) (b : ℕ) → length before < GAP_LIMIT → ends_in_digit before ≡ false → in_gap (ends_in_comment before) b ≡ true
    → item before b ≡ GoesOn

-- what holds after a gap: the piece goes on, and doesn't end in a digit
abbrev pub AfterGap : (List ℕ → ℕ → ScanStatus) → (List ℕ → Option InputFault) → List ℕ → List ℕ → List ℕ → Type 0
AfterGap item at_end before gap rest = (piece_from item at_end before (gap ++ rest) ≡ piece_from item at_end (before ++ gap) rest)
    × (ends_in_digit (before ++ gap) ≡ false)

-- nothing ends in no digit
pub nothing_ends : ends_in_digit [] ≡ false
unfolding ends_by
nothing_ends = refl

module _ (item : List ℕ → ℕ → ScanStatus) (at_end : List ℕ → Option InputFault) where
  -- a piece from a byte on is as the byte is judged
  pub piece_step : (before : List ℕ) (b : ℕ) (text : List ℕ) {j : ScanStatus} → item before b ≡ j
      → piece_from item at_end before (b ∷ text) ≡ piece_by item at_end before b text j
  unfolding piece_from
  piece_step before b text e = ap (piece_by item at_end before b text) e

  found_by : (before : List ℕ) (b : ℕ) (text : List ℕ) {found : List ℕ × List ℕ} (j : ScanStatus) → piece_by item at_end before b text j ≡ Ok found
      → FoundBy item at_end before b text found j
  found_by before b text (Fails fault) e = cc
  found_by before b text {found} EndsWith e = ok_is (before ++ b ∷ [], text) found e
  found_by before b text {found} EndsBefore e = ok_is (before, b ∷ text) found e
  found_by before b text GoesOn e = e

  -- what a step found
  pub found_from : (before : List ℕ) (b : ℕ) (text : List ℕ) {found : List ℕ × List ℕ} → piece_from item at_end before (b ∷ text) ≡ Ok found
      → FoundBy item at_end before b text found (item before b)
  unfolding piece_from
  found_from before b text e = found_by before b text (item before b) e

  pub found_at_end : (before : List ℕ) {found : List ℕ × List ℕ} → piece_from item at_end before [] ≡ Ok found
      → (at_end before ≡ None) × ((before, []) ≡ found)
  unfolding piece_from
  found_at_end before e = ended_with (at_end before) before e

  -- a piece ends where the text does, if that is no fault
  pub piece_ends : (before : List ℕ) → at_end before ≡ None → piece_from item at_end before [] ≡ Ok (before, [])
  unfolding piece_from
  piece_ends before e = ap (piece_at_end before) e

  -- a piece and its rest are the whole text
  whole_by : (before : List ℕ) (b : ℕ) (text : List ℕ) (found : List ℕ × List ℕ) (j : ScanStatus)
      → (piece_from item at_end (before ++ b ∷ []) text ≡ Ok found → (before ++ b ∷ []) ++ text ≡ found.0 ++ found.1)
      → FoundBy item at_end before b text found j → before ++ b ∷ text ≡ found.0 ++ found.1
  whole_by before b text found (Fails fault) on h = absurd h
  whole_by before b text found EndsWith on h = sym (append_assoc before (b ∷ []) text) ∙ ap (λ (f : List ℕ × List ℕ). f.0 ++ f.1) h
  whole_by before b text found EndsBefore on h = ap (λ (f : List ℕ × List ℕ). f.0 ++ f.1) h
  whole_by before b text found GoesOn on h = sym (append_assoc before (b ∷ []) text) ∙ on h

  pub found_is_whole : (text before : List ℕ) {found : List ℕ × List ℕ} → piece_from item at_end before text ≡ Ok found → before ++ text ≡ found.0 ++ found.1
  found_is_whole [] before e = ap (λ (f : List ℕ × List ℕ). f.0 ++ f.1) (found_at_end before e).1
  found_is_whole (b ∷ text) before {found} e =
      whole_by before b text found (item before b) (found_is_whole text (before ++ b ∷ [])) (found_from before b text e)

  pub over_gap : GoesOverGaps item → (gap before rest : List ℕ) → ends_in_digit before ≡ false
      → AllPass is_white (uncommented_from (ends_in_comment before) gap) → length before + length gap ≤ GAP_LIMIT → AfterGap item at_end before gap rest
  over_gap on [] before rest out white short =
      let whole : before ++ [] ≡ before = append-nil before in
      (ap (λ (t : List ℕ). piece_from item at_end t rest) (sym whole), ap ends_in_digit whole ∙ out)
  over_gap on (b ∷ gap) before rest out white short =
      let head = gap_head (ends_in_comment before) b gap white in
      let here : item before b ≡ GoesOn = on before b (omega arith) out head.0 in
      let no_digit : ends_in_digit (before ++ b ∷ []) ≡ false = ends_in_digit-push before b ∙ after_gap_byte (ends_in_comment before) b head.0 in
      let left : AllPass is_white (uncommented_from (ends_in_comment (before ++ b ∷ [])) gap) =
      subst (λ (i : Bool). AllPass is_white (uncommented_from i gap)) (sym (commented_after-push before b)) head.1 in
      let long : length (before ++ b ∷ []) ≡ length before + 1 = length-append before (b ∷ []) in
      let more = over_gap on gap (before ++ b ∷ []) rest no_digit left (omega arith) in
      let whole : (before ++ b ∷ []) ++ gap ≡ before ++ b ∷ gap = append_assoc before (b ∷ []) gap in (
        piece_step before b (gap ++ rest) here ∙ more.0 ∙ ap (λ (t : List ℕ). piece_from item at_end t rest) whole,
        ap ends_in_digit (sym whole) ∙ more.1,
      )

  -- a whole gap is gone over
  pub over_whole_gap : GoesOverGaps item → {gap : List ℕ} (rest : List ℕ) → IsGap gap → length gap ≤ GAP_LIMIT → AfterGap item at_end [] gap rest
  over_whole_gap on {gap} rest g short = over_gap on gap [] rest nothing_ends g.white (omega arith)

-- ---- bytes of a number

-- how a byte of a number, or of the gap before it, is judged by three tests
abbrev pub decimal_by : Bool → Bool → Bool → ScanStatus
decimal_by long bad complete = if long && not complete then Fails TooLong else if bad then Fails BadSample else if complete then EndsBefore else GoesOn

-- a byte that cannot stand in a plain raster of numbers
abbrev pub is_bad_in_decimal : Bool → ℕ → Bool
is_bad_in_decimal inside b = not inside && not (is_digit b || is_apart b)

ends_before_by : (long : Bool) {bad complete : Bool} → bad ≡ false → complete ≡ true → decimal_by long bad complete ≡ EndsBefore
ends_before_by true b c = rw (b, c) refl
ends_before_by false b c = rw (b, c) refl

-- the tests, from each judgement
abbrev DecimalTests : Bool → Bool → Bool → ScanStatus → Type 0
DecimalTests long bad complete (Fails fault) = Unit {0}
DecimalTests long bad complete EndsWith = ⊥
DecimalTests long bad complete EndsBefore = (bad ≡ false) × (complete ≡ true)
DecimalTests long bad complete GoesOn = (long ≡ false) × (bad ≡ false) × (complete ≡ false)

decimal_tests : (long bad complete : Bool) → DecimalTests long bad complete (decimal_by long bad complete)
decimal_tests true true true = tt
decimal_tests true true false = tt
decimal_tests true false true = (refl, refl)
decimal_tests true false false = tt
decimal_tests false true complete = tt
decimal_tests false false true = (refl, refl)
decimal_tests false false false = (refl, refl, refl)

-- what a judgement of a byte of a number tells
abbrev pub DecimalTold : List ℕ → ℕ → ScanStatus → Type 0
DecimalTold before b j = DecimalTests (nat_le GAP_LIMIT (length before)) (is_bad_in_decimal (ends_in_comment before) b) (is_complete before b) j

-- ---- bytes of a pixel

abbrev pub pixel_by : Bool → Bool → Bool → ScanStatus
pixel_by long bad pixel = if long then Fails TooLong else if bad then Fails BadSample else if pixel then EndsWith else GoesOn

-- a byte that cannot stand in a plain raster of pixels
abbrev pub is_bad_in_pixels : Bool → ℕ → Bool
is_bad_in_pixels inside b = not inside && not (is_pixel b || is_apart b)

abbrev PixelTests : Bool → Bool → Bool → ScanStatus → Type 0
PixelTests long bad pixel (Fails fault) = Unit {0}
PixelTests long bad pixel EndsWith = (long ≡ false) × (bad ≡ false) × (pixel ≡ true)
PixelTests long bad pixel EndsBefore = ⊥
PixelTests long bad pixel GoesOn = (long ≡ false) × (bad ≡ false) × (pixel ≡ false)

pixel_tests : (long bad pixel : Bool) → PixelTests long bad pixel (pixel_by long bad pixel)
pixel_tests true bad pixel = tt
pixel_tests false true pixel = tt
pixel_tests false false true = (refl, refl, refl)
pixel_tests false false false = (refl, refl, refl)

-- what a judgement of a byte of a pixel's piece tells
abbrev pub PixelTold : List ℕ → ℕ → ScanStatus → Type 0
PixelTold before b j = PixelTests (nat_le GAP_LIMIT (length before)) (is_bad_in_pixels (ends_in_comment before) b) (not (ends_in_comment before) && is_pixel b)
    j

module _ (before : List ℕ) (b : ℕ) where
  pub decimal_item_is : decimal_item before b ≡ decimal_by (nat_le GAP_LIMIT (length before)) (is_bad_in_decimal (ends_in_comment before) b)
      (is_complete before b)
  unfolding decimal_item
  decimal_item_is = refl

  -- each judgement, from the tests
  pub decimal_goes_on : length before < GAP_LIMIT → is_bad_in_decimal (ends_in_comment before) b ≡ false → is_complete before b ≡ false
      → decimal_item before b ≡ GoesOn
  decimal_goes_on short good more = decimal_item_is ∙ rw (lt-leb GAP_LIMIT (length before) short, good, more) refl

  pub decimal_ends_before : is_bad_in_decimal (ends_in_comment before) b ≡ false → is_complete before b ≡ true → decimal_item before b ≡ EndsBefore
  decimal_ends_before good end = decimal_item_is ∙ ends_before_by (nat_le GAP_LIMIT (length before)) good end

  pub decimal_told : DecimalTold before b (decimal_item before b)
  decimal_told =
      subst (DecimalTold before b) (sym (decimal_item_is))
      (decimal_tests (nat_le GAP_LIMIT (length before)) (is_bad_in_decimal (ends_in_comment before) b) (is_complete before b))

  pub pixel_item_is : pixel_item before b ≡ pixel_by (nat_le GAP_LIMIT (length before)) (is_bad_in_pixels (ends_in_comment before) b)
      (not (ends_in_comment before) && is_pixel b)
  unfolding pixel_item
  pixel_item_is = refl

  pixel_goes_on : length before < GAP_LIMIT → is_bad_in_pixels (ends_in_comment before) b ≡ false → (not (ends_in_comment before) && is_pixel b) ≡ false
      → pixel_item before b ≡ GoesOn
  pixel_goes_on short good more = pixel_item_is ∙ rw (lt-leb GAP_LIMIT (length before) short, good, more) refl

  pub pixel_ends_with : length before < GAP_LIMIT → is_bad_in_pixels (ends_in_comment before) b ≡ false → (not (ends_in_comment before) && is_pixel b) ≡ true
      → pixel_item before b ≡ EndsWith
  pixel_ends_with short good end = pixel_item_is ∙ rw (lt-leb GAP_LIMIT (length before) short, good, end) refl

  pub pixel_told : PixelTold before b (pixel_item before b)
  pixel_told =
      subst (PixelTold before b) (sym (pixel_item_is))
      (pixel_tests (nat_le GAP_LIMIT (length before)) (is_bad_in_pixels (ends_in_comment before) b) (not (ends_in_comment before) && is_pixel b))

-- ---- gaps are gone over

pub good_in_gap : (inside : Bool) (b : ℕ) → in_gap inside b ≡ true → is_bad_in_decimal inside b ≡ false
good_in_gap true b h = refl
good_in_gap false b h = grind (arith, nat_tests)

good_among_pixels : (inside : Bool) (b : ℕ) → in_gap inside b ≡ true → is_bad_in_pixels inside b ≡ false
good_among_pixels true b h = refl
good_among_pixels false b h = grind (arith, nat_tests)

no_pixel_in_gap : (inside : Bool) (b : ℕ) → in_gap inside b ≡ true → (not inside && is_pixel b) ≡ false
no_pixel_in_gap true b h = refl
no_pixel_in_gap false b h = grind (arith, nat_tests)

pub decimals_go_over_gaps : GoesOverGaps decimal_item
decimals_go_over_gaps before b short out h =
    decimal_goes_on before b short (good_in_gap (ends_in_comment before) b h) (ap (λ (t : Bool). t && not (is_digit b)) out)

pub pixels_go_over_gaps : GoesOverGaps pixel_item
pixels_go_over_gaps before b short out h = pixel_goes_on before b short (good_among_pixels (ends_in_comment before) b h)
    (no_pixel_in_gap (ends_in_comment before) b h)
