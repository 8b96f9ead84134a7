-- The lines of a PAM header: what a line says, which lines are judged to go on, and the head that they make.
use Rattle.pnm_read.proofs.Words.{◌≡◌, ℕ, ◌+◌, ◌<◌, ◌≤◌, Bool, true, false, not, ◌==◌, if◌then◌else◌, List, [], ◌∷◌, ◌++◌, length, refl, sym, ap, subst, ◌∙◌}
use Rattle.pnm_read.proofs.Words.{append_assoc, append-nil, arith, codes, pos_of_ne-zero, bytes_eq, AllPass, AllByRecursion, list_all, nat_tests}
use Rattle.pnm_read.proofs.Words.{AllPass-from_list_all, list_all-from_AllPass, bytes_eq-Decides, false_from_ne_true, not-false, ltb-false, le-ltb, eqb-false}
use Rattle.pnm_read.proofs.Words.{TooLong, BadNumber, BadPamLine, DuplicateField, ScanStatus, GoesOn, EndsWith, EndsBefore, Fails, Field, Width, Height, Depth}
use Rattle.pnm_read.proofs.Words.{Maxval, LineKind, Nothing, Number, TupleType, End, Unknown, MAX_TUPLE_TYPE_LENGTH, is_digit, decimal_value, each-middle}
use Rattle.pnm_read.proofs.Words.{each-push, first_token, second_token, value_of, name_of, line_kind, begins_with, joined_with, tuple_type_in, MaySay}
use Rattle.pnm_read.proofs.Words.{number_item, is_type_too_long, tuple_type_item, line_item}
use Rattle.std.proofs.Common.{length-append}
use Rattle.pnm_read.specs.PamLines.{kind_of_token, field_values}
use Rattle.pnm_read.proofs.LineLaws.{joined_with-nothing, field_values-append, tuple_type_in-append}
use Rattle.pnm_read.proofs.WalkLaws.{tuple_type_in-cons, tuple_type_in-nil}

-- ---- what a line says, by its first token

name_is_number : (field : Field) → kind_of_token (name_of field) ≡ Number field
unfolding kind_of_token
name_is_number Width = refl
name_is_number Height = refl
name_is_number Depth = refl
name_is_number Maxval = refl

tuple_type_is_kind : kind_of_token (codes "TUPLTYPE") ≡ TupleType
unfolding kind_of_token
tuple_type_is_kind = refl

-- a line that begins with the name of a field is one of a number
pub number_line : (field : Field) (line : List ℕ) → begins_with (name_of field) line ≡ true → line_kind line ≡ Number field
number_line field line e = ap kind_of_token (sym ((bytes_eq-Decides (name_of field) (first_token line)).0 e)) ∙ name_is_number field

-- a line that begins with TUPLTYPE is one of the tuple type
pub tuple_type_line : (line : List ℕ) → begins_with (codes "TUPLTYPE") line ≡ true → line_kind line ≡ TupleType
tuple_type_line line e = ap kind_of_token (sym ((bytes_eq-Decides (codes "TUPLTYPE") (first_token line)).0 e)) ∙ tuple_type_is_kind

-- a test that is the one of a field
abbrev test_of : Field → Bool → Bool → Bool → Bool → Bool
test_of Width w h d m = w
test_of Height w h d m = h
test_of Depth w h d m = d
test_of Maxval w h d m = m

number_is_tested : {made field : Field} (w h d m : Bool) → Number made ≡ Number field → test_of made w h d m ≡ true → test_of field w h d m ≡ true
number_is_tested {made} {field} w h d m e t = let same : made ≡ field = cc in subst (λ (f : Field). test_of f w h d m ≡ true) same t

number_chosen : (sharp w h d m t e : Bool) {field : Field}
    → (if sharp then Nothing else if w then Number Width else if h then Number Height else if d then Number Depth else if m then Number Maxval else if t then
    TupleType else if e then End else Unknown) ≡ Number field → test_of field w h d m ≡ true
number_chosen true w h d m t e k = absurd cc
number_chosen false true h d m t e k = number_is_tested true h d m k refl
number_chosen false false true d m t e k = number_is_tested false true d m k refl
number_chosen false false false true m t e k = number_is_tested false false true m k refl
number_chosen false false false false true t e k = number_is_tested false false false true k refl
number_chosen false false false false false true e k = absurd cc
number_chosen false false false false false false true k = absurd cc
number_chosen false false false false false false false k = absurd cc

test_is : (field : Field) (token : List ℕ) → test_of field (bytes_eq (name_of Width) token) (bytes_eq (name_of Height) token) (bytes_eq (name_of Depth) token)
    (bytes_eq (name_of Maxval) token) ≡ bytes_eq (name_of field) token
test_is Width token = refl
test_is Height token = refl
test_is Depth token = refl
test_is Maxval token = refl

number_token : (token : List ℕ) {field : Field} → kind_of_token token ≡ Number field → bytes_eq (name_of field) token ≡ true
unfolding kind_of_token
number_token [] e = absurd cc
number_token (b ∷ text) {field} e =
    sym (test_is field (b ∷ text))
    ∙ number_chosen (b == 35) (bytes_eq (name_of Width) (b ∷ text)) (bytes_eq (name_of Height) (b ∷ text)) (bytes_eq (name_of Depth) (b ∷ text))
    (bytes_eq (name_of Maxval) (b ∷ text)) (bytes_eq (codes "TUPLTYPE") (b ∷ text)) (bytes_eq (codes "ENDHDR") (b ∷ text)) e

-- a line of a number begins with the name of its field
pub begins_with_name : {field : Field} (line : List ℕ) → line_kind line ≡ Number field → begins_with (name_of field) line ≡ true
begins_with_name line e = number_token (first_token line) e

-- ---- what one line more adds

pub values-here : (field : Field) (line : List ℕ) (lines : List (List ℕ)) → begins_with (name_of field) line ≡ true
    → field_values field (line ∷ lines) ≡ decimal_value (second_token line) ∷ field_values field lines
unfolding field_values
values-here field line lines e = ap (λ (t : Bool). if t then decimal_value (second_token line) ∷ field_values field lines else field_values field lines) e

values-not_here : (field : Field) (line : List ℕ) (lines : List (List ℕ)) → begins_with (name_of field) line ≡ false
    → field_values field (line ∷ lines) ≡ field_values field lines
unfolding field_values
values-not_here field line lines e = ap (λ (t : Bool). if t then decimal_value (second_token line) ∷ field_values field lines else field_values field lines) e

no_values : (field : Field) → field_values field [] ≡ []
unfolding field_values
no_values field = refl

tuple_type-not_here : (line : List ℕ) (lines : List (List ℕ)) → begins_with (codes "TUPLTYPE") line ≡ false → tuple_type_in (line ∷ lines) ≡ tuple_type_in lines
tuple_type-not_here line lines e =
    tuple_type_in-cons line lines ∙ ap (λ (t : Bool). if t then joined_with (value_of line) (tuple_type_in lines) else tuple_type_in lines) e

-- a line of another kind leaves the numbers of a field
values-other : (field : Field) (lines : List (List ℕ)) (line : List ℕ) → begins_with (name_of field) line ≡ false
    → field_values field (lines ++ line ∷ []) ≡ field_values field lines
values-other field lines line e =
    field_values-append field lines (line ∷ []) ∙ ap (λ (l : List ℕ). field_values field lines ++ l) (values-not_here field line [] e ∙ no_values field)
    ∙ append-nil (field_values field lines)

-- ENDHDR adds nothing
pub values-end : (field : Field) (lines : List (List ℕ)) (line : List ℕ) → line_kind line ≡ End
    → field_values field (lines ++ line ∷ []) ≡ field_values field lines
values-end field lines line k =
    values-other field lines line (false_from_ne_true (begins_with (name_of field) line) (λ e. let number = number_line field line e in cc))

-- ---- how a line is judged

abbrev pub line_by : LineKind → List (List ℕ) → List ℕ → ScanStatus
line_by kind lines line = elim kind [
  | Nothing ↦ GoesOn
  | Number field ↦ number_item lines field line
  | TupleType ↦ tuple_type_item lines line
  | End ↦ EndsWith
  | Unknown ↦ Fails BadPamLine
]

abbrev number_by : Bool → Bool → Bool → ScanStatus
number_by none bad twice = if none then Fails BadPamLine else if bad then Fails BadNumber else if twice then Fails DuplicateField else GoesOn

number_goes_on : (none bad twice : Bool) → number_by none bad twice ≡ GoesOn → (none ≡ false) × (bad ≡ false) × (twice ≡ false)
number_goes_on true bad twice e = absurd cc
number_goes_on false true twice e = absurd cc
number_goes_on false false true e = absurd cc
number_goes_on false false false e = (refl, refl, refl)

number_never_ends : (none bad twice : Bool) {j : ScanStatus} → number_by none bad twice ≡ j → (j ≡ EndsWith → ⊥) × (j ≡ EndsBefore → ⊥)
number_never_ends true bad twice e = (λ h. cc, λ h. cc)
number_never_ends false true twice e = (λ h. cc, λ h. cc)
number_never_ends false false true e = (λ h. cc, λ h. cc)
number_never_ends false false false e = (λ h. cc, λ h. cc)

type_goes_on : (long : Bool) → (if long then Fails TooLong else GoesOn) ≡ GoesOn → long ≡ false
type_goes_on true e = absurd cc
type_goes_on false e = refl

type_never_ends : (long : Bool) {j : ScanStatus} → (if long then Fails TooLong else GoesOn) ≡ j → (j ≡ EndsWith → ⊥) × (j ≡ EndsBefore → ⊥)
type_never_ends true e = (λ h. cc, λ h. cc)
type_never_ends false e = (λ h. cc, λ h. cc)

-- where a line of a number goes on, it has a number, the first of its field
record FirstNumber (lines : List (List ℕ)) (field : Field) (line : List ℕ) : Type 0 where
  pub some : 0 < length (second_token line)
  pub digits : AllPass is_digit (second_token line)
  pub first : length (field_values field lines) ≡ 0

zero_is : (n : ℕ) → not (n == 0) ≡ false → n ≡ 0
zero_is n e = grind (arith, nat_tests)

first_number : {lines : List (List ℕ)} {field : Field} {line : List ℕ} → number_item lines field line ≡ GoesOn → FirstNumber lines field line
first_number {lines} {field} {line} e =
    let tests = number_goes_on (length (second_token line) == 0) (not (list_all is_digit (second_token line))) (not (length (field_values field lines) == 0))
    e in
    record {
      some = pos_of_ne-zero (eqb-false (length (second_token line)) 0 tests.0);
      digits = AllPass-from_list_all is_digit (second_token line) (not-false (list_all is_digit (second_token line)) tests.1);
      first = zero_is (length (field_values field lines)) tests.2;
    }

-- ---- lines of which each goes on

abbrev pub MayStand : List ℕ → Type 0
MayStand line = MaySay (line_kind line) line

pub record StatusValue (lines : List (List ℕ)) : Type 0 where
  pub say : AllByRecursion MayStand lines
  pub single : (field : Field) → length (field_values field lines) ≤ 1
  pub short : length (tuple_type_in lines) ≤ MAX_TUPLE_TYPE_LENGTH

one_value : (field : Field) (line : List ℕ) → begins_with (name_of field) line ≡ true → length (field_values field (line ∷ [])) ≡ 1
one_value field line e =
    ap (λ (l : List ℕ). length l) (values-here field line [] e ∙ ap (λ (l : List ℕ). decimal_value (second_token line) ∷ l) (no_values field))

module _ (lines : List (List ℕ)) (line : List ℕ) where
  -- and the tuple type
  tuple_type-other : begins_with (codes "TUPLTYPE") line ≡ false → tuple_type_in (lines ++ line ∷ []) ≡ tuple_type_in lines
  tuple_type-other e =
      tuple_type_in-append lines (line ∷ []) ∙ ap (joined_with (tuple_type_in lines)) (tuple_type-not_here line [] e ∙ tuple_type_in-nil)
      ∙ joined_with-nothing (tuple_type_in lines)

  pub tuple_type-end : line_kind line ≡ End → tuple_type_in (lines ++ line ∷ []) ≡ tuple_type_in lines
  tuple_type-end k = tuple_type-other (false_from_ne_true (begins_with (codes "TUPLTYPE") line) (λ e. let tuple = tuple_type_line line e in cc))

  -- a line of this kind is judged so
  pub line_is_judged : {kind : LineKind} → line_kind line ≡ kind → line_item lines line ≡ line_by kind lines line
  line_is_judged k = ap (λ (x : LineKind). line_by x lines line) k

  -- a line that goes on may stand in a header
  says_by : (kind : LineKind) → line_by kind lines line ≡ GoesOn → MaySay kind line
  says_by Nothing e = tt
  says_by (Number field) e = let n = first_number e in (n.some, n.digits)
  says_by TupleType e = tt
  says_by End e = cc
  says_by Unknown e = cc

  -- a line that ends a header is ENDHDR
  ends_by : (kind : LineKind) → line_by kind lines line ≡ EndsWith → kind ≡ End
  ends_by Nothing e = absurd cc
  ends_by (Number field) e =
      absurd ((number_never_ends (length (second_token line) == 0) (not (list_all is_digit (second_token line)))
      (not (length (field_values field lines) == 0)) refl).0 e)
  ends_by TupleType e = absurd ((type_never_ends (is_type_too_long (tuple_type_in (lines ++ line ∷ []))) refl).0 e)
  ends_by End e = refl
  ends_by Unknown e = absurd cc

  pub line_ends : line_item lines line ≡ EndsWith → line_kind line ≡ End
  line_ends e = ends_by (line_kind line) e

  -- no line ends a header before its LF
  never_before : (kind : LineKind) → line_by kind lines line ≡ EndsBefore → ⊥
  never_before Nothing e = cc
  never_before (Number field) e =
      (number_never_ends (length (second_token line) == 0) (not (list_all is_digit (second_token line))) (not (length (field_values field lines) == 0))
      refl).1 e
  never_before TupleType e = (type_never_ends (is_type_too_long (tuple_type_in (lines ++ line ∷ []))) refl).1 e
  never_before End e = cc
  never_before Unknown e = cc

  pub line_ends_with : line_item lines line ≡ EndsBefore → ⊥
  line_ends_with e = never_before (line_kind line) e

  single_by : (begins : Bool) (field : Field) → begins_with (name_of field) line ≡ begins → line_item lines line ≡ GoesOn
      → length (field_values field lines) ≤ 1 → length (field_values field (lines ++ line ∷ [])) ≤ 1
  single_by true field b e single =
      let first = (first_number (sym (line_is_judged (number_line field line b)) ∙ e)).first in
      let one = one_value field line b in
      let lengths : length (field_values field (lines ++ line ∷ [])) ≡ length (field_values field lines) + length (field_values field (line ∷ [])) =
      ap (λ (l : List ℕ). length l) (field_values-append field lines (line ∷ [])) ∙ length-append (field_values field lines) (field_values field (line ∷ [])) in
      omega arith
  single_by false field b e single = let lengths = ap (λ (l : List ℕ). length l) (values-other field lines line b) in omega arith

  short_by : (begins : Bool) → begins_with (codes "TUPLTYPE") line ≡ begins → line_item lines line ≡ GoesOn
      → length (tuple_type_in lines) ≤ MAX_TUPLE_TYPE_LENGTH → length (tuple_type_in (lines ++ line ∷ [])) ≤ MAX_TUPLE_TYPE_LENGTH
  short_by true b e short =
      let test = type_goes_on (is_type_too_long (tuple_type_in (lines ++ line ∷ []))) (sym (line_is_judged (tuple_type_line line b))
      ∙ e) in
      ltb-false MAX_TUPLE_TYPE_LENGTH (length (tuple_type_in (lines ++ line ∷ []))) test
  short_by false b e short = let lengths = ap (λ (l : List ℕ). length l) (tuple_type-other b) in omega arith

-- with one line more that goes on
pub judged-push : (lines : List (List ℕ)) (line : List ℕ) → StatusValue lines → line_item lines line ≡ GoesOn → StatusValue (lines ++ line ∷ [])
judged-push lines line j e = record {
  say = each-push MayStand lines line j.say (says_by lines line (line_kind line) e);
  single = λ field. single_by lines line (begins_with (name_of field) line) field refl e (j.single field);
  short = short_by lines line (begins_with (codes "TUPLTYPE") line) refl e j.short;
}

pub judged_none : StatusValue []
judged_none = record {
  say = tt;
  single = λ field. let lengths = ap (λ (l : List ℕ). length l) (no_values field) in omega arith;
  short = let lengths = ap (λ (l : List ℕ). length l) tuple_type_in-nil in omega arith;
}

-- ---- each of such lines goes on

joined_with-longer : (first text : List ℕ) → length first ≤ length (joined_with first text)
joined_with-longer [] text = omega arith
joined_with-longer (b ∷ first) [] = omega arith
joined_with-longer (b ∷ first) (c ∷ text) = omega (arith, length-append (b ∷ first) (32 ∷ c ∷ text))

some_test : (n : ℕ) → 0 < n → (n == 0) ≡ false
some_test n e = grind (arith, nat_tests)

module _ (earlier : List (List ℕ)) (line : List ℕ) (later : List (List ℕ)) where
  -- no line before has its number
  first_of_field : (field : Field) → begins_with (name_of field) line ≡ true → length (field_values field (earlier ++ line ∷ later)) ≤ 1
      → length (field_values field earlier) ≡ 0
  first_of_field field b single =
      let here : length (field_values field (line ∷ later)) ≡ length (field_values field later) + 1 =
      ap (λ (l : List ℕ). length l) (values-here field line later b) ∙ omega arith in
      let lengths : length (field_values field (earlier ++ line ∷ later)) ≡ length (field_values field earlier) + length (field_values field (line ∷ later)) =
      ap (λ (l : List ℕ). length l) (field_values-append field earlier (line ∷ later))
      ∙ length-append (field_values field earlier) (field_values field (line ∷ later)) in
      omega arith

  -- the tuple type so far is no longer than that of all lines
  tuple_type_so_far : length (tuple_type_in (earlier ++ line ∷ later)) ≤ MAX_TUPLE_TYPE_LENGTH
      → length (tuple_type_in (earlier ++ line ∷ [])) ≤ MAX_TUPLE_TYPE_LENGTH
  tuple_type_so_far short =
      let whole : tuple_type_in (earlier ++ line ∷ later) ≡ joined_with (tuple_type_in (earlier ++ line ∷ [])) (tuple_type_in later) =
      ap tuple_type_in (sym (append_assoc earlier (line ∷ []) later)) ∙ tuple_type_in-append (earlier ++ line ∷ []) later in
      let lengths = ap (λ (l : List ℕ). length l) whole in
      let longer = joined_with-longer (tuple_type_in (earlier ++ line ∷ [])) (tuple_type_in later) in
      omega arith

  goes_on_by : (kind : LineKind) → line_kind line ≡ kind → MaySay kind line → StatusValue (earlier ++ line ∷ later) → line_by kind earlier line ≡ GoesOn
  goes_on_by Nothing k says j = refl
  goes_on_by (Number field) k says j =
      let first = first_of_field field (begins_with_name line k) (j.single field) in
      rw (some_test (length (second_token line)) says.0, list_all-from_AllPass is_digit (second_token line) says.1, first) refl
  goes_on_by TupleType k says j = rw (le-ltb MAX_TUPLE_TYPE_LENGTH (length (tuple_type_in (earlier ++ line ∷ []))) (tuple_type_so_far j.short)) refl
  goes_on_by End k says j = absurd says
  goes_on_by Unknown k says j = absurd says

  pub line_goes_on : StatusValue (earlier ++ line ∷ later) → line_item earlier line ≡ GoesOn
  line_goes_on j = goes_on_by (line_kind line) refl (each-middle MayStand earlier line later j.say) j
