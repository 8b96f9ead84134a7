-- The header that is written of a PAM image, as a reader takes it: its lines, and what they say.
use Rattle.pnm_serial.proofs.Words.{◌≡◌, ◌≢◌, ℕ, ◌+◌, ◌<◌, ◌≤◌, Bool, true, not, ◌==◌, List, [], ◌∷◌, ◌++◌, length, All, codes, decimal, refl, sym, ap, ap₂}
use Rattle.pnm_serial.proofs.Words.{subst, ◌∙◌, append_assoc, arith, AllPass, AllByRecursion, list_all, nat_tests, All-head, All-tail, AllPass-from_list_all}
use Rattle.pnm_serial.proofs.Words.{Shape, Pam, HeadValue, IsHead, IsTupleType, is_digit, decimal_value, Format, Raw, Field, Width, Height, Depth, Maxval}
use Rattle.pnm_serial.proofs.Words.{LineKind, Number, End, value_of, name_of, line_kind, trimmed_end, joined_with, MaySay, IsPamLine, SpellsPamHeader}
use Rattle.pnm_serial.proofs.Words.{SpellsDecimal, with_feeds, value_is, tuple_type_in-cons, tuple_type_in-nil, trimmed_start-same, trimmed_end-same}
use Rattle.pnm_serial.proofs.Words.{tuple_type_line, pam_text, decimal_short}
use Rattle.std.proofs.Common.{append-nil, length-append}
use Rattle.pnm_read.specs.PamLines.{first_token, second_token, kind_of_token, field_values, tuple_type_in}
use Rattle.pnm_read.specs.Internal.LineWalks.{trimmed_start, after_token}
use Rattle.pnm_serial.proofs.DecimalText.{decimal_spells, first_token-digits, one_line-digits}

-- a byte other than LF
abbrev is_other : ℕ → Bool
is_other b = not (b == 10)

-- ---- the line of a number

-- the line of a field, without its LF
abbrev number_line : Field → List ℕ → List ℕ
number_line field digits = name_of field ++ 32 ∷ digits

number_line_kind : (field : Field) (digits : List ℕ) → line_kind (number_line field digits) ≡ Number field
unfolding first_token kind_of_token
number_line_kind Width digits = refl
number_line_kind Height digits = refl
number_line_kind Depth digits = refl
number_line_kind Maxval digits = refl

number_line_token : (field : Field) (digits : List ℕ) → AllPass is_digit digits → second_token (number_line field digits) ≡ digits
unfolding first_token second_token
number_line_token Width digits h = first_token-digits digits h
number_line_token Height digits h = first_token-digits digits h
number_line_token Depth digits h = first_token-digits digits h
number_line_token Maxval digits h = first_token-digits digits h

number_line_is_one : (field : Field) (digits : List ℕ) → list_all is_other digits ≡ true → list_all is_other (number_line field digits) ≡ true
number_line_is_one Width digits h = h
number_line_is_one Height digits h = h
number_line_is_one Depth digits h = h
number_line_is_one Maxval digits h = h

-- such a line may stand in a header
number_line_is : (field : Field) {digits : List ℕ} {n : ℕ} → SpellsDecimal digits n → IsPamLine (number_line field digits)
number_line_is field {digits} d =
    let line : List ℕ = number_line field digits in
    let number : MaySay (Number field) line = subst (λ (t : List ℕ). (0 < length t) × AllPass is_digit t) (sym (number_line_token field digits d.digits))
    (d.some, d.digits) in
    record {
      one_line = AllPass-from_list_all is_other line (number_line_is_one field digits (one_line-digits digits d.digits));
      says = subst (λ (kind : LineKind). MaySay kind line) (sym (number_line_kind field digits)) number;
    }

number_line_value : (field : Field) {digits : List ℕ} {n : ℕ} → SpellsDecimal digits n → decimal_value (second_token (number_line field digits)) ∷ [] ≡ n ∷ []
number_line_value field {digits} d = ap (λ (t : List ℕ). decimal_value t ∷ []) (number_line_token field digits d.digits) ∙ ap (λ (k : ℕ). k ∷ []) d.value

number_line_short : (field : Field) (digits : List ℕ) → length digits ≤ 10 → length (number_line field digits ++ 10 ∷ []) ≤ 18
number_line_short Width digits h = omega (arith, length-append digits (10 ∷ []))
number_line_short Height digits h = omega (arith, length-append digits (10 ∷ []))
number_line_short Depth digits h = omega (arith, length-append digits (10 ∷ []))
number_line_short Maxval digits h = omega (arith, length-append digits (10 ∷ []))

-- ---- the line of a tuple type

-- the lines of a tuple type: one, or none
abbrev tuple_type_lines : List ℕ → List (List ℕ)
tuple_type_lines [] = []
tuple_type_lines (b ∷ text) = (codes "TUPLTYPE" ++ 32 ∷ b ∷ text) ∷ []

-- the value of its line is the tuple type
tuple_type_value : {b : ℕ} {text : List ℕ} → IsTupleType (b ∷ text) → value_of (codes "TUPLTYPE" ++ 32 ∷ b ∷ text) ≡ b ∷ text
unfolding trimmed_start after_token
tuple_type_value {b} {text} h =
    value_is (codes "TUPLTYPE" ++ 32 ∷ b ∷ text) ∙ ap trimmed_end (trimmed_start-same b text (h.first (omega arith))) ∙ trimmed_end-same (b ∷ text) h.last

tuple_type_found : (tuple_type : List ℕ) → IsTupleType tuple_type → tuple_type_in (tuple_type_lines tuple_type) ≡ tuple_type
unfolding first_token
tuple_type_found [] h = tuple_type_in-nil
tuple_type_found (b ∷ text) h =
    tuple_type_in-cons (codes "TUPLTYPE" ++ 32 ∷ b ∷ text) [] ∙ ap₂ (λ (x y : List ℕ). joined_with x y) (tuple_type_value h) tuple_type_in-nil

other_byte : (b : ℕ) → b ≢ 10 → is_other b ≡ true
other_byte b h = grind (arith, nat_tests)

tuple_type_is_one : (text : List ℕ) → All (λ b. b ≢ 10) text → list_all is_other text ≡ true
tuple_type_is_one [] h = refl
tuple_type_is_one (b ∷ text) h = rw (other_byte b (All-head (λ x. x ≢ 10) b text h)) (tuple_type_is_one text (All-tail (λ x. x ≢ 10) b text h))

-- its lines may stand in a header
tuple_type_lines_are : (tuple_type : List ℕ) → IsTupleType tuple_type → AllByRecursion IsPamLine (tuple_type_lines tuple_type)
unfolding first_token kind_of_token
tuple_type_lines_are [] h = tt
tuple_type_lines_are (b ∷ text) h =
    (record { one_line = AllPass-from_list_all is_other (codes "TUPLTYPE" ++ 32 ∷ b ∷ text) (tuple_type_is_one (b ∷ text) h.one_line); says = tt }, tt)

-- they have no numbers
tuple_type_no_values : (field : Field) (tuple_type : List ℕ) → field_values field (tuple_type_lines tuple_type) ≡ []
unfolding first_token field_values
tuple_type_no_values field [] = refl
tuple_type_no_values Width (b ∷ text) = refl
tuple_type_no_values Height (b ∷ text) = refl
tuple_type_no_values Depth (b ∷ text) = refl
tuple_type_no_values Maxval (b ∷ text) = refl

tuple_type_text : (tuple_type : List ℕ) → with_feeds (tuple_type_lines tuple_type) ≡ tuple_type_line tuple_type
tuple_type_text [] = refl
tuple_type_text (b ∷ text) = append-nil (codes "TUPLTYPE " ++ (b ∷ text) ++ codes "\n")

tuple_type_short : (tuple_type : List ℕ) → length tuple_type ≤ 255 → length (tuple_type_line tuple_type) ≤ 265
tuple_type_short [] h = omega arith
tuple_type_short (b ∷ text) h = omega (arith, length-append text (10 ∷ []))

-- ---- the whole header

-- the lines before the last, of the texts of the four numbers and of a tuple type
abbrev lines_of : List ℕ → List ℕ → List ℕ → List ℕ → List ℕ → List (List ℕ)
lines_of w h d m tuple_type = number_line Width w ∷ number_line Height h ∷ number_line Depth d ∷ number_line Maxval m ∷ tuple_type_lines tuple_type

-- parts in turn
five_parts : (a b c d t e : List ℕ) → ((((a ++ b) ++ c) ++ d) ++ t) ++ e ≡ (a ++ (b ++ (c ++ (d ++ t)))) ++ e
five_parts a b c d t e = simp append_assoc

five_lengths : (a b c d t e : List ℕ) → length (((((a ++ b) ++ c) ++ d) ++ t) ++ e) ≡ length a + length b + length c + length d + length t + length e
five_lengths a b c d t e = simp length-append

-- the text of these lines, without the magic and its LF
abbrev text_of : List ℕ → List ℕ → List ℕ → List ℕ → List ℕ → List ℕ
text_of w h d m tuple_type =
    (number_line Width w ++ 10 ∷ []) ++ (number_line Height h ++ 10 ∷ []) ++ (number_line Depth d ++ 10 ∷ []) ++ (number_line Maxval m ++ 10 ∷ [])
    ++ tuple_type_line tuple_type ++ codes "ENDHDR\n"

module _ (w h d m tuple_type : List ℕ) where
  -- each number is that of its line
  lines_have : (field : Field)
      → field_values field (lines_of w h d m tuple_type) ≡ decimal_value (second_token (number_line field (elim field [
        | Width ↦ w
        | Height ↦ h
        | Depth ↦ d
        | Maxval ↦ m
      ]))) ∷ field_values field (tuple_type_lines tuple_type)
  unfolding first_token field_values
  lines_have Width = refl
  lines_have Height = refl
  lines_have Depth = refl
  lines_have Maxval = refl

  lines_have_type : tuple_type_in (lines_of w h d m tuple_type) ≡ tuple_type_in (tuple_type_lines tuple_type)
  unfolding first_token tuple_type_in
  lines_have_type = refl

  -- the number of a field
  lines_say : (field : Field) {n : ℕ} → SpellsDecimal (elim field [ Width ↦ w | Height ↦ h | Depth ↦ d | Maxval ↦ m ]) n
      → field_values field (lines_of w h d m tuple_type) ≡ n ∷ []
  lines_say field s =
      let digits : List ℕ = elim field [ Width ↦ w | Height ↦ h | Depth ↦ d | Maxval ↦ m ] in
      lines_have field
      ∙ ap (λ (l : List ℕ). decimal_value (second_token (number_line field digits)) ∷ l) (tuple_type_no_values field tuple_type)
      ∙ number_line_value field s

  -- it is the lines, and the last
  text_of_lines : text_of w h d m tuple_type ≡ with_feeds (lines_of w h d m tuple_type) ++ (codes "ENDHDR" ++ 10 ∷ [])
  text_of_lines =
      let a : List ℕ = number_line Width w ++ 10 ∷ [] in
      let b : List ℕ = number_line Height h ++ 10 ∷ [] in
      let c : List ℕ = number_line Depth d ++ 10 ∷ [] in
      let e : List ℕ = number_line Maxval m ++ 10 ∷ [] in
      five_parts a b c e (tuple_type_line tuple_type) (codes "ENDHDR\n") ∙ ap (λ (t : List ℕ). (a ++ (b ++ (c ++ (e ++ t)))) ++ codes "ENDHDR\n")
      (sym (tuple_type_text tuple_type))

  text_is_short : length w ≤ 10 → length h ≤ 10 → length d ≤ 10 → length m ≤ 10 → length tuple_type ≤ 255 → length (text_of w h d m tuple_type) ≤ 344
  text_is_short hw hh hd hm ht =
      let all = five_lengths (number_line Width w ++ 10 ∷ []) (number_line Height h ++ 10 ∷ []) (number_line Depth d ++ 10 ∷ [])
      (number_line Maxval m ++ 10 ∷ [])
      (tuple_type_line tuple_type) (codes "ENDHDR\n") in
      omega (
        arith,
        all,
        number_line_short Width w hw,
        number_line_short Height h hh,
        number_line_short Depth d hd,
        number_line_short Maxval m hm,
        tuple_type_short tuple_type ht,
      )

-- ENDHDR is the last line
last_is_end : line_kind (codes "ENDHDR") ≡ End
unfolding first_token kind_of_token
last_is_end = refl

-- the magic and its LF before it
longer_by_magic : (text : List ℕ) → length text ≤ 344 → length (codes "P7\n" ++ text) ≤ 65536
longer_by_magic text h = omega arith

-- the header of a PAM image spells its head
pub pam_text_spells : (width height depth maxval : ℕ) (tuple_type : List ℕ)
    → (let s : Shape = record { kind = Pam; width = width; height = height; depth = depth; maxval = maxval } in
    let head : HeadValue = record { shape = s; tuple_type = tuple_type } in
    let format : Format = record { kind = Pam; form = Raw } in
    IsHead head → 0 < height → SpellsPamHeader (pam_text s tuple_type) format head)
pam_text_spells width height depth maxval tuple_type sound rows =
    let limits = sound.limits in
    let type : IsTupleType tuple_type = sound.suits in
    let w = decimal_spells (omega (arith, limits.width_high)) in
    let h = decimal_spells (omega (arith, limits.height_high)) in
    let d = decimal_spells (omega (arith, limits.depth_high)) in
    let m = decimal_spells (omega (arith, limits.maxval_high)) in
    let short = text_is_short (decimal width) (decimal height) (decimal depth) (decimal maxval) tuple_type
    (decimal_short width (omega (arith, limits.width_high))) (decimal_short height (omega (arith, limits.height_high)))
    (decimal_short depth (omega (arith, limits.depth_high))) (decimal_short maxval (omega (arith, limits.maxval_high))) type.short in
    record {
      lines = lines_of (decimal width) (decimal height) (decimal depth) (decimal maxval) tuple_type;
      last = codes "ENDHDR";
      whole = ap (λ (l : List ℕ). codes "P7\n" ++ l) (text_of_lines (decimal width) (decimal height) (decimal depth) (decimal maxval) tuple_type);
      short = longer_by_magic (text_of (decimal width) (decimal height) (decimal depth) (decimal maxval) tuple_type) short;
      format_is = refl;
      lines_are = (
        number_line_is Width w,
        (
          number_line_is Height h,
          (number_line_is Depth d, (number_line_is Maxval m, tuple_type_lines_are tuple_type type)),
        ),
      );
      last_one_line = AllPass-from_list_all is_other (codes "ENDHDR") refl;
      last_ends = last_is_end;
      width = lines_say (decimal width) (decimal height) (decimal depth) (decimal maxval) tuple_type Width w;
      height = lines_say (decimal width) (decimal height) (decimal depth) (decimal maxval) tuple_type Height h;
      depth = lines_say (decimal width) (decimal height) (decimal depth) (decimal maxval) tuple_type Depth d;
      maxval = lines_say (decimal width) (decimal height) (decimal depth) (decimal maxval) tuple_type Maxval m;
      tuple_type = lines_have_type (decimal width) (decimal height) (decimal depth) (decimal maxval) tuple_type ∙ tuple_type_found tuple_type type;
      kind = refl;
      sound = sound;
      rows = rows;
    }
