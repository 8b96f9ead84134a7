-- The header that is written of an image spells its head.
use Rattle.pnm_serial.proofs.Words.{◌≡◌, ℕ, ◌<◌, ◌≤◌, true, ◌||◌, List, [], ◌∷◌, ◌++◌, length, codes, decimal, Some, None, refl, sym, ap, ◌∙◌, subst}
use Rattle.pnm_serial.proofs.Words.{append_assoc, arith, AllPass, Shape, Kind, Bit, Gray, Color, Pam, HeadValue, IsHead, IsWithinLimits, Format, Form, Raw}
use Rattle.pnm_serial.proofs.Words.{Plain, begins_apart, ends_in_word, is_white, is_digit, format_of, header_numbers, SpellsPnmHeader, SpellsHeaderBy}
use Rattle.pnm_serial.proofs.Words.{SpellsHeader, SpellsDecimal, kind_text, header_text, plain_kind_fault, decimal_short}
use Rattle.std.proofs.Common.{length-append}
use Rattle.pnm_serial.proofs.DecimalText.{decimal_spells}
use Rattle.pnm_serial.proofs.NumberText.{SpellsNumbers, no_numbers, number_more, ends_in_number, numbers_of}
use Rattle.pnm_serial.proofs.PamText.{pam_text_spells}

-- ---- PBM, PGM and PPM

-- the header of such an image, without the white space at its end: the sizes, and with them the maxval
abbrev sizes_body : List ℕ → List ℕ → List ℕ
sizes_body w h = (10 ∷ w) ++ 32 ∷ h

abbrev maxval_body : List ℕ → List ℕ → List ℕ → List ℕ
maxval_body w h m = sizes_body w h ++ 10 ∷ m

sizes_are : {w h : List ℕ} {width height : ℕ} → SpellsDecimal w width → SpellsDecimal h height → SpellsNumbers (sizes_body w h) (width ∷ height ∷ [])
sizes_are {w} {h} {width} {height} sw sh = number_more (10 ∷ w) (width ∷ []) 32 h height (number_more [] [] 10 w width no_numbers refl sw) refl sh

maxval_is : {w h m : List ℕ} {width height maxval : ℕ} → SpellsDecimal w width → SpellsDecimal h height → SpellsDecimal m maxval
    → SpellsNumbers (maxval_body w h m) (width ∷ height ∷ maxval ∷ [])
maxval_is {w} {h} {m} {width} {height} {maxval} sw sh sm = number_more (sizes_body w h) (width ∷ height ∷ []) 10 m maxval (sizes_are sw sh) refl sm

-- the text of the sizes
abbrev sizes_line : List ℕ → List ℕ → List ℕ
sizes_line w h = w ++ codes " " ++ h ++ codes "\n"

sizes_text : (w h : List ℕ) → sizes_line w h ≡ (w ++ 32 ∷ h) ++ 10 ∷ []
sizes_text w h = ap (λ (l : List ℕ). l ++ 10 ∷ []) (append_assoc w (32 ∷ []) h)

-- and with the maxval
maxval_text : (w h m : List ℕ) → sizes_line w h ++ (m ++ 10 ∷ []) ≡ ((w ++ 32 ∷ h) ++ 10 ∷ m) ++ 10 ∷ []
maxval_text w h m =
    ap (λ (l : List ℕ). l ++ (m ++ 10 ∷ [])) (sizes_text w h)
    ∙ append_assoc (w ++ 32 ∷ h) (10 ∷ []) (m ++ 10 ∷ [])
    ∙ sym (append_assoc (w ++ 32 ∷ h) (10 ∷ m) (10 ∷ []))

sizes_short : (w h : List ℕ) → length w ≤ 10 → length h ≤ 10 → length (sizes_line w h) ≤ 22
sizes_short w h sw sh = omega (arith, length-append (w ++ 32 ∷ [] ++ h) (10 ∷ []), length-append (w ++ 32 ∷ []) h, length-append w (32 ∷ []))

maxval_short : (w h m : List ℕ) → length w ≤ 10 → length h ≤ 10 → length m ≤ 10 → length (sizes_line w h ++ (m ++ 10 ∷ [])) ≤ 33
maxval_short w h m sw sh sm = omega (arith, sizes_short w h sw sh, length-append (sizes_line w h) (m ++ 10 ∷ []), length-append m (10 ∷ []))

-- a body of numbers, between a magic and white space
body_spells : (digit : ℕ) (body after : List ℕ) (format : Format) (head : HeadValue) → format_of digit ≡ Some format → 10 ∷ after ≡ body ++ 10 ∷ []
    → length after ≤ 33 → begins_apart body ≡ true → SpellsNumbers body (header_numbers head.shape)
    → ends_in_word body ≡ true → head.shape.kind ≡ format.kind → IsHead head → 0 < head.shape.height → SpellsPnmHeader (80 ∷ digit ∷ 10 ∷ after) format head
body_spells digit body after format head named whole short begins numbers ends kind sound rows = record {
  digit = digit;
  body = body;
  delimiter = 10;
  whole = ap (λ (l : List ℕ). 80 ∷ digit ∷ l) whole;
  short = omega arith;
  format_is = named;
  begins = begins;
  decimal = subst (AllPass (λ b. is_digit b || is_white b)) (sym numbers.plain) numbers.decimal;
  numbers = numbers_of numbers;
  ends = ap ends_in_word numbers.plain ∙ ends;
  outside = numbers.outside;
  delimiter_is = refl;
  kind = kind;
  sound = sound;
  rows = rows;
}

-- the texts of the numbers of a shape
record NumberTexts (s : Shape) : Type 0 where
  width : SpellsDecimal (decimal s.width) s.width
  height : SpellsDecimal (decimal s.height) s.height
  maxval : SpellsDecimal (decimal s.maxval) s.maxval
  width_short : length (decimal s.width) ≤ 10
  height_short : length (decimal s.height) ≤ 10
  maxval_short : length (decimal s.maxval) ≤ 10

number_texts : (s : Shape) → IsWithinLimits s → NumberTexts s
number_texts s limits = record {
  width = decimal_spells (omega (arith, limits.width_high));
  height = decimal_spells (omega (arith, limits.height_high));
  maxval = decimal_spells (omega (arith, limits.maxval_high));
  width_short = decimal_short s.width (omega (arith, limits.width_high));
  height_short = decimal_short s.height (omega (arith, limits.height_high));
  maxval_short = decimal_short s.maxval (omega (arith, limits.maxval_high));
}

-- ---- any kind

abbrev shape_by : Kind → ℕ → ℕ → ℕ → ℕ → Shape
shape_by kind width height depth maxval = record { kind = kind; width = width; height = height; depth = depth; maxval = maxval }

abbrev head_by : Kind → ℕ → ℕ → ℕ → ℕ → List ℕ → HeadValue
head_by kind width height depth maxval tuple_type = record { shape = shape_by kind width height depth maxval; tuple_type = tuple_type }

-- the format of a kind and a form
abbrev pub format_in : Form → Kind → Format
format_in form kind = record { kind = kind; form = form }

-- a header of the sizes
bit_spells : (form : Form) {digit : ℕ} (width height depth maxval : ℕ) (tuple_type : List ℕ) → format_of digit ≡ Some (format_in form Bit)
    → IsHead (head_by Bit width height depth maxval tuple_type) → 0 < height
    → SpellsPnmHeader (80 ∷ digit ∷ 10 ∷ sizes_line (decimal width) (decimal height)) (format_in form Bit) (head_by Bit width height depth maxval tuple_type)
bit_spells form {digit} width height depth maxval tuple_type named sound rows =
    let n = number_texts (shape_by Bit width height depth maxval) sound.limits in
    let w : List ℕ = decimal width in
    let h : List ℕ = decimal height in
    body_spells digit (sizes_body w h) (sizes_line w h) (format_in form Bit) (head_by Bit width height depth maxval tuple_type) named
    (ap (λ (l : List ℕ). 10 ∷ l) (sizes_text w h)) (omega (arith, sizes_short w h n.width_short n.height_short)) refl
    (sizes_are n.width n.height) (ends_in_number (10 ∷ w) 32 refl n.height) refl sound rows

-- a header of the sizes and the maxval
maxval_spells : (form : Form) (kind : Kind) {digit width height : ℕ} (depth : ℕ) {maxval : ℕ} (tuple_type : List ℕ)
    → format_of digit ≡ Some (format_in form kind) → header_numbers (shape_by kind width height depth maxval) ≡ width ∷ height ∷ maxval ∷ []
    → IsHead (head_by kind width height depth maxval tuple_type) → 0 < height
    → SpellsPnmHeader (80 ∷ digit ∷ 10 ∷ (sizes_line (decimal width) (decimal height) ++ (decimal maxval ++ 10 ∷ []))) (format_in form kind)
    (head_by kind width height depth maxval tuple_type)
maxval_spells form kind {digit} {width} {height} depth {maxval} tuple_type named numbers sound rows =
    let n = number_texts (shape_by kind width height depth maxval) sound.limits in
    let w : List ℕ = decimal width in
    let h : List ℕ = decimal height in
    let m : List ℕ = decimal maxval in
    body_spells digit (maxval_body w h m) (sizes_line w h ++ (m ++ 10 ∷ [])) (format_in form kind) (head_by kind width height depth maxval tuple_type) named
    (ap (λ (l : List ℕ). 10 ∷ l) (maxval_text w h m)) (maxval_short w h m n.width_short n.height_short n.maxval_short) refl
    (subst (SpellsNumbers (maxval_body w h m)) (sym numbers) (maxval_is n.width n.height n.maxval))
    (ends_in_number (sizes_body w h) 10 refl n.maxval) refl sound rows

-- the texts of headers, by form and kind
abbrev SpellsBy : Form → Kind → ℕ → ℕ → ℕ → ℕ → List ℕ → Type 0
SpellsBy form kind width height depth maxval tuple_type =
    SpellsHeaderBy kind (kind_text form kind (shape_by kind width height depth maxval) tuple_type) (format_in form kind)
    (head_by kind width height depth maxval tuple_type)

raw_header_by : (kind : Kind) (width height depth maxval : ℕ) (tuple_type : List ℕ) → IsHead (head_by kind width height depth maxval tuple_type) → 0 < height
    → SpellsBy Raw kind width height depth maxval tuple_type
raw_header_by Bit width height depth maxval tuple_type sound rows = bit_spells Raw width height depth maxval tuple_type refl sound rows
raw_header_by Gray width height depth maxval tuple_type sound rows = maxval_spells Raw Gray depth tuple_type refl refl sound rows
raw_header_by Color width height depth maxval tuple_type sound rows = maxval_spells Raw Color depth tuple_type refl refl sound rows
raw_header_by Pam width height depth maxval tuple_type sound rows = pam_text_spells width height depth maxval tuple_type sound rows

plain_header_by : (kind : Kind) (width height depth maxval : ℕ) (tuple_type : List ℕ) → plain_kind_fault kind ≡ None
    → IsHead (head_by kind width height depth maxval tuple_type) → 0 < height → SpellsBy Plain kind width height depth maxval tuple_type
plain_header_by Bit width height depth maxval tuple_type held sound rows = bit_spells Plain width height depth maxval tuple_type refl sound rows
plain_header_by Gray width height depth maxval tuple_type held sound rows = maxval_spells Plain Gray depth tuple_type refl refl sound rows
plain_header_by Color width height depth maxval tuple_type held sound rows = maxval_spells Plain Color depth tuple_type refl refl sound rows
plain_header_by Pam width height depth maxval tuple_type held sound rows = cc

-- the header of an image spells its head
pub raw_header_spells : {head : HeadValue} → IsHead head → 0 < head.shape.height → SpellsHeader (header_text Raw head) (format_in Raw head.shape.kind) head
raw_header_spells {head} sound rows = raw_header_by head.shape.kind head.shape.width head.shape.height head.shape.depth head.shape.maxval head.tuple_type sound
    rows

pub plain_header_spells : {head : HeadValue} → plain_kind_fault head.shape.kind ≡ None → IsHead head → 0 < head.shape.height
    → SpellsHeader (header_text Plain head) (format_in Plain head.shape.kind) head
plain_header_spells {head} held sound rows = plain_header_by head.shape.kind head.shape.width head.shape.height head.shape.depth head.shape.maxval
    head.tuple_type
    held sound rows
