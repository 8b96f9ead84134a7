-- The header that was read: its magic, its head, and that it is spelled.
use Rattle.pnm_read.proofs.Words.{◌≡◌, ℕ, ◌+◌, ◌<◌, ◌≤◌, Bool, true, false, not, ◌&&◌, ◌==◌, if◌then◌else◌, List, [], ◌∷◌, ◌++◌, length, Option, Some, None}
use Rattle.pnm_read.proofs.Words.{Result, Ok, Err, refl, sym, ap, subst, ◌∙◌, arith, eqb-true, length-append, Shape, Kind, Bit, Gray, Color, Pam, HeadValue}
use Rattle.pnm_read.proofs.Words.{IsHead, InputFault, BadMagic, PlainInStream, Format, uncommented, ends_in_word, numbers_in, plain, raw, format_of}
use Rattle.pnm_read.proofs.Words.{is_plain_form, number_count, shape_of, header_numbers, SpellsPnmHeader, SpellsHeaderBy, SpellsHeader, MAX_HEADER_LENGTH}
use Rattle.pnm_read.proofs.Words.{◌>>=◌, piece_from, header_limit, header_item, header_end, numbers_item, head_by, head_at}
use Rattle.pnm_read.specs.Items.{first_magic_item, second_magic_item}
use Rattle.pnm_read.specs.Said.{format_at, pnm_head_at}
use Rattle.pnm_read.proofs.PieceLaws.{bind_ok, done, ok_is}
use Rattle.pnm_read.proofs.PamLaws.{pam_head_is_spelled}
use Rattle.pnm_read.proofs.WordLaws.{numbers-white}
use Rattle.pnm_read.proofs.HeaderLaws.{SoFar, so_far_none, body_is_read, Ended, ended, ends_in_last, numbers_of_shape, some_numbers, Made, numbers_make_head}

-- ---- the magic

first_magic_by : (p : Bool) (b : ℕ) (text rest : List ℕ) → (b == 80) ≡ p → (if p then Ok text else Err BadMagic) ≡ done rest → b ∷ text ≡ 80 ∷ rest
first_magic_by true b text rest h e = let first = eqb-true b 80 h in cc
first_magic_by false b text rest h e = absurd cc

first_magic_is_spelled : (text : List ℕ) {rest : List ℕ} → first_magic_item text ≡ Ok rest → text ≡ 80 ∷ rest
unfolding first_magic_item
first_magic_is_spelled [] e = absurd cc
first_magic_is_spelled (b ∷ text) {rest} e = first_magic_by (b == 80) b text rest refl e

-- the second byte of a magic that was read
record SecondMagic (text : List ℕ) (format : Format) (after : List ℕ) : Type 0 where
  pub digit : ℕ
  pub text_is : text ≡ digit ∷ after
  pub format_is : format_of digit ≡ Some format

-- the format that a magic names; a plain one names none after another image
abbrev pub second_magic : Bool → Option Format → List ℕ → Result (Format × List ℕ) InputFault
second_magic is_first found text = elim found [
  | Some format ↦ if is_plain_form format.form && not is_first then Err PlainInStream else Ok (format, text)
  | None ↦ Err BadMagic
]

not_refused_by : (refused : Bool) (found expected : Format × List ℕ) → (if refused then Err PlainInStream else Ok found) ≡ done expected → found ≡ expected
not_refused_by true found expected e = absurd cc
not_refused_by false found expected e = ok_is found expected e

second_magic_by : (is_first : Bool) (found : Option Format) {b : ℕ} {text : List ℕ} {format : Format} {after : List ℕ} → format_of b ≡ found
    → second_magic is_first found text ≡ Ok (format, after) → SecondMagic (b ∷ text) format after
second_magic_by is_first None h e = absurd cc
second_magic_by is_first (Some f) {b} {text} {format} {after} h e =
    let parts : (f, text) ≡ (format, after) = not_refused_by (is_plain_form f.form && not is_first) (f, text) (format, after) e in
    record { digit = b; text_is = ap (λ (p : Format × List ℕ). b ∷ p.1) parts; format_is = h ∙ ap (λ (p : Format × List ℕ). Some p.0) parts }

second_magic_is_spelled : (is_first : Bool) (text : List ℕ) {format : Format} {after : List ℕ} → second_magic_item is_first text ≡ Ok (format, after)
    → SecondMagic text format after
unfolding second_magic_item
second_magic_is_spelled is_first [] e = absurd cc
second_magic_is_spelled is_first (b ∷ text) e = second_magic_by is_first (format_of b) refl e

-- the magic that was read
record Magic (text : List ℕ) (format : Format) (after : List ℕ) : Type 0 where
  pub digit : ℕ
  pub text_is : text ≡ 80 ∷ digit ∷ after
  pub format_is : format_of digit ≡ Some format

magic_is_spelled : (is_first : Bool) {text : List ℕ} {format : Format} {after : List ℕ} → format_at is_first text ≡ Ok (format, after)
    → Magic text format after
unfolding format_at
magic_is_spelled is_first {text} e =
    let first = bind_ok (first_magic_item text) (second_magic_item is_first) e in
    let second = second_magic_is_spelled is_first first.0 first.2 in
    record {
      digit = second.digit;
      text_is = first_magic_is_spelled text first.1 ∙ ap (λ (t : List ℕ). 80 ∷ t) second.text_is;
      format_is = second.format_is;
    }

-- the kind of a format that is named
abbrev kind_named : Option Format → Kind
kind_named None = Bit
kind_named (Some format) = format.kind

-- a digit that names PAM is 7
named_other : {made : Kind} (format : Format) → made ≡ format.kind → (made ≡ Pam → ⊥) → format.kind ≡ Pam → ⊥
named_other format e other pam = other (e ∙ pam)

pam_by : (a b c d e f g : Bool) (digit : ℕ) {format : Format} → (digit == 55) ≡ g
    → (if a then plain Bit else if b then plain Gray else if c then plain Color else if d then raw Bit else if e then raw Gray else if f then raw Color else
    if g then raw Pam else None) ≡ Some format → format.kind ≡ Pam → digit ≡ 55
pam_by true b c d e f g digit {format} s h k = absurd (named_other format (ap kind_named h) (λ x. cc) k)
pam_by false true c d e f g digit {format} s h k = absurd (named_other format (ap kind_named h) (λ x. cc) k)
pam_by false false true d e f g digit {format} s h k = absurd (named_other format (ap kind_named h) (λ x. cc) k)
pam_by false false false true e f g digit {format} s h k = absurd (named_other format (ap kind_named h) (λ x. cc) k)
pam_by false false false false true f g digit {format} s h k = absurd (named_other format (ap kind_named h) (λ x. cc) k)
pam_by false false false false false true g digit {format} s h k = absurd (named_other format (ap kind_named h) (λ x. cc) k)
pam_by false false false false false false true digit s h k = eqb-true digit 55 s
pam_by false false false false false false false digit s h k = absurd cc

pam_is : (digit : ℕ) {format : Format} → format_of digit ≡ Some format → format.kind ≡ Pam → digit ≡ 55
pam_is digit h k = pam_by (digit == 49) (digit == 50) (digit == 51) (digit == 52) (digit == 53) (digit == 54) (digit == 55) digit refl h k

-- ---- the header that was read

-- the body, the delimiter and the head of a header that was read
record HeadRead (kind : Kind) (after : List ℕ) (head : HeadValue) (rest : List ℕ) : Type 0 where
  pub body : List ℕ
  pub delimiter : ℕ
  pub so_far : SoFar (number_count kind) body
  pub ended : Ended (number_count kind) body delimiter
  pub whole : after ≡ (body ++ delimiter ∷ []) ++ rest
  pub made : Made kind (numbers_in body) head

head_parts : {kind : Kind} {after : List ℕ} {head : HeadValue} {rest : List ℕ} → pnm_head_at kind after ≡ Ok (head, rest) → HeadRead kind after head rest
unfolding pnm_head_at
head_parts {kind} {after} {head} {rest} e =
    let count = number_count kind in
    let piece = bind_ok (piece_from (header_item count) header_end [] after) (λ found. numbers_item kind (numbers_in found.0) >>= λ made. Ok (made, found.1))
    e in
    let made = bind_ok (numbers_item kind (numbers_in piece.0.0)) (λ found. Ok (found, piece.0.1)) piece.2 in
    let parts : (made.0, piece.0.1) ≡ (head, rest) = ok_is (made.0, piece.0.1) (head, rest) made.2 in
    let read = body_is_read [] after (so_far_none (some_numbers kind)) piece.1 in
    let end = ended count read.body read.delimiter read.ends in
    let numbers : numbers_in piece.0.0 ≡ numbers_in read.body = ap numbers_in read.piece_is ∙ numbers-white read.body read.delimiter end.outside end.white in
    record {
      body = read.body;
      delimiter = read.delimiter;
      so_far = read.so_far;
      ended = end;
      whole = read.whole ∙ ap (λ (t : List ℕ). t ++ piece.0.1) read.piece_is ∙ ap (λ (p : HeadValue × List ℕ). (read.body ++ read.delimiter ∷ []) ++ p.1) parts;
      made = subst (λ (p : HeadValue × List ℕ). Made kind (numbers_in read.body) p.0) parts
          (subst (λ (n : List ℕ). Made kind n made.0) numbers (numbers_make_head made.1));
    }

-- a header of a short body is short
short_header : (digit delimiter : ℕ) (body : List ℕ) → length body < header_limit → length (80 ∷ digit ∷ (body ++ delimiter ∷ [])) ≤ MAX_HEADER_LENGTH
short_header digit delimiter body h = omega (arith, length-append body (delimiter ∷ []))

module _ (is_first : Bool) (text after rest : List ℕ) (format : Format) (head : HeadValue) where
  -- a header of PBM, PGM or PPM that is read is spelled
  pnm_header_is_spelled : format_at is_first text ≡ Ok (format, after) → pnm_head_at format.kind after ≡ Ok (head, rest)
      → (header : List ℕ) × (text ≡ header ++ rest) × SpellsPnmHeader header format head
  pnm_header_is_spelled f h =
      let magic = magic_is_spelled is_first f in
      let read = head_parts h in
      let numbers : List ℕ = numbers_in read.body in
      let shape : shape_of format.kind numbers ≡ head.shape = ap (λ (x : HeadValue). x.shape) read.made.head_is in (
        80 ∷ magic.digit ∷ (read.body ++ read.delimiter ∷ []),
        magic.text_is ∙ ap (λ (t : List ℕ). 80 ∷ magic.digit ∷ t) read.whole,
        record {
          digit = magic.digit;
          body = read.body;
          delimiter = read.delimiter;
          whole = refl;
          short = short_header magic.digit read.delimiter read.body read.ended.short;
          format_is = magic.format_is;
          begins = read.so_far.begins;
          decimal = read.so_far.decimal;
          numbers = sym (numbers_of_shape format.kind numbers read.ended.all) ∙ ap header_numbers shape;
          ends = ends_in_last read.body (ends_in_word (uncommented read.body)) refl read.so_far.counted read.ended.all;
          outside = read.ended.outside;
          delimiter_is = read.ended.white;
          kind = sym (ap (λ (s : Shape). s.kind) shape);
          sound = read.made.sound;
          rows = read.made.rows;
        },
      )

  -- a header of a kind that is read is spelled
  header_by : (kind : Kind) → format.kind ≡ kind → format_at is_first text ≡ Ok (format, after) → head_by kind after ≡ Ok (head, rest)
      → (header : List ℕ) × (text ≡ header ++ rest) × SpellsHeaderBy kind header format head
  header_by Bit k f h = pnm_header_is_spelled f (ap (λ (x : Kind). pnm_head_at x after) k ∙ h)
  header_by Gray k f h = pnm_header_is_spelled f (ap (λ (x : Kind). pnm_head_at x after) k ∙ h)
  header_by Color k f h = pnm_header_is_spelled f (ap (λ (x : Kind). pnm_head_at x after) k ∙ h)
  header_by Pam k f h =
      let magic = magic_is_spelled is_first f in
      let seven : magic.digit ≡ 55 = pam_is magic.digit magic.format_is k in
      let found = pam_head_is_spelled after rest head (ap format_of (sym seven) ∙ magic.format_is) h in
      (found.0, magic.text_is ∙ ap (λ (d : ℕ). 80 ∷ d ∷ after) seven ∙ found.1, found.2)

  -- a header that is read is spelled
  pub read_header_is_spelled : format_at is_first text ≡ Ok (format, after) → head_at format after ≡ Ok (head, rest)
      → (header : List ℕ) × (text ≡ header ++ rest) × SpellsHeader header format head
  read_header_is_spelled f h = header_by format.kind refl f h

-- ---- what holds of any header that is spelled

-- what is known of its head
pub record IsSpelledHead (format : Format) (head : HeadValue) : Type 0 where
  pub kind : head.shape.kind ≡ format.kind
  pub sound : IsHead head
  pub rows : 0 < head.shape.height

spelled_head_by : (kind : Kind) (text : List ℕ) {format : Format} {head : HeadValue} → format.kind ≡ kind → SpellsHeaderBy kind text format head
    → IsSpelledHead format head
spelled_head_by Bit text k s = record { kind = s.kind; sound = s.sound; rows = s.rows }
spelled_head_by Gray text k s = record { kind = s.kind; sound = s.sound; rows = s.rows }
spelled_head_by Color text k s = record { kind = s.kind; sound = s.sound; rows = s.rows }
spelled_head_by Pam text k s = record { kind = s.kind ∙ sym k; sound = s.sound; rows = s.rows }

pub spelled_head : (text : List ℕ) {format : Format} {head : HeadValue} → SpellsHeader text format head → IsSpelledHead format head
spelled_head text {format} s = spelled_head_by format.kind text refl s

-- it has some bytes
longer_than : {text : List ℕ} {b : ℕ} {others : List ℕ} → text ≡ b ∷ others → 0 < length text
longer_than {text} {others} e = let lengths : length text ≡ length others + 1 = ap (λ (t : List ℕ). length t) e ∙ omega arith in omega arith

bytes_by : (kind : Kind) (text : List ℕ) (format : Format) (head : HeadValue) → SpellsHeaderBy kind text format head → 0 < length text
bytes_by Bit text format head s = longer_than s.whole
bytes_by Gray text format head s = longer_than s.whole
bytes_by Color text format head s = longer_than s.whole
bytes_by Pam text format head s = longer_than s.whole

pub header_has_bytes : (header : List ℕ) (format : Format) (head : HeadValue) → SpellsHeader header format head → 0 < length header
header_has_bytes header format head s = bytes_by format.kind header format head s

-- what follows a header that is read is shorter than the text
pub header_shorter : (is_first : Bool) (text after : List ℕ) (format : Format) {found : HeadValue × List ℕ} → format_at is_first text ≡ Ok (format, after)
    → head_at format after ≡ Ok found → length found.1 < length text
header_shorter is_first text after format {found} f h =
    let header = read_header_is_spelled is_first text after found.1 format found.0 f h in
    let some = header_has_bytes header.0 format found.0 header.2 in
    let lengths : length text ≡ length header.0 + length found.1 = ap (λ (t : List ℕ). length t) header.1 ∙ length-append header.0 found.1 in
    omega arith
