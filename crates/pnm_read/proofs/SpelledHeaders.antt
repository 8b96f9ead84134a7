-- A header that is spelled is read: its magic, the bytes of its body, and the head that its numbers make.
use Rattle.pnm_read.proofs.Words.{◌≡◌, ℕ, suc, ◌<◌, ◌≤◌, Bool, true, false, not, ◌||◌, ◌&&◌, ◌==◌, if◌then◌else◌, List, [], ◌∷◌, ◌++◌, length, Option, Some}
use Rattle.pnm_read.proofs.Words.{None, Ok, Err, refl, sym, ap, subst, ◌∙◌, append_assoc, arith, nat_le, AllPass, eqb-true, lt-leb, eq-eqb, ne_eqb}
use Rattle.pnm_read.proofs.Words.{length-append, All-head, All-tail, Kind, Bit, Gray, Color, Pam, HeadFault, HeadValue, IsHead, Suits, head_value, shape_fault}
use Rattle.pnm_read.proofs.Words.{PlainInStream, Format, ScanStatus, GoesOn, EndsWith, is_apart, begins_apart, ends_in_comment, uncommented, ends_in_word}
use Rattle.pnm_read.proofs.Words.{numbers_in, is_white, is_digit, format_of, is_plain_form, number_count, shape_of, header_numbers, SpellsPnmHeader}
use Rattle.pnm_read.proofs.Words.{SpellsPamHeader, SpellsHeaderBy, SpellsHeader, MAX_HEADER_LENGTH, header_limit, is_bad_in_header, is_delimiter, header_item}
use Rattle.pnm_read.proofs.Words.{header_end, head_by, head_at}
use Rattle.pnm_read.specs.Items.{piece_from, first_magic_item, second_magic_item}
use Rattle.pnm_read.specs.Items.{numbers_item}
use Rattle.pnm_read.specs.Said.{format_at, pnm_head_at}
use Rattle.pnm_read.proofs.WordLaws.{uncommented-split, numbers-white, fewer_numbers}
use Rattle.pnm_read.proofs.ShapeLaws.{head_or_fault, no_shape_fault}
use Rattle.pnm_read.proofs.HeaderPieces.{goes_on_through}
use Rattle.pnm_read.proofs.PamLaws.{spelled_pam_is_head}
use Rattle.pnm_read.proofs.PieceLaws.{done}
use Rattle.pnm_read.proofs.HeaderLaws.{header_item_is, not_bad, is_decimal, pieced}
use Rattle.pnm_read.proofs.ReadHeaderLaws.{second_magic}

-- ---- what is spelled is read

-- the parts of a header that tell how its bytes are judged
record Decimal (count : ℕ) (body : List ℕ) : Type 0 where
  pub short : length body < header_limit
  pub begins : begins_apart body ≡ true
  pub decimal : AllPass is_decimal (uncommented body)
  pub all : length (numbers_in body) ≡ count
  pub ends : ends_in_word (uncommented body) ≡ true
  pub outside : ends_in_comment body ≡ false

-- a byte of the body
begins_by : (prefix : List ℕ) (b : ℕ) (others : List ℕ) → begins_apart (prefix ++ b ∷ others) ≡ true → (length prefix == 0) ≡ true → is_apart b ≡ true
begins_by [] b others e h = e
begins_by (x ∷ prefix) b others e h = absurd (omega (arith, eqb-true (length (x ∷ prefix)) 0 h))

passes_at : (p : ℕ → Bool) (a : List ℕ) (b : ℕ) (c : List ℕ) → AllPass p (a ++ b ∷ c) → p b ≡ true
passes_at p [] b c h = All-head (λ x. p x ≡ true) b c h
passes_at p (x ∷ a) b c h = passes_at p a b c (All-tail (λ y. p y ≡ true) x (a ++ b ∷ c) h)

decimal_by : (sharp : Bool) (prefix : List ℕ) (b : ℕ) (others : List ℕ) → (b == 35) ≡ sharp → AllPass is_decimal (uncommented (prefix ++ b ∷ others))
    → ends_in_comment prefix ≡ false → (is_digit b || is_apart b) ≡ true
decimal_by true prefix b others s h outside = grind (arith, s)
decimal_by false prefix b others s h outside =
    let here : is_decimal b ≡ true =
    passes_at is_decimal (uncommented prefix) b (uncommented others) (subst (AllPass is_decimal) (uncommented-split prefix b others outside s) h) in
    grind (arith, here)

-- what ends no header
no_delimiter : (comment white all : Bool) → (comment ≡ false → white ≡ true → all ≡ false) → (not comment && white && all) ≡ false
no_delimiter true white all h = refl
no_delimiter false true all h = h refl refl
no_delimiter false false all h = refl

-- no byte of the body ends the header
no_last : {count : ℕ} (prefix : List ℕ) (b : ℕ) (others : List ℕ) → Decimal count (prefix ++ b ∷ others) → is_delimiter count prefix b ≡ false
no_last {count} prefix b others d = no_delimiter (ends_in_comment prefix) (is_white b) (length (numbers_in prefix) == count) λ outside white.
    ne_eqb (length (numbers_in prefix)) count λ e. let fewer = fewer_numbers prefix b others outside white d.ends in let all = d.all in omega arith

-- each byte of the body goes on
goes_on : {count : ℕ} (prefix : List ℕ) (b : ℕ) (others : List ℕ) → Decimal count (prefix ++ b ∷ others) → header_item count prefix b ≡ GoesOn
goes_on {count} prefix b others d =
    let short = d.short in
    let long : nat_le header_limit (length prefix) ≡ false = lt-leb header_limit (length prefix) (omega (arith, length-append prefix (b ∷ others))) in
    let bad : is_bad_in_header prefix b ≡ false = not_bad (length prefix == 0) (is_apart b) (ends_in_comment prefix) (is_digit b || is_apart b)
    (begins_by prefix b others d.begins) (decimal_by (b == 35) prefix b others refl d.decimal) in
    header_item_is count prefix b ∙ rw (long, bad, no_last prefix b others d) refl

-- the byte after the body ends the header
ends_with : {count : ℕ} {body : List ℕ} (b : ℕ) → Decimal count body → is_white b ≡ true → header_item count body b ≡ EndsWith
ends_with {count} {body} b d w =
    let long : nat_le header_limit (length body) ≡ false = lt-leb header_limit (length body) d.short in
    let apart : is_apart b ≡ true = grind (arith, w) in
    let bad : is_bad_in_header body b ≡ false = not_bad (length body == 0) (is_apart b) (ends_in_comment body) (is_digit b || is_apart b) (λ e. apart)
    (λ e. grind (arith, apart)) in
    let last : is_delimiter count body b ≡ true = rw (d.outside, w, eq-eqb (length (numbers_in body)) count d.all) refl in
    header_item_is count body b ∙ rw (long, bad, last) refl

piece_ends : {scan_status : ScanStatus} (count : ℕ) (body : List ℕ) (b : ℕ) (text : List ℕ) → scan_status ≡ EndsWith
    → pieced scan_status count body b text ≡ Ok (body ++ b ∷ [], text)
piece_ends count body b text e = rw e refl

-- the body and the delimiter are read as the header's piece
body_is_piece : {count : ℕ} {body : List ℕ} (delimiter : ℕ) (rest : List ℕ) → Decimal count body → is_white delimiter ≡ true
    → piece_from (header_item count) header_end [] (body ++ delimiter ∷ rest) ≡ Ok (body ++ delimiter ∷ [], rest)
unfolding piece_from
body_is_piece {count} {body} delimiter rest d w =
    goes_on_through (header_item count) header_end [] body (delimiter ∷ rest) refl
    (λ prefix b others e. goes_on prefix b others (subst (Decimal count) (sym e) d))
    ∙ piece_ends count body delimiter rest (ends_with delimiter d w)

-- ---- the head that is spelled

-- a kind whose header is its numbers
abbrev is_named : Kind → Bool
is_named Bit = true
is_named Gray = true
is_named Color = true
is_named Pam = false

-- the numbers of a shape, and no tuple type, make the head
head_is_made : (kind : Kind) (width height depth maxval : ℕ) (tuple_type : List ℕ) → is_named kind ≡ true → Suits kind depth maxval tuple_type
    → head_value (shape_of kind (header_numbers (record { kind = kind; width = width; height = height; depth = depth; maxval = maxval }))) []
    ≡ head_value (record { kind = kind; width = width; height = height; depth = depth; maxval = maxval }) tuple_type
head_is_made Bit width height depth maxval tuple_type n s = rw (s.0, s.1, s.2) refl
head_is_made Gray width height depth maxval tuple_type n s = rw (s.0, s.1) refl
head_is_made Color width height depth maxval tuple_type n s = rw (s.0, s.1) refl
head_is_made Pam width height depth maxval tuple_type n s = absurd cc

-- numbers that make a head without a fault are read as the head
head_is_found : (kind : Kind) (numbers : List ℕ) {head : HeadValue} → head_value (shape_of kind numbers) [] ≡ head → shape_fault head.shape ≡ None
    → numbers_item kind numbers ≡ Ok head
unfolding numbers_item
head_is_found kind numbers {head} made sound =
    let shape : shape_of kind numbers ≡ head.shape = ap (λ (x : HeadValue). x.shape) made in
    let none : shape_fault (shape_of kind numbers) ≡ None = ap shape_fault shape ∙ sound in
    ap (λ (f : Option HeadFault). head_or_fault f (head_value (shape_of kind numbers) [])) none ∙ ap done made

-- the head that its numbers make
spelled_head_is_found : {kind : Kind} {head : HeadValue} → is_named kind ≡ true → head.shape.kind ≡ kind → IsHead head → 0 < head.shape.height
    → numbers_item kind (header_numbers head.shape) ≡ Ok head
spelled_head_is_found {head} n k sound rows =
    let named_kind : is_named head.shape.kind ≡ true = ap is_named k ∙ n in
    let made : head_value (shape_of head.shape.kind (header_numbers head.shape)) [] ≡ head =
    head_is_made head.shape.kind head.shape.width head.shape.height head.shape.depth head.shape.maxval head.tuple_type named_kind sound.suits in
    ap (λ (x : Kind). numbers_item x (header_numbers head.shape)) (sym k)
    ∙ head_is_found head.shape.kind (header_numbers head.shape) made (no_shape_fault sound.limits rows)

-- ---- the header that is spelled

-- the numbers of a shape are as many as its kind has
count_of_numbers : (kind : Kind) (width height depth maxval : ℕ)
    → length (header_numbers (record { kind = kind; width = width; height = height; depth = depth; maxval = maxval })) ≡ number_count kind
count_of_numbers Bit width height depth maxval = refl
count_of_numbers Gray width height depth maxval = refl
count_of_numbers Color width height depth maxval = refl
count_of_numbers Pam width height depth maxval = refl

-- a header within the limit has a body within it
short_body : {text : List ℕ} {digit : ℕ} (delimiter : ℕ) (body : List ℕ) → text ≡ 80 ∷ digit ∷ (body ++ delimiter ∷ []) → length text ≤ MAX_HEADER_LENGTH
    → length body < header_limit
short_body {text} delimiter body whole short =
    let lengths : length text ≡ suc (suc (length (body ++ delimiter ∷ []))) = ap (λ (t : List ℕ). length t) whole in
    omega (arith, length-append body (delimiter ∷ []))

-- the body of a header
decimal_body : (text : List ℕ) (format : Format) (head : HeadValue) (s : SpellsPnmHeader text format head) → Decimal (number_count format.kind) s.body
decimal_body text format head s = record {
  short = short_body s.delimiter s.body s.whole s.short;
  begins = s.begins;
  decimal = s.decimal;
  all = ap (λ (t : List ℕ). length t) s.numbers ∙ count_of_numbers head.shape.kind head.shape.width head.shape.height head.shape.depth head.shape.maxval
      ∙ ap number_count s.kind;
  ends = s.ends;
  outside = s.outside;
}

-- a plain format is refused after another image alone
not_refused : (plain first : Bool) → (plain ≡ true → first ≡ true) → (plain && not first) ≡ false
not_refused true first h = rw (h refl) refl
not_refused false first h = refl

-- the magic is read
spelled_magic_is_read : (digit : ℕ) (after : List ℕ) {format : Format} (is_first : Bool) → (is_plain_form format.form ≡ true → is_first ≡ true)
    → format_of digit ≡ Some format → format_at is_first (80 ∷ digit ∷ after) ≡ Ok (format, after)
unfolding format_at first_magic_item second_magic_item
spelled_magic_is_read digit after {format} is_first first e =
    ap (λ (f : Option Format). second_magic is_first f after) e ∙ ap (λ (refused : Bool). if refused then Err PlainInStream else Ok (format, after))
    (not_refused (is_plain_form format.form) is_first first)

-- the head is read
spelled_pnm_head_is_read : {text : List ℕ} {format : Format} {head : HeadValue} (s : SpellsPnmHeader text format head) (rest : List ℕ)
    → is_named format.kind ≡ true → pnm_head_at format.kind (s.body ++ s.delimiter ∷ rest) ≡ Ok (head, rest)
unfolding pnm_head_at
spelled_pnm_head_is_read {text} {format} {head} s rest named =
    let body = decimal_body text format head s in
    let piece = body_is_piece s.delimiter rest body s.delimiter_is in
    let numbers : numbers_in (s.body ++ s.delimiter ∷ []) ≡ header_numbers head.shape = numbers-white s.body s.delimiter s.outside s.delimiter_is ∙ s.numbers in
    let found = spelled_head_is_found named s.kind s.sound s.rows in
    rw (piece, numbers, found) refl

-- where the magic and the head of a text of this kind are read
abbrev HeaderIsRead : Kind → Bool → List ℕ → Format → HeadValue → List ℕ → Type 0
HeaderIsRead kind is_first text format head rest = (after : List ℕ) × (format_at is_first text ≡ Ok (format, after)) × (head_by kind after ≡ Ok (head, rest))

-- a header of PBM, PGM or PPM that is spelled is read
spelled_pnm_is_read : {text : List ℕ} (rest : List ℕ) {format : Format} {head : HeadValue} (is_first : Bool)
    → (is_plain_form format.form ≡ true → is_first ≡ true) → is_named format.kind ≡ true → SpellsPnmHeader text format head
    → (after : List ℕ) × (format_at is_first (text ++ rest) ≡ Ok (format, after)) × (pnm_head_at format.kind after ≡ Ok (head, rest))
spelled_pnm_is_read {text} rest is_first first named s =
    let whole : text ++ rest ≡ 80 ∷ s.digit ∷ (s.body ++ s.delimiter ∷ rest) = ap (λ (t : List ℕ). t ++ rest) s.whole
    ∙ ap (λ (t : List ℕ). 80 ∷ s.digit ∷ t) (append_assoc s.body (s.delimiter ∷ []) rest) in (
      s.body ++ s.delimiter ∷ rest,
      ap (format_at is_first) whole ∙ spelled_magic_is_read s.digit (s.body ++ s.delimiter ∷ rest) is_first first s.format_is,
      spelled_pnm_head_is_read s rest named,
    )

-- a header of PAM that is spelled is read
spelled_pam_is_read : {text : List ℕ} (rest : List ℕ) {format : Format} {head : HeadValue} (is_first : Bool)
    → (is_plain_form format.form ≡ true → is_first ≡ true) → SpellsPamHeader text format head → HeaderIsRead Pam is_first (text ++ rest) format head rest
spelled_pam_is_read rest is_first first s =
    let found = spelled_pam_is_head rest s in
    (found.0, ap (format_at is_first) found.1 ∙ spelled_magic_is_read 55 found.0 is_first first s.format_is, found.2)

-- a header of a kind that is spelled is read
spelled_by : (kind : Kind) (text rest : List ℕ) (format : Format) (head : HeadValue) (is_first : Bool) → format.kind ≡ kind
    → (is_plain_form format.form ≡ true → is_first ≡ true) → SpellsHeaderBy kind text format head
    → HeaderIsRead kind is_first (text ++ rest) format head rest
spelled_by Bit text rest format head is_first k first s =
    let found = spelled_pnm_is_read rest is_first first (ap is_named k) s in
    (found.0, found.1, ap (λ (x : Kind). pnm_head_at x found.0) (sym k) ∙ found.2)
spelled_by Gray text rest format head is_first k first s =
    let found = spelled_pnm_is_read rest is_first first (ap is_named k) s in
    (found.0, found.1, ap (λ (x : Kind). pnm_head_at x found.0) (sym k) ∙ found.2)
spelled_by Color text rest format head is_first k first s =
    let found = spelled_pnm_is_read rest is_first first (ap is_named k) s in
    (found.0, found.1, ap (λ (x : Kind). pnm_head_at x found.0) (sym k) ∙ found.2)
spelled_by Pam text rest format head is_first k first s = spelled_pam_is_read rest is_first first s

-- a header that is spelled is read; a plain one as the first of a text
pub spelled_header_is_read : (text rest : List ℕ) (format : Format) (head : HeadValue) (is_first : Bool) → (is_plain_form format.form ≡ true → is_first ≡ true)
    → SpellsHeader text format head
    → (after : List ℕ) × (format_at is_first (text ++ rest) ≡ Ok (format, after)) × (head_at format after ≡ Ok (head, rest))
spelled_header_is_read text rest format head is_first first s = spelled_by format.kind text rest format head is_first refl first s
