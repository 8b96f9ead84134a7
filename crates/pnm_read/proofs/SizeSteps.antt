-- What the first bytes of an image tell of its size, step by step.
use Rattle.pnm_read.proofs.Words.{◌≡◌, inl, inr, ℕ, ◌+◌, ◌≤◌, Bool, true, false, not, ◌&&◌, List, [], ◌∷◌, ◌++◌, length, get_or, drop, Option, Some, None}
use Rattle.pnm_read.proofs.Words.{Result, Ok, Err, refl, sym, ap, ◌∙◌, append-nil, arith, both_ways, format_of, is_plain_form, HeadValue, Format, InputFault}
use Rattle.pnm_read.proofs.Words.{EmptyInput, CutFault, BadMagic, PlainInStream, ImageSize, Raw, Plain, SpellsHeader, format_allowed, format_named, format_at}
use Rattle.pnm_read.proofs.Words.{head_at, format_said, head_said, later_said, says_fault, TellsSize, FindsIn, FindsHead, TellsSizeAfter}
use Rattle.std.proofs.Common.{length-append, length-drop}
use Rattle.std.specs.Prelude.{if◌then◌else◌}
use Rattle.pnm_read.specs.declared.sizes.ImageSize.TheVariants.{HeaderCut}
use Rattle.pnm_read.specs.Said.{image_said}
use Rattle.pnm_read.proofs.MagicSteps.{magic_none, magic_wrong, magic_cut, magic_found, second_as, second_is}
use Rattle.pnm_read.proofs.LaterLaws.{later_is_raw}
use Rattle.pnm_read.proofs.ReadHeaderLaws.{read_header_is_spelled}
use Rattle.pnm_read.proofs.HeldHeads.{after_first_byte, first_byte_is}

-- ---- what is said of a text whose magic or header is at fault

pub magic_said : (is_first : Bool) (text : List ℕ) {fault : InputFault} → format_at is_first text ≡ Err fault
    → image_said later_said is_first text ≡ says_fault fault
unfolding image_said
magic_said is_first text e = ap (format_said later_said) e

pub header_said : (is_first : Bool) (text after : List ℕ) (format : Format) {fault : InputFault} → format_at is_first text ≡ Ok (format, after)
    → head_at format after ≡ Err fault → image_said later_said is_first text ≡ says_fault fault
unfolding image_said
header_said is_first text after format f h = ap (format_said later_said) f ∙ ap (head_said later_said format) h

-- ---- the magic

pub nothing_held : (is_first : Bool) {bytes : List ℕ} → bytes ≡ [] → TellsSize is_first bytes (Ok HeaderCut)
nothing_held is_first {bytes} e = inl (magic_said is_first bytes (magic_none is_first e))

pub letter_held : (is_first : Bool) {bytes : List ℕ} → bytes ≡ 80 ∷ [] → TellsSize is_first bytes (Ok HeaderCut)
letter_held is_first {bytes} e = inr (magic_said is_first bytes (magic_cut is_first e refl))

-- the two bytes of a magic and what follows them
pub magic_of : (bytes : List ℕ) → 1 ≤ length bytes → get_or bytes 0 0 ≡ 80 → 1 ≤ length (after_first_byte bytes)
    → bytes ≡ 80 ∷ get_or (after_first_byte bytes) 0 0 ∷ after_first_byte (after_first_byte bytes)
magic_of bytes some letter more = first_byte_is bytes some letter
    ∙ ap (λ (l : List ℕ). 80 ∷ l) (first_byte_is (after_first_byte bytes) more refl)

pub other_letter : (is_first : Bool) {bytes rest : List ℕ} {byte : ℕ} → bytes ≡ byte ∷ rest → (byte ≡ 80 → ⊥) → TellsSize is_first bytes (Err BadMagic)
other_letter is_first {bytes} e other = inl (λ more. magic_said is_first (bytes ++ more) (magic_wrong is_first (ap (λ (t : List ℕ). t ++ more) e) other))

allowed_at_fault : (refused : Bool) (format : Format) (found : Format × List ℕ) {fault : InputFault}
    → (if refused then Err PlainInStream else Ok format) ≡ Err fault → (if refused then Err PlainInStream else Ok found) ≡ Err fault
allowed_at_fault true format found {fault} e = let same : PlainInStream ≡ fault = cc in ap (λ (k : InputFault). Err k) same
allowed_at_fault false format found e = absurd cc

second_at_fault : (is_first : Bool) (found : Option Format) (after : List ℕ) {fault : InputFault} → format_allowed is_first found ≡ Err fault
    → second_as is_first after found ≡ Err fault
second_at_fault is_first None after {fault} e = let same : BadMagic ≡ fault = cc in ap (λ (k : InputFault). Err k) same
second_at_fault is_first (Some format) after e = allowed_at_fault (is_plain_form format.form && not is_first) format (format, after) e

-- the header that was found, and its length
record HeaderOf (format : Format) (bytes : List ℕ) (head : HeadValue) (size : ℕ) : Type 0 where
  pub header : List ℕ
  pub rest : List ℕ
  pub whole : bytes ≡ header ++ rest
  pub header_is : SpellsHeader header format head
  pub size_is : length header ≡ size

-- a plain image that is allowed is the first
first_if_plain : (is_first : Bool) (text after : List ℕ) (format : Format) → format_at is_first text ≡ Ok (format, after)
    → is_plain_form format.form ≡ true → is_first ≡ true
first_if_plain true text after format e plain = refl
first_if_plain false text after format e plain = absurd (both_ways (is_plain_form format.form) (later_is_raw text e) plain)

module _ (is_first : Bool) {bytes rest : List ℕ} {digit : ℕ} where
  -- no format of an image that may come is named
  pub no_format_named : {fault : InputFault} → bytes ≡ 80 ∷ digit ∷ rest → format_named is_first digit ≡ Err fault → TellsSize is_first bytes (Err fault)
  no_format_named e named = inl (λ more.
      magic_said is_first (bytes ++ more) (ap (λ (t : List ℕ). format_at is_first (t ++ more)) e ∙ second_is is_first digit (rest ++ more)
      ∙ second_at_fault is_first (format_of digit) (rest ++ more) named))

  -- ---- the header

  format_is_read : (more : List ℕ) {format : Format} → bytes ≡ 80 ∷ digit ∷ rest → format_named is_first digit ≡ Ok format
      → format_at is_first (bytes ++ more) ≡ Ok (format, rest ++ more)
  format_is_read more e named = magic_found is_first (sym named) (ap (λ (t : List ℕ). t ++ more) e) refl

  format_of_bytes : {format : Format} → bytes ≡ 80 ∷ digit ∷ rest → format_named is_first digit ≡ Ok format → format_at is_first bytes ≡ Ok (format, rest)
  format_of_bytes e named = magic_found is_first (sym named) e refl

  header_of : {format : Format} {head : HeadValue} (taken : ℕ) → bytes ≡ 80 ∷ digit ∷ rest → format_named is_first digit ≡ Ok format
      → FindsIn (head_at format) rest (Ok (Some (head, taken))) → HeaderOf format bytes head (2 + taken)
  header_of {format} {head} taken e named found =
      let left : List ℕ = drop taken rest in
      let read : head_at format rest ≡ Ok (head, left) = ap (head_at format) (sym (append-nil rest)) ∙ found.1 []
      ∙ ap (λ (t : List ℕ). Ok (head, t)) (append-nil left) in
      let h = read_header_is_spelled is_first bytes rest left format head (format_of_bytes e named) read in
      let lengths : length bytes ≡ length h.0 + length left = ap (λ (t : List ℕ). length t) h.1 ∙ length-append h.0 left in
      let count : length bytes ≡ length rest + 2 = ap (λ (t : List ℕ). length t) e ∙ omega arith in
      let within : taken ≤ length rest = found.0 in
      record { header = h.0; rest = left; whole = h.1; header_is = h.2; size_is = omega (arith, length-drop taken rest) }

  -- what the bytes after the magic tell
  pub size_is_told : {format : Format} (result : Result ImageSize InputFault) → bytes ≡ 80 ∷ digit ∷ rest → format_named is_first digit ≡ Ok format
      → TellsSizeAfter format rest result → TellsSize is_first bytes result
  size_is_told {format} (Ok HeaderCut) e named told = inr (header_said is_first bytes rest format (format_of_bytes e named) told)
  size_is_told {format} (Ok (Raw size)) e named told =
      let found : FindsHead false format rest = told.head_is in
      let h = header_of found.taken e named found.found in
      record {
        begins = record { format = format; head = found.head; header = h.header; rest = h.rest; form = found.form; whole = h.whole; header_is = h.header_is };
        size_is = let same = h.size_is in let is = told.size_is in omega arith;
      }
  size_is_told {format} (Ok Plain) e named told =
      let h = header_of told.taken e named told.found in (
        first_if_plain is_first bytes rest format (format_of_bytes e named) told.form,
        record { format = format; head = told.head; header = h.header; rest = h.rest; form = told.form; whole = h.whole; header_is = h.header_is },
      )
  size_is_told {format} (Err fault) e named (inl of_text) = inl (λ more.
      header_said is_first (bytes ++ more) (rest ++ more) format (format_is_read more e named) (of_text more))
  size_is_told (Err fault) e named (inr memory) = inr memory
