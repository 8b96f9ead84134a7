-- What is read of the magic of an image.
use Rattle.pnm_read.proofs.Words.{◌≡◌, inl, ℕ, Bool, true, false, not, ◌&&◌, ◌==◌, if◌then◌else◌, List, [], ◌∷◌, Option, Some, None, Result, Ok, Err, refl, sym}
use Rattle.pnm_read.proofs.Words.{ap, subst, ◌∙◌, ne_eqb, InputFault, EmptyInput, BadMagic, HeaderCut, PlainInStream, ReadFailed, Format, format_of}
use Rattle.pnm_read.proofs.Words.{is_plain_form, format_allowed, format_named, IsByte, Finds}
use Rattle.pnm_read.specs.Items.{first_magic_item, second_magic_item}
use Rattle.pnm_read.specs.Said.{format_at}

-- a byte that was read
pub byte_is : (found : Option ℕ) {byte : ℕ} (before after : List ℕ) → found ≡ Some byte → IsByte (Ok found) before after → before ≡ byte ∷ after
byte_is (Some b) {byte} before after e o = let same : b ≡ byte = cc in o ∙ ap (λ (b : ℕ). b ∷ after) same
byte_is None before after e o = absurd cc

pub no_byte : (found : Option ℕ) (before after : List ℕ) → found ≡ None → IsByte (Ok found) before after → before ≡ []
no_byte (Some b) before after e o = absurd cc
no_byte None before after e o = o.0

-- the second byte
abbrev pub second_as : Bool → List ℕ → Option Format → Result (Format × List ℕ) InputFault
second_as is_first after found = elim found [
  | Some format ↦ if is_plain_form format.form && not is_first then Err PlainInStream else Ok (format, after)
  | None ↦ Err BadMagic
]

-- a format that may come here or not
abbrev allowed_if : Bool → Format → Result Format InputFault
allowed_if refused format = if refused then Err PlainInStream else Ok format

allowed_of_text : (refused : Bool) (format : Format) → allowed_if refused format ≡ Err ReadFailed → ⊥
allowed_of_text true format e = cc
allowed_of_text false format e = cc

module _ (is_first : Bool) where
  pub magic_none : {text : List ℕ} → text ≡ [] → format_at is_first text ≡ Err EmptyInput
  unfolding format_at first_magic_item
  magic_none e = ap (format_at is_first) e

  -- another first byte
  wrong_first : (b : ℕ) (rest : List ℕ) → (b == 80) ≡ false → format_at is_first (b ∷ rest) ≡ Err BadMagic
  unfolding format_at first_magic_item
  wrong_first b rest e = rw e refl

  pub magic_wrong : {text rest : List ℕ} {b : ℕ} → text ≡ b ∷ rest → (b ≡ 80 → ⊥) → format_at is_first text ≡ Err BadMagic
  magic_wrong {rest} {b} e n = ap (format_at is_first) e ∙ wrong_first b rest (ne_eqb b 80 n)

  pub magic_cut : {text rest : List ℕ} → text ≡ 80 ∷ rest → rest ≡ [] → format_at is_first text ≡ Err HeaderCut
  unfolding format_at first_magic_item second_magic_item
  magic_cut e f = ap (format_at is_first) (e ∙ ap (λ (l : List ℕ). 80 ∷ l) f)

  pub second_is : (b : ℕ) (after : List ℕ) → format_at is_first (80 ∷ b ∷ after) ≡ second_as is_first after (format_of b)
  unfolding format_at first_magic_item second_magic_item
  second_is b after = refl

  magic_is : {text rest after : List ℕ} {b : ℕ} → text ≡ 80 ∷ rest → rest ≡ b ∷ after → format_at is_first text ≡ second_as is_first after (format_of b)
  magic_is {after} {b} e f = ap (format_at is_first) (e ∙ ap (λ (l : List ℕ). 80 ∷ l) f) ∙ second_is b after

  allowed_found : (refused : Bool) (format : Format) (text after : List ℕ)
      → format_at is_first text ≡ (if refused then Err PlainInStream else Ok (format, after)) → Finds (format_at is_first)
      (allowed_if refused format) text after
  allowed_found true format text after e = inl e
  allowed_found false format text after e = e

  format_found : (found : Option Format) (text after : List ℕ) → format_at is_first text ≡ second_as is_first after found → Finds (format_at is_first)
      (format_allowed is_first found) text after
  format_found (Some format) text after e = allowed_found (is_plain_form format.form && not is_first) format text after e
  format_found None text after e = inl e

  pub magic_found : {result : Result Format InputFault} {text rest after : List ℕ} {b : ℕ} → result ≡ format_named is_first b → text ≡ 80 ∷ rest
      → rest ≡ b ∷ after → Finds (format_at is_first) result text after
  magic_found {text} {after} {b} is e f =
      subst (λ (r : Result Format InputFault). Finds (format_at is_first) r text after) (sym is) (format_found (format_of b) text after (magic_is e f))

  named_of_text : (found : Option Format) → format_allowed is_first found ≡ Err ReadFailed → ⊥
  named_of_text (Some format) e = allowed_of_text (is_plain_form format.form && not is_first) format e
  named_of_text None e = cc

  pub magic_of_text : {result : Result Format InputFault} (b : ℕ) → result ≡ format_named is_first b → result ≡ Err ReadFailed → ⊥
  magic_of_text b is e = named_of_text (format_of b) (sym is ∙ e)
