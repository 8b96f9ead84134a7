-- What is said after a raw image: the end of the stream, or what is said of the next image.
use Rattle.pnm_read.proofs.Words.{◌≡◌, ℕ, zero, suc, ◌<◌, ◌≤◌, Bool, true, false, not, ◌&&◌, if◌then◌else◌, List, [], ◌∷◌, length, Option, Some, None, Result}
use Rattle.pnm_read.proofs.Words.{Ok, Err, refl, sym, ap, ◌∙◌, arith, Shape, Begin, Row, ImageEnd, HeadValue, InputFault, BadMagic, PlainInStream, Format}
use Rattle.pnm_read.proofs.Words.{format_of, is_plain_form, first_magic_item, Said, then_said, ends_stream, head_at, row_in_form, row_at, head_said}
use Rattle.pnm_read.proofs.Words.{format_said}
use Rattle.pnm_read.specs.Items.{second_magic_item}
use Rattle.pnm_read.specs.Said.{format_at, rows_said, image_said}
use Rattle.pnm_read.specs.Said.{later_said_in, later_said}
use Rattle.pnm_read.proofs.EndSaid.{end_said}
use Rattle.pnm_read.proofs.ReadHeaderLaws.{header_shorter}
use Rattle.pnm_read.proofs.RowsInTurn.{said_from}
use Rattle.pnm_read.proofs.RawLaws.{raw_row_shorter}
use Rattle.pnm_read.proofs.PieceLaws.{bind_ok}

-- ---- a later image is raw

raw_if : (plain : Bool) (format : Format) (text : List ℕ) {found : Format × List ℕ} → is_plain_form format.form ≡ plain
    → (if plain && not false then Err PlainInStream else Ok (format, text)) ≡ Ok found → is_plain_form found.0.form ≡ false
raw_if true format text e h = absurd cc
raw_if false format text {found} e h = let same : (format, text) ≡ found = cc in sym (ap (λ (f : Format × List ℕ). (is_plain_form f.0.form)) same) ∙ e

-- the format of a later image
abbrev later_named : Option Format → List ℕ → Result (Format × List ℕ) InputFault
later_named named text = elim named [
  | Some format ↦ if is_plain_form format.form && not false then Err PlainInStream else Ok (format, text)
  | None ↦ Err BadMagic
]

raw_named : (named : Option Format) (text : List ℕ) {found : Format × List ℕ} → later_named named text ≡ Ok found → is_plain_form found.0.form ≡ false
raw_named (Some format) text e = raw_if (is_plain_form format.form) format text refl e
raw_named None text e = absurd cc

second_is_raw : (text : List ℕ) {found : Format × List ℕ} → second_magic_item false text ≡ Ok found → is_plain_form found.0.form ≡ false
unfolding second_magic_item
second_is_raw [] e = absurd cc
second_is_raw (b ∷ text) e = raw_named (format_of b) text e

pub later_is_raw : (text : List ℕ) {found : Format × List ℕ} → format_at false text ≡ Ok found → is_plain_form found.0.form ≡ false
unfolding format_at
later_is_raw text e = let first = bind_ok (first_magic_item text) (second_magic_item false) e in second_is_raw first.0 first.2

-- ---- what is said of an image needs to know of shorter texts alone

abbrev SameUpTo : ℕ → (List ℕ → Said) → (List ℕ → Said) → Type 0
SameUpTo most f g = (text : List ℕ) → length text ≤ most → f text ≡ g text

raw_at : (format : Format) (s : Shape) (more : ℕ) (text : List ℕ) {found : List ℕ × List ℕ} → is_plain_form format.form ≡ false
    → row_at format s more text ≡ Ok found → length found.1 ≤ length text
raw_at format s more text raw e = raw_row_shorter s text (sym (ap (λ (b : Bool). row_in_form b s more text) raw) ∙ e)

module _ (f g : List ℕ → Said) where
  end_same : (is_plain : Bool) (text : List ℕ) → SameUpTo (length text) f g → end_said f is_plain text ≡ end_said g is_plain text
  end_same true text same = refl
  end_same false text same = same text (omega arith)

  -- rows that were read, and what follows
  from_same : (format : Format) (s : Shape) (more : ℕ) (r : Result (List ℕ × List ℕ) InputFault)
      → ((found : List ℕ × List ℕ) → r ≡ Ok found → rows_said f format s more found.1 ≡ rows_said g format s more found.1)
      → said_from f format s more r ≡ said_from g format s more r
  from_same format s more (Err fault) same = refl
  from_same format s more (Ok found) same = ap (then_said (Row found.0)) (same found refl)

  -- of a plain raster it is the same anyway
  plain_same : (format : Format) (s : Shape) (n : ℕ) (text : List ℕ) → is_plain_form format.form ≡ true
      → rows_said f format s n text ≡ rows_said g format s n text
  unfolding rows_said
  plain_same format s zero text plain = rw plain refl
  plain_same format s (suc n) text plain = from_same format s n (row_at format s n text) (λ found e. plain_same format s n found.1 plain)

  raw_same : (format : Format) (s : Shape) (n : ℕ) (text : List ℕ) → is_plain_form format.form ≡ false → SameUpTo (length text) f g
      → rows_said f format s n text ≡ rows_said g format s n text
  unfolding rows_said
  raw_same format s zero text raw same = ap (then_said ImageEnd) (end_same (is_plain_form format.form) text same)
  raw_same format s (suc n) text raw same =
      from_same format s n (row_at format s n text) (λ found e. let shorter = raw_at format s n text raw e in
      raw_same format s n found.1 raw (λ t le. same t (omega arith)))

  rows_same : (plain : Bool) (format : Format) (s : Shape) (n : ℕ) (text : List ℕ) → is_plain_form format.form ≡ plain → SameUpTo (length text) f g
      → rows_said f format s n text ≡ rows_said g format s n text
  rows_same true format s n text e same = plain_same format s n text e
  rows_same false format s n text e same = raw_same format s n text e same

  head_same : (format : Format) (r : Result (HeadValue × List ℕ) InputFault) → ((found : HeadValue × List ℕ) → r ≡ Ok found → SameUpTo (length found.1) f g)
      → head_said f format r ≡ head_said g format r
  head_same format (Err fault) same = refl
  head_same format (Ok found) same =
      ap (then_said (Begin found.0)) (rows_same (is_plain_form format.form) format found.0.shape found.0.shape.height found.1 refl (same found refl))

  format_same : (is_first : Bool) (text : List ℕ) (most : ℕ) (r : Result (Format × List ℕ) InputFault) → format_at is_first text ≡ r → length text ≤ suc most
      → SameUpTo most f g → format_said f r ≡ format_said g r
  format_same is_first text most (Err fault) e long same = refl
  format_same is_first text most (Ok found) e long same =
      head_same found.0 (head_at found.0 found.1) (λ head h t le. let less = header_shorter is_first text found.1 found.0 e h in same t (omega arith))

  image_same : (is_first : Bool) (text : List ℕ) (most : ℕ) → length text ≤ suc most → SameUpTo most f g
      → image_said f is_first text ≡ image_said g is_first text
  unfolding image_said
  image_same is_first text most long same = format_same is_first text most (format_at is_first text) refl long same

-- ---- the next image

-- as many images as there are bytes are enough
enough : (n m : ℕ) (text : List ℕ) → length text ≤ n → length text ≤ m → later_said_in n text ≡ later_said_in m text
unfolding later_said_in
enough zero zero [] le lf = refl
enough zero (suc m) [] le lf = refl
enough (suc n) zero [] le lf = refl
enough (suc n) (suc m) [] le lf = refl
enough zero m (b ∷ text) le lf = absurd (omega arith)
enough (suc n) zero (b ∷ text) le lf = absurd (omega arith)
enough (suc n) (suc m) (b ∷ text) le lf = image_same (later_said_in n) (later_said_in m) false (b ∷ text) (length text) (omega arith)
    (λ t shorter. enough n m t (omega arith) (omega arith))

pub later_said-nothing : later_said [] ≡ ends_stream
unfolding later_said later_said_in
later_said-nothing = refl

-- where a byte is left, the next image is said
pub later_said-next : (text : List ℕ) → 0 < length text → later_said text ≡ image_said later_said false text
unfolding later_said later_said_in
later_said-next [] some = absurd (omega arith)
later_said-next (b ∷ text) some = image_same (later_said_in (length text)) later_said false (b ∷ text) (length text) (omega arith)
    (λ t shorter. enough (length text) (length t) t shorter (omega arith))
