-- The head whose header some bytes begin with, and how many of them it takes.
use Rattle.pnm_read.proofs.Words.{◌≡◌, ◌==◌, inl, inr, ℕ, suc, Bool, false, if◌then◌else◌, ◌+◌, ◌<◌, ◌≤◌, ◌-◌, List, [], ◌∷◌, ◌++◌, length, get_or, take, drop}
use Rattle.pnm_read.proofs.Words.{Option, Some, None, Result, Ok, Err, refl, sym, ap, subst, ◌∙◌, append-nil, arith, ne_eqb, Kind, HeadValue, IsTupleType}
use Rattle.pnm_read.proofs.Words.{first_and_rest, InputFault, BadPamLine, HeaderScanner, PamScanner, numbers_in, number_count, ended_lines, header_item}
use Rattle.pnm_read.proofs.Words.{header_end, numbers_item, pam_item, lines_item, pnm_head_at, pam_head_at, FeedsAfter, Feeds, GivesInMemory, IsHeaderFresh}
use Rattle.pnm_read.proofs.Words.{IsHeaderAfter, IsHeaderWhole, IsPamAfter, IsPamWhole, FindsIn}
use Rattle.pnm_read.specs.Items.{piece_from, line_feed_item}
use Rattle.pnm_read.proofs.HeaderLaws.{some_numbers}
use Rattle.pnm_read.proofs.HeaderSteps.{header_fresh}
use Rattle.pnm_read.proofs.HeadSteps.{head_after, head_at_is, head_with, few_numbers, numbers_found, HeadOf}
use Rattle.pnm_read.proofs.PamSteps.{HeadOfFields}
use Rattle.pnm_read.proofs.PamSteps.{head_from, head_after as pam_after, head_at_is as pam_head_is, head_with as pam_with}
use Rattle.pnm_read.proofs.TupleTypeLaws.{tuple_type_in-is}
use Rattle.pnm_read.proofs.LineLaws.{ended_lines-are}

-- a head that is given, with the bytes that were taken for it
abbrev pub with_taken : ℕ → Result HeadValue InputFault → Result (Option (HeadValue × ℕ)) InputFault
with_taken taken (Ok head) = Ok (Some (head, taken))
with_taken taken (Err fault) = Err fault

-- ---- PBM, PGM and PPM

-- what a scanner of a header says of the bytes that come first
abbrev pub FeedsHeader : HeaderScanner → HeaderScanner → List ℕ → Result (Option ℕ) InputFault → Type 0
FeedsHeader old now bytes result =
    Feeds (header_item old.wanted) header_end (IsHeaderAfter old) (IsHeaderAfter now) (IsHeaderWhole now) bytes result

-- the piece that any text has which begins with these bytes
abbrev IsPieceOf : Kind → List ℕ → List ℕ → ℕ → Type 0
IsPieceOf kind piece bytes taken =
    (rest : List ℕ) → piece_from (header_item (number_count kind)) header_end [] (bytes ++ rest) ≡ Ok (piece, drop taken bytes ++ rest)

numbers_in_bytes : (kind : Kind) (result : Result HeadValue InputFault) (piece bytes : List ℕ) (taken : ℕ) → taken ≤ length bytes
    → IsPieceOf kind piece bytes taken → GivesInMemory result (numbers_item kind (numbers_in piece))
    → FindsIn (pnm_head_at kind) bytes (with_taken taken result)
numbers_in_bytes kind (Ok head) piece bytes taken within p gives = (
  within,
  λ rest. head_at_is kind (bytes ++ rest) ∙ ap (head_after kind) (p rest) ∙ ap (head_with (drop taken bytes ++ rest)) gives,
)
numbers_in_bytes kind (Err fault) piece bytes taken within p (inl memory) = inr memory
numbers_in_bytes kind (Err fault) piece bytes taken within p (inr numbers) =
    inl (λ rest. head_at_is kind (bytes ++ rest) ∙ ap (head_after kind) (p rest) ∙ ap (head_with (drop taken bytes ++ rest)) numbers)

module _ (kind : Kind) {wanted : ℕ} {old : HeaderScanner} (now : HeaderScanner) where
  fresh_feeds : (bytes : List ℕ) (result : Result (Option ℕ) InputFault) → IsHeaderFresh wanted old → wanted ≡ number_count kind → length old.numbers ≤ 3
      → FeedsHeader old now bytes result → FeedsAfter (header_item (number_count kind)) header_end (IsHeaderAfter now) (IsHeaderWhole now) bytes result []
  fresh_feeds bytes result fresh count three feeds =
      let some = some_numbers kind in
      let few = few_numbers kind in
      subst (λ (n : ℕ). FeedsAfter (header_item n) header_end (IsHeaderAfter now) (IsHeaderWhole now) bytes result []) (fresh.wanted_is ∙ count)
      (feeds [] (header_fresh wanted old fresh (omega arith) (omega arith) three))

  -- the header goes on after the bytes
  pub header_goes_on : (bytes : List ℕ) → IsHeaderFresh wanted old → wanted ≡ number_count kind → length old.numbers ≤ 3
      → FeedsHeader old now bytes (Ok None) → FindsIn (pnm_head_at kind) bytes (Ok None)
  unfolding piece_from
  header_goes_on bytes fresh count three feeds =
      let f = fresh_feeds bytes (Ok None) fresh count three feeds in
      head_at_is kind bytes
      ∙ ap (λ (t : List ℕ). head_after kind (piece_from (header_item (number_count kind)) header_end [] t)) (sym (append-nil bytes))
      ∙ ap (head_after kind) (f.1 [])

  -- the header is at fault
  pub header_at_fault : (bytes : List ℕ) (fault : InputFault) → IsHeaderFresh wanted old → wanted ≡ number_count kind → length old.numbers ≤ 3
      → FeedsHeader old now bytes (Err fault) → FindsIn (pnm_head_at kind) bytes (Err fault)
  header_at_fault bytes fault fresh count three feeds =
      elim (fresh_feeds bytes (Err fault) fresh count three feeds) [
        | inl of_text ↦ inl (λ rest. head_at_is kind (bytes ++ rest) ∙ ap (head_after kind) (of_text rest))
        | inr memory ↦ inr memory
      ]

  -- the header ends within the bytes
  pub header_ends : (result : Result HeadValue InputFault) (bytes : List ℕ) (taken : ℕ) → IsHeaderFresh wanted old → wanted ≡ number_count kind
      → length old.numbers ≤ 3 → HeadOf kind now.numbers result → taken ≤ length bytes → FeedsHeader old now bytes (Ok (Some taken))
      → FindsIn (pnm_head_at kind) bytes (with_taken taken result)
  header_ends result bytes taken fresh count three gives within feeds =
      let f = fresh_feeds bytes (Ok (Some taken)) fresh count three feeds in
      numbers_in_bytes kind result f.0 bytes taken within f.2
      (gives (numbers_in f.0) (numbers_found kind now (bytes ++ []) f.0 (drop taken bytes ++ []) f.1 (f.2 [])))

-- ---- PAM

-- what comes after the first byte
abbrev pub after_first_byte : List ℕ → List ℕ
after_first_byte bytes = take (length bytes - 1) (drop 1 bytes)

pub first_byte_is : (bytes : List ℕ) {byte : ℕ} → 1 ≤ length bytes → get_or bytes 0 0 ≡ byte → bytes ≡ byte ∷ after_first_byte bytes
first_byte_is bytes le is = first_and_rest bytes le ∙ ap (λ (b : ℕ). b ∷ after_first_byte bytes) is

pub no_bytes : (bytes : List ℕ) → length bytes < 1 → bytes ≡ []
no_bytes [] lt = refl
no_bytes (b ∷ bytes) lt = absurd (omega arith)

abbrev pub FeedsPam : PamScanner → PamScanner → List ℕ → Result (Option ℕ) InputFault → Type 0
FeedsPam old now lines result = Feeds pam_item header_end (IsPamAfter old) (IsPamAfter now) (IsPamWhole now) lines result

-- nothing follows the magic
pub pam_nothing : {bytes : List ℕ} → bytes ≡ [] → FindsIn pam_head_at bytes (Ok None)
unfolding line_feed_item
pam_nothing e = ap pam_head_at e ∙ pam_head_is []

bad_line : (byte : ℕ) (text : List ℕ) → (byte ≡ 10 → ⊥) → pam_head_at (byte ∷ text) ≡ Err BadPamLine
unfolding line_feed_item
bad_line byte text other =
    let no_feed : (byte == 10) ≡ false = ne_eqb byte 10 other in
    pam_head_is (byte ∷ text) ∙ ap (λ (feed : Bool). head_from (if feed then Ok text else Err BadPamLine)) no_feed

-- the tuple type of a header that ends within the bytes
pub pam_type_of : {old : PamScanner} (now : PamScanner) (lines : List ℕ) (taken : ℕ) → IsPamAfter old [] → FeedsPam old now lines (Ok (Some taken))
    → IsTupleType now.fields.tuple_type.items
pam_type_of now lines taken fresh feeds =
    let s = feeds [] fresh in
    subst IsTupleType (sym s.1.tuple_type) (tuple_type_in-is (ended_lines s.0) (ended_lines-are s.0) s.1.short)

module _ {bytes lines : List ℕ} where
  -- no LF follows the magic
  pub pam_bad : {byte : ℕ} → bytes ≡ byte ∷ lines → (byte ≡ 10 → ⊥) → FindsIn pam_head_at bytes (Err BadPamLine)
  pam_bad {byte} e other = inl (λ rest. ap (λ (t : List ℕ). pam_head_at (t ++ rest)) e ∙ bad_line byte (lines ++ rest) other)

  -- the lines of a text that begins with these bytes
  lines_at : (rest : List ℕ) → bytes ≡ 10 ∷ lines → pam_head_at (bytes ++ rest) ≡ pam_after (piece_from pam_item header_end [] (lines ++ rest))
  unfolding line_feed_item
  lines_at rest e = ap (λ (t : List ℕ). pam_head_at (t ++ rest)) e ∙ pam_head_is (10 ∷ (lines ++ rest))

  pub pam_goes_on : {old : PamScanner} (now : PamScanner) → bytes ≡ 10 ∷ lines → IsPamAfter old [] → FeedsPam old now lines (Ok None)
      → FindsIn pam_head_at bytes (Ok None)
  unfolding piece_from
  pam_goes_on now e fresh feeds = ap pam_head_at (sym (append-nil bytes)) ∙ lines_at [] e ∙ ap pam_after ((feeds [] fresh).1 [])

  pub pam_at_fault : {old : PamScanner} (now : PamScanner) (fault : InputFault) → bytes ≡ 10 ∷ lines → IsPamAfter old [] → FeedsPam old now lines (Err fault)
      → FindsIn pam_head_at bytes (Err fault)
  pam_at_fault now fault e fresh feeds =
      elim (feeds [] fresh) [
        | inl of_text ↦ inl (λ rest. lines_at rest e ∙ ap pam_after (of_text rest))
        | inr memory ↦ inr memory
      ]

  -- what is left of the bytes after the LF and the lines
  left_of : (taken : ℕ) → bytes ≡ 10 ∷ lines → drop (1 + taken) bytes ≡ drop taken lines
  left_of taken e =
      let next : 1 + taken ≡ suc taken = omega arith in ap (λ (n : ℕ). drop n bytes) next ∙ ap (λ (t : List ℕ). drop (suc taken) t) e

  lines_in_bytes : (result : Result HeadValue InputFault) (piece : List ℕ) (taken : ℕ) → bytes ≡ 10 ∷ lines → taken ≤ length lines
      → ((rest : List ℕ) → piece_from pam_item header_end [] (lines ++ rest) ≡ Ok (piece, drop taken lines ++ rest))
      → GivesInMemory result (lines_item (ended_lines piece)) → FindsIn pam_head_at bytes (with_taken (1 + taken) result)
  lines_in_bytes (Ok head) piece taken e within p gives =
      let count : length bytes ≡ length lines + 1 = ap (λ (t : List ℕ). length t) e ∙ omega arith in (
        omega arith,
        λ rest. lines_at rest e ∙ ap pam_after (p rest) ∙ ap (pam_with (drop taken lines ++ rest)) gives
            ∙ ap (λ (t : List ℕ). Ok (head, t ++ rest)) (sym (left_of taken e)),
      )
  lines_in_bytes (Err fault) piece taken e within p (inl memory) = inr memory
  lines_in_bytes (Err fault) piece taken e within p (inr said) =
      inl (λ rest. lines_at rest e ∙ ap pam_after (p rest) ∙ ap (pam_with (drop taken lines ++ rest)) said)

  pub pam_ends : {old : PamScanner} (now : PamScanner) (result : Result HeadValue InputFault) (taken : ℕ) → bytes ≡ 10 ∷ lines → IsPamAfter old []
      → HeadOfFields now.fields result → taken ≤ length lines → FeedsPam old now lines (Ok (Some taken))
      → FindsIn pam_head_at bytes (with_taken (1 + taken) result)
  pam_ends now result taken e fresh gives within feeds =
      let s = feeds [] fresh in
      lines_in_bytes result s.0 taken e within s.2 (gives (ended_lines s.0) s.1)
