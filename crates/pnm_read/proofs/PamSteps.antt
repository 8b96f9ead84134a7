-- The scanner of a PAM header, byte by byte, and the head of the header that it has taken.
use Rattle.pnm_read.proofs.Words.{◌≡◌, inl, inr, ℕ, ◌+◌, ◌<◌, Bool, false, ◌==◌, List, [], ◌∷◌, ◌++◌, length, Result, Ok, Err, refl, sym, ap, subst, ◌∙◌, arith}
use Rattle.pnm_read.proofs.Words.{nat_le, ne_eqb, nat_tests, length-append, HeadValue, IsTupleType, InputFault, ReadFailed, ScanStatus, GoesOn, EndsWith}
use Rattle.pnm_read.proofs.Words.{EndsBefore, Fails, Fields, PamScanner, ◌>>=◌, piece_from, pam_limit, line_item, pam_item, header_end, line_feed_item}
use Rattle.pnm_read.proofs.Words.{lines_item, Finds, Passes, TakesJudged, JudgesByte, Scans, GivesInMemory, IsFields, TakesLine, JudgesLine, IsPamAfter}
use Rattle.pnm_read.proofs.Words.{IsPamWhole}
use Rattle.pnm_read.specs.PamLines.{ended_lines, last_line}
use Rattle.pnm_read.specs.Said.{pam_head_at}
use Rattle.pnm_read.proofs.LineLaws.{ended_lines-lf, last_line-lf, ended_lines-other, last_line-other, ended_lines-are}
use Rattle.pnm_read.proofs.TupleTypeLaws.{tuple_type_in-is}
use Rattle.pnm_read.proofs.PamShapes.{lines_of_text}
use Rattle.pnm_read.proofs.PamLaws.{pam_by, pam_item_is}

-- no byte so far
pub pam_fresh : {s : PamScanner} → s.length ≡ 0 → s.line.items ≡ [] → IsFields s.fields [] → IsPamAfter s []
unfolding ended_lines last_line
pam_fresh l line fields = record { length_is = l; line = line; fields = fields }

-- ---- one byte more

-- the length is within the limit
is_short : {s : PamScanner} {before : List ℕ} → IsPamAfter s before → s.length < pam_limit → nat_le pam_limit (length before) ≡ false
is_short a lt = let same = a.length_is in grind (arith, nat_tests)

-- a byte of a line
pub pam_goes_on : (old new : PamScanner) (b : ℕ) → old.length < pam_limit → (b ≡ 10 → ⊥) → new.length ≡ old.length + 1
    → new.line.items ≡ old.line.items ++ b ∷ [] → new.fields ≡ old.fields
    → JudgesByte pam_item (IsPamAfter old) (IsPamAfter new) (IsPamWhole new) b GoesOn
pam_goes_on old new b lt other l line fields before a =
    let no_feed : (b == 10) ≡ false = ne_eqb b 10 other in
    let after : IsPamAfter new (before ++ b ∷ []) = record {
      length_is = l ∙ ap (λ (n : ℕ). n + 1) a.length_is ∙ sym (length-append before (b ∷ []));
      line = line ∙ ap (λ (l : List ℕ). l ++ b ∷ []) a.line ∙ sym (last_line-other before b no_feed);
      fields = subst (λ (f : Fields). IsFields f (ended_lines (before ++ b ∷ []))) (sym fields)
          (subst (IsFields old.fields) (sym (ended_lines-other before b no_feed)) a.fields);
    } in
    inl (
      sym (pam_item_is before b ∙ ap (λ (long : Bool). pam_by long (b == 10) (line_item (ended_lines before) (last_line before))) (is_short a lt)
          ∙ ap (λ (feed : Bool). pam_by false feed (line_item (ended_lines before) (last_line before))) no_feed),
      after,
    )

-- what is taken with a LF
feed_taken : (new : PamScanner) (j : ScanStatus) (before : List ℕ) → new.length ≡ length before + 1 → new.line.items ≡ []
    → TakesLine new.fields j (ended_lines before ++ last_line before ∷ []) → TakesJudged (IsPamAfter new) (IsPamWhole new) j before 10
feed_taken new GoesOn before l line t = record {
  length_is = l ∙ sym (length-append before (10 ∷ []));
  line = line ∙ sym (last_line-lf before);
  fields = subst (IsFields new.fields) (sym (ended_lines-lf before)) t;
}
feed_taken new EndsWith before l line t = subst (IsFields new.fields) (sym (ended_lines-lf before)) t
feed_taken new EndsBefore before l line t = absurd t
feed_taken new (Fails k) before l line t = tt

-- the judgement of a LF is that of its line
feed_judged : {old : PamScanner} {line : List ℕ} {j : ScanStatus} {before : List ℕ} → old.length < pam_limit → line ≡ old.line.items → IsPamAfter old before
    → j ≡ line_item (ended_lines before) line → j ≡ pam_item before 10
feed_judged {before} lt is a judged =
    judged ∙ ap (line_item (ended_lines before)) (is ∙ a.line)
    ∙ sym (pam_item_is before 10 ∙ ap (λ (long : Bool). pam_by long (10 == 10) (line_item (ended_lines before) (last_line before))) (is_short a lt))

-- a LF was judged and taken
feed : (old new : PamScanner) {line : List ℕ} (j : ScanStatus) → old.length < pam_limit → new.length ≡ old.length + 1 → line ≡ old.line.items
    → new.line.items ≡ [] → JudgesLine old.fields line new.fields j → JudgesByte pam_item (IsPamAfter old) (IsPamAfter new) (IsPamWhole new) 10 j
feed old new {line} j lt l is none judges before a =
    elim (judges (ended_lines before) a.fields) [
      | inl taken ↦ inl (
        feed_judged lt is a taken.0,
        feed_taken new j before (l ∙ ap (λ (n : ℕ). n + 1) a.length_is) none
            (subst (λ (line : List ℕ). TakesLine new.fields j (ended_lines before ++ line ∷ [])) (is ∙ a.line) taken.1),
      )
      | inr memory ↦ inr memory
    ]

-- a LF, after which the line is judged
pub pam_feed : (old new : PamScanner) {b : ℕ} {line : List ℕ} (j : ScanStatus) → old.length < pam_limit → b ≡ 10 → new.length ≡ old.length + 1
    → line ≡ old.line.items → new.line.items ≡ [] → JudgesLine old.fields line new.fields j → JudgesByte pam_item (IsPamAfter old) (IsPamAfter new)
    (IsPamWhole new) b j
pam_feed old new {b} j lt e l is none judges = subst (λ (b : ℕ). JudgesByte pam_item (IsPamAfter old) (IsPamAfter new) (IsPamWhole new) b j) (sym e)
    (feed old new j lt l is none judges)

-- ---- the head

-- the head of a text after its LF
abbrev pub head_after : Result (List ℕ × List ℕ) InputFault → Result (HeadValue × List ℕ) InputFault
head_after piece = piece >>= λ p. lines_item (ended_lines p.0) >>= λ head. Ok (head, p.1)

-- the head of a text from its LF on
abbrev pub head_from : Result (List ℕ) InputFault → Result (HeadValue × List ℕ) InputFault
head_from rest = rest >>= λ text. head_after (piece_from pam_item header_end [] text)

-- the head of a text, step by step
pub head_at_is : (text : List ℕ) → pam_head_at text ≡ head_from (line_feed_item text)
unfolding pam_head_at
head_at_is text = refl

-- a head, and what is left after it
abbrev pub head_with : List ℕ → Result HeadValue InputFault → Result (HeadValue × List ℕ) InputFault
head_with after read = read >>= λ head. Ok (head, after)

-- no LF follows the magic
pub pam_no_feed : (fault : InputFault) (text after : List ℕ) → Passes line_feed_item (Err fault) text after → Finds pam_head_at (Err fault) text after
pam_no_feed fault text after (inl e) = inl (head_at_is text ∙ ap head_from e)
pam_no_feed fault text after (inr outside) = inr outside

-- the header is at fault
pub pam_missed : {old : PamScanner} (is_whole : List ℕ → Type 0) (fault : InputFault) (text : List ℕ) {rest : List ℕ} (after : List ℕ) → IsPamAfter old []
    → line_feed_item text ≡ Ok rest → Scans pam_item header_end (IsPamAfter old) is_whole (Err fault) rest after → Finds pam_head_at (Err fault) text after
pam_missed is_whole fault text after fresh feed scans =
    elim (scans [] fresh) [
      | inl at_fault ↦ inl (head_at_is text ∙ ap head_from feed ∙ ap head_after at_fault)
      | inr outside ↦ inr outside
    ]

-- the tuple type of a header that was taken
pub pam_type : {old : PamScanner} (now : PamScanner) (rest after : List ℕ) → IsPamAfter old [] → Scans pam_item header_end (IsPamAfter old) (IsPamWhole now)
    (Ok tt) rest after → IsTupleType now.fields.tuple_type.items
pam_type now rest after fresh scans =
    let s = scans [] fresh in
    subst IsTupleType (sym s.1.tuple_type) (tuple_type_in-is (ended_lines s.0) (ended_lines-are s.0) s.1.short)

-- a head is given of any lines of these fields
abbrev pub HeadOfFields : Fields → Result HeadValue InputFault → Type 0
HeadOfFields fields result = (lines : List (List ℕ)) → IsFields fields lines → GivesInMemory result (lines_item lines)

-- the head of the lines of a piece
given_after : (result : Result HeadValue InputFault) (text : List ℕ) {rest : List ℕ} (piece after : List ℕ) → line_feed_item text ≡ Ok rest
    → piece_from pam_item header_end [] rest ≡ Ok (piece, after) → GivesInMemory result (lines_item (ended_lines piece)) → Finds pam_head_at result text after
given_after (Ok head) text piece after feed p gives = head_at_is text ∙ ap head_from feed ∙ ap head_after p ∙ ap (head_with after) gives
given_after (Err fault) text piece after feed p (inl memory) = inr (inr memory)
given_after (Err fault) text piece after feed p (inr lines) = inl (head_at_is text ∙ ap head_from feed ∙ ap head_after p ∙ ap (head_with after) lines)

-- the header was taken, and its head given
pub pam_found : {old : PamScanner} (now : PamScanner) (result : Result HeadValue InputFault) (text : List ℕ) {rest : List ℕ} (after : List ℕ)
    → IsPamAfter old [] → HeadOfFields now.fields result → line_feed_item text ≡ Ok rest → Scans pam_item header_end (IsPamAfter old) (IsPamWhole now)
    (Ok tt) rest after → Finds pam_head_at result text after
pam_found now result text after fresh gives feed scans =
    let s = scans [] fresh in
    given_after result text s.0 after feed s.2 (gives (ended_lines s.0) s.1)

-- its fault is none of the reader's
pub pam_of_text : {old : PamScanner} (now : PamScanner) {result : Result HeadValue InputFault} (rest after : List ℕ) → IsPamAfter old []
    → HeadOfFields now.fields result → Scans pam_item header_end (IsPamAfter old) (IsPamWhole now) (Ok tt) rest after → result ≡ Err ReadFailed → ⊥
pam_of_text now {result} rest after fresh gives scans = let s = scans [] fresh in lines_of_text (ended_lines s.0) result (gives (ended_lines s.0) s.1)
