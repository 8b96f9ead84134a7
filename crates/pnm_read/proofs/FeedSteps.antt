-- A scanner that is given bytes one by one.
use Rattle.pnm_read.proofs.Words.{◌≡◌, ◌⊎◌, inl, inr, ℕ, ◌+◌, ◌<◌, ◌≤◌, List, [], ◌∷◌, ◌++◌, length, get_or, take, drop, Option, Some, None, Ok, Err, refl, sym}
use Rattle.pnm_read.proofs.Words.{ap, subst, ◌∙◌, append_assoc, append-nil, arith, take_more, drop_more, take_all, drop_all, InputFault, Memory, ScanStatus}
use Rattle.pnm_read.proofs.Words.{GoesOn, EndsWith, EndsBefore, Fails, piece_from, TakesJudged, JudgesByte, FeedsAfter}
use Rattle.pnm_read.proofs.PieceLaws.{piece_step}

-- so many bytes were taken, and the piece goes on
pub record Feeding {S : Type 0} (item : S → List ℕ → ℕ → ScanStatus) (at_end : S → List ℕ → Option InputFault) (is_after : S → List ℕ → Type 0)
    (remaining : S → ℕ) (old now : S) (bytes : List ℕ) (n : ℕ) : Type 0 where
  pub same_items : item now ≡ item old
  pub same_end : at_end now ≡ at_end old
  pub less_remaining : remaining now + n ≤ remaining old
  pub fed : (before : List ℕ) → is_after old before → is_after now (before ++ take n bytes)
  pub piece : (before rest : List ℕ) → is_after old before → piece_from (item old) (at_end old) before (bytes ++ rest) ≡ piece_from (item old) (at_end old)
      (before ++ take n bytes) (drop n bytes ++ rest)

pub feeding_first : {S : Type 0} (item : S → List ℕ → ℕ → ScanStatus) (at_end : S → List ℕ → Option InputFault) (is_after : S → List ℕ → Type 0)
    (remaining : S → ℕ) (s : S) (bytes : List ℕ) → Feeding item at_end is_after remaining s s bytes 0
feeding_first item at_end is_after remaining s bytes = record {
  same_items = refl;
  same_end = refl;
  less_remaining = omega arith;
  fed = λ before a. subst (is_after s) (sym (append-nil before)) a;
  piece = λ before rest a. ap (λ (l : List ℕ). piece_from (item s) (at_end s) l (bytes ++ rest)) (sym (append-nil before));
}

-- the piece from a place on, where its byte was judged
step_at : {S : Type 0} {item : S → List ℕ → ℕ → ScanStatus} {at_end : S → List ℕ → Option InputFault} {is_after : S → List ℕ → Type 0} {remaining : S → ℕ}
    {old now : S} {bytes : List ℕ} {n : ℕ} (before rest : List ℕ) → Feeding item at_end is_after remaining old now bytes n → n < length bytes
    → is_after old before → piece_from (item old) (at_end old) before (bytes ++ rest) ≡ piece_from (item old) (at_end old) (before ++ take n bytes)
    (get_or bytes n 0 ∷ (drop (n + 1) bytes ++ rest))
step_at {item} {at_end} {old} {bytes} {n} before rest f lt a =
    f.piece before rest a ∙ ap (λ (l : List ℕ). piece_from (item old) (at_end old) (before ++ take n bytes) (l ++ rest)) (drop_more bytes n 0 lt)

-- one byte more
before_more : (before bytes : List ℕ) (n : ℕ) → n < length bytes → (before ++ take n bytes) ++ get_or bytes n 0 ∷ [] ≡ before ++ take (n + 1) bytes
before_more before bytes n lt = append_assoc before (take n bytes) (get_or bytes n 0 ∷ []) ∙ ap (λ (l : List ℕ). before ++ l) (sym (take_more bytes n 0 lt))

-- memory ran out in no other judgement
abbrev IsSound : ScanStatus → Type 0
IsSound k = k ≡ Fails Memory → ⊥

goes_on_sound : IsSound GoesOn
goes_on_sound e = absurd cc

ends_with_sound : IsSound EndsWith
ends_with_sound e = absurd cc

ends_before_sound : IsSound EndsBefore
ends_before_sound e = absurd cc

module _ {S : Type 0} {item : S → List ℕ → ℕ → ScanStatus} {at_end : S → List ℕ → Option InputFault} {is_after : S → List ℕ → Type 0}
    (is_whole : S → List ℕ → Type 0) {remaining : S → ℕ} {old now : S} (new : S) {bytes : List ℕ} {n : ℕ} {j k : ScanStatus} (before : List ℕ) where
  -- how the byte at a place was judged, unless memory ran out
  judged_place : Feeding item at_end is_after remaining old now bytes n → JudgesByte (item now) (is_after now) (is_after new) (is_whole new)
      (get_or bytes n 0) j → j ≡ k → is_after old before
      → ((item old (before ++ take n bytes) (get_or bytes n 0) ≡ k) × TakesJudged (is_after new) (is_whole new) k (before ++ take n bytes) (get_or bytes n
      0)) ⊎ (k ≡ Fails Memory)
  judged_place f judged is a =
      elim (judged (before ++ take n bytes) (f.fed before a)) [
        | inl at_place ↦ inl (
          ap (λ (i : List ℕ → ℕ → ScanStatus). i (before ++ take n bytes) (get_or bytes n 0)) (sym f.same_items) ∙ sym at_place.0 ∙ is,
          subst (λ (j : ScanStatus). TakesJudged (is_after new) (is_whole new) j (before ++ take n bytes) (get_or bytes n 0)) is at_place.1,
        )
        | inr memory ↦ inr (sym is ∙ memory)
      ]

  -- how the byte at a place was judged
  judged_at : IsSound k → Feeding item at_end is_after remaining old now bytes n → JudgesByte (item now) (is_after now) (is_after new) (is_whole new)
      (get_or bytes n 0) j → j ≡ k → is_after old before → (item old (before ++ take n bytes) (get_or bytes n 0) ≡ k) × TakesJudged (is_after new)
      (is_whole new) k (before ++ take n bytes) (get_or bytes n 0)
  judged_at sound f judged is a =
      elim (judged_place f judged is a) [
        | inl at_place ↦ at_place
        | inr memory ↦ absurd (sound memory)
      ]

pub feeding_more : {S : Type 0} (item : S → List ℕ → ℕ → ScanStatus) (at_end : S → List ℕ → Option InputFault) (is_after is_whole : S → List ℕ → Type 0)
    (remaining : S → ℕ) (old now new : S) (bytes : List ℕ) (n : ℕ) (j : ScanStatus)
    → Feeding item at_end is_after remaining old now bytes n → n < length bytes → j ≡ GoesOn
    → JudgesByte (item now) (is_after now) (is_after new) (is_whole new) (get_or bytes n 0) j
    → item new ≡ item now → at_end new ≡ at_end now → remaining new < remaining now → Feeding item at_end is_after remaining old new bytes (n + 1)
feeding_more item at_end is_after is_whole remaining old now new bytes n j f lt is judged items ends less = record {
  same_items = items ∙ f.same_items;
  same_end = ends ∙ f.same_end;
  less_remaining = let before = f.less_remaining in omega arith;
  fed = λ before a. subst (is_after new) (before_more before bytes n lt)
      (judged_at is_whole new before goes_on_sound f judged is a).1;
  piece = λ before rest a.
      step_at before rest f lt a
      ∙ piece_step (item old) (at_end old) (before ++ take n bytes) (get_or bytes n 0) (drop (n + 1) bytes ++ rest)
      (judged_at is_whole new before goes_on_sound f judged is a).0
      ∙ ap (λ (l : List ℕ). piece_from (item old) (at_end old) l (drop (n + 1) bytes ++ rest)) (before_more before bytes n lt);
}

module _ {S : Type 0} {item : S → List ℕ → ℕ → ScanStatus} {at_end : S → List ℕ → Option InputFault} {is_after : S → List ℕ → Type 0}
    (is_whole : S → List ℕ → Type 0) {remaining : S → ℕ} {old now : S} {bytes : List ℕ} {n : ℕ} where
  -- the piece ends with the byte
  pub feeding_ends_with : (new : S) {j : ScanStatus} (before : List ℕ) → Feeding item at_end is_after remaining old now bytes n → n < length bytes
      → j ≡ EndsWith → JudgesByte (item now) (is_after now) (is_after new) (is_whole new) (get_or bytes n 0) j → is_after old before → FeedsAfter (item old)
      (at_end old) (is_after new) (is_whole new) bytes (Ok (Some (n + 1))) before
  feeding_ends_with new before f lt is judged a =
      let at_place = judged_at is_whole new before ends_with_sound f judged is a in (
        (before ++ take n bytes) ++ get_or bytes n 0 ∷ [],
        at_place.1,
        λ rest. step_at before rest f lt a
            ∙ piece_step (item old) (at_end old) (before ++ take n bytes) (get_or bytes n 0) (drop (n + 1) bytes ++ rest) at_place.0,
      )

  -- the piece ended before the byte
  pub feeding_ends_before : (new : S) {j : ScanStatus} (before : List ℕ) → Feeding item at_end is_after remaining old now bytes n → n < length bytes
      → j ≡ EndsBefore → JudgesByte (item now) (is_after now) (is_after new) (is_whole new) (get_or bytes n 0) j → is_after old before
      → FeedsAfter (item old) (at_end old) (is_after new) (is_whole new) bytes (Ok (Some n)) before
  feeding_ends_before new before f lt is judged a =
      let at_place = judged_at is_whole new before ends_before_sound f judged is a in (
        before ++ take n bytes,
        at_place.1,
        λ rest. step_at before rest f lt a
            ∙ piece_step (item old) (at_end old) (before ++ take n bytes) (get_or bytes n 0) (drop (n + 1) bytes ++ rest) at_place.0
            ∙ ap (λ (l : List ℕ). Ok (before ++ take n bytes, l ++ rest)) (sym (drop_more bytes n 0 lt)),
      )

  -- the byte is at fault, or memory ran out
  pub feeding_fails : (new : S) {j : ScanStatus} {k : InputFault} (before : List ℕ) → Feeding item at_end is_after remaining old now bytes n
      → n < length bytes → j ≡ Fails k → JudgesByte (item now) (is_after now) (is_after new) (is_whole new) (get_or bytes n 0) j → is_after old before
      → FeedsAfter (item old) (at_end old) (is_after new) (is_whole new) bytes (Err k) before
  feeding_fails new {k} before f lt is judged a =
      elim (judged_place is_whole new before f judged is a) [
        | inl at_place ↦ inl (λ rest. step_at before rest f lt a
            ∙ piece_step (item old) (at_end old) (before ++ take n bytes) (get_or bytes n 0) (drop (n + 1) bytes ++ rest) at_place.0)
        | inr memory ↦ inr (let same : k ≡ Memory = cc in same)
      ]

  -- all bytes were taken
  pub feeding_all : (before : List ℕ) → Feeding item at_end is_after remaining old now bytes n → length bytes ≤ n → is_after old before
      → FeedsAfter (item old) (at_end old) (is_after now) (is_whole now) bytes (Ok None) before
  feeding_all before f le a =
      let all : take n bytes ≡ bytes = take_all n bytes le in
      let none : drop n bytes ≡ [] = drop_all n bytes le in (
        subst (λ (l : List ℕ). is_after now (before ++ l)) all (f.fed before a),
        λ rest. f.piece before rest a ∙ ap (λ (l : List ℕ). piece_from (item old) (at_end old) (before ++ l) (drop n bytes ++ rest)) all
            ∙ ap (λ (l : List ℕ). piece_from (item old) (at_end old) (before ++ bytes) (l ++ rest)) none,
      )
