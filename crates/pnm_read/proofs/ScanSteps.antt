-- A scanner that is given the bytes of an input, part by part.
use Rattle.pnm_read.proofs.Words.{◌≡◌, ℕ, true, List, [], ◌∷◌, ◌++◌, length, drop, Option, Some, None, Result, Ok, Err, inl, inr, refl, sym, ap, subst, ◌∙◌}
use Rattle.pnm_read.proofs.Words.{arith, drop_all, InputFault, ReadFailed, ScanStatus, BufferedReader, FeedsAfter, Feeds, ScansAfter, Scans, JudgesEnd, IfEnds}
use Rattle.pnm_read.proofs.Words.{held_of, ReadCall, Fills, HoldsEnough}
use Rattle.pnm_read.specs.Items.{piece_from}
use Rattle.pnm_read.proofs.ReadCalls.{IsLeft, no_fault, call_then, call_ok_so, call_err_so, call_taken, call_seen, call_advance, nothing_left}

-- the piece of a text goes on as that of what is left of it
abbrev pub GoesOnAs : {S : Type 0} → (S → List ℕ → ℕ → ScanStatus) → (S → List ℕ → Option InputFault) → (S → List ℕ → Type 0) → S → S → List ℕ → List ℕ → Type 0
GoesOnAs item at_end is_after old now text left =
    (before : List ℕ) → is_after old before → (more : List ℕ) × is_after now more
    × (piece_from (item old) (at_end old) before text ≡ piece_from (item old) (at_end old) more left)

pub record Scanning {R S : Type 0} (left : R → Option (List ℕ)) (failures : R → ℕ) (same : R → R → Type 0) (item : S → List ℕ → ℕ → ScanStatus)
    (at_end : S → List ℕ → Option InputFault) (is_after : S → List ℕ → Type 0) (input_old input : BufferedReader R) (old now : S) : Type 0 where
  pub same_items : item now ≡ item old
  pub same_end : at_end now ≡ at_end old
  pub call : ReadCall {A = Unit {0}} left failures same input_old input (Ok tt) (GoesOnAs item at_end is_after old now)

-- nothing was taken yet
pub scan_begins : {R S : Type 0} {left : R → Option (List ℕ)} {failures : R → ℕ} {same : R → R → Type 0} {item : S → List ℕ → ℕ → ScanStatus}
    {at_end : S → List ℕ → Option InputFault} {is_after : S → List ℕ → Type 0}
    (input : BufferedReader R) (s : S) → ((a : R) → same a a) → Scanning left failures same item at_end is_after input input s s
scan_begins {item = item} {at_end = at_end} input s at_once = record {
  same_items = refl;
  same_end = refl;
  call = call_ok_so {A = Unit {0}} {B = Unit {0}} (Ok tt) (no_fault tt ReadFailed)
      (λ b a e before f. (before, f, ap (piece_from (item s) (at_end s) before) e))
      (call_taken {A = Unit {0}} {result = Ok tt} [] at_once (no_fault tt ReadFailed) refl refl refl);
}

-- reading on failed
pub scan_unread : {R S : Type 0} {left : R → Option (List ℕ)} {failures : R → ℕ} {same : R → R → Type 0} {item : S → List ℕ → ℕ → ScanStatus}
    {at_end : S → List ℕ → Option InputFault} {is_after : S → List ℕ → Type 0} {input_old input mid : BufferedReader R} {old now : S}
    (is_whole : List ℕ → Type 0) {k : InputFault} → ((a b c : R) → same a b → same b c → same a c)
    → Scanning left failures same item at_end is_after input_old input old now → ReadCall {A = Unit {0}} left failures same input mid (Err k) (Fills (Err k))
    → ReadCall {A = Unit {0}} left failures same input_old mid (Err k) (Scans (item old) (at_end old) (is_after old) is_whole (Err k))
scan_unread is_whole later s t = call_err_so {A = Unit {0}} {B = Unit {0}} (λ b a o before f. inr o.2)
    (call_then {A = Unit {0}} {B = Unit {0}} tt later s.call t)

-- what is left after reading on, and what came before it
abbrev pub ReadOn : {R S : Type 0} → (S → List ℕ → ℕ → ScanStatus) → (S → List ℕ → Option InputFault) → (S → List ℕ → Type 0) → BufferedReader R → S → S
    → List ℕ
    → List ℕ → Type 0
ReadOn item at_end is_after input old now text left = ((m : List ℕ) × GoesOnAs item at_end is_after old now text m × (m ≡ left)) × IsLeft input left

-- the answer at the end of the text
abbrev pub ended_as : Option InputFault → Result (Unit {0}) InputFault
ended_as (Some fault) = Err fault
ended_as None = Ok tt

ended_of_text : (fault : Option InputFault) → (fault ≡ Some ReadFailed → ⊥) → ended_as fault ≡ Err ReadFailed → ⊥
ended_of_text (Some k) n e = n (let same : k ≡ ReadFailed = cc in ap (λ (k : InputFault). Some k) same)
ended_of_text None n e = absurd cc

-- the piece at the end of the text
abbrev end_as : List ℕ → Option InputFault → Result (List ℕ × List ℕ) InputFault
end_as before (Some fault) = Err fault
end_as before None = Ok (before, [])

-- how the end of the text is judged
end_found : (item : List ℕ → ℕ → ScanStatus) (at_end : List ℕ → Option InputFault) (is_whole : List ℕ → Type 0) (more text : List ℕ) (before : List ℕ)
    (fault : Option InputFault) → fault ≡ at_end more → IfEnds is_whole more fault
    → piece_from item at_end before text ≡ piece_from item at_end more [] → ScansAfter item at_end is_whole (ended_as fault) before text []
unfolding piece_from
end_found item at_end is_whole more text before (Some k) e w p = inl (p ∙ ap (end_as more) (sym e))
end_found item at_end is_whole more text before None e w p = (more, w, p ∙ ap (end_as more) (sym e))

-- what is left after some bytes were taken
fed_as : {S : Type 0} (item : S → List ℕ → ℕ → ScanStatus) (at_end : S → List ℕ → Option InputFault) (is_after : S → List ℕ → Type 0)
    (is_after_new is_whole : List ℕ → Type 0) (old now : S) (bytes : List ℕ) (result : Result (Option ℕ) InputFault) (more : List ℕ) → item now ≡ item old
    → at_end now ≡ at_end old
    → Feeds (item now) (at_end now) (is_after now) is_after_new is_whole bytes result → is_after now more
    → FeedsAfter (item old) (at_end old) is_after_new is_whole bytes result more
fed_as item at_end is_after is_after_new is_whole old now bytes result more items ends f a =
    subst (λ (i : List ℕ → ℕ → ScanStatus). FeedsAfter i (at_end old) is_after_new is_whole bytes result more) items
    (subst (λ (e : List ℕ → Option InputFault). FeedsAfter (item now) e is_after_new is_whole bytes result more) ends (f more a))

module _ {R S : Type 0} {left : R → Option (List ℕ)} {failures : R → ℕ} {same : R → R → Type 0} {item : S → List ℕ → ℕ → ScanStatus}
    {at_end : S → List ℕ → Option InputFault} {is_after : S → List ℕ → Type 0} {input_old input mid : BufferedReader R} {old now : S} where
  pub read_on : ((a b c : R) → same a b → same b c → same a c) → Scanning left failures same item at_end is_after input_old input old now
      → ReadCall {A = Unit {0}} left failures same input mid (Ok tt) (Fills (Ok tt)) → ReadCall {A = Unit {0}} left failures same input_old mid (Ok tt)
      (ReadOn item at_end is_after mid old now)
  read_on later s t = call_seen (call_then tt later s.call t)

  -- the text has ended
  pub scan_ends : (is_whole : S → List ℕ → Type 0) (fault : Option InputFault) → ((a b c : R) → same a b → same b c → same a c)
      → Scanning left failures same item at_end is_after input_old input old now → ReadCall {A = Unit {0}} left failures same input mid (Ok tt)
      (Fills (Ok tt)) → held_of mid ≡ [] → mid.ended ≡ true → (fault ≡ Some ReadFailed → ⊥) → JudgesEnd (at_end now) (is_after now) (is_whole now) fault
      → ReadCall left failures same input_old mid (ended_as fault) (Scans (item old) (at_end old) (is_after old) (is_whole now) (ended_as fault))
  scan_ends is_whole fault later s t held ended of_text judged =
      call_ok_so (ended_as fault) (ended_of_text fault of_text) (λ b a o before f.
      let on = o.0.1 before f in
      let none = nothing_left mid a held ended o.1 in
      let end = judged on.0 on.1 in
      subst (ScansAfter (item old) (at_end old) (is_whole now) (ended_as fault) before b) (sym none)
      (end_found (item old) (at_end old) (is_whole now) on.0 b before fault (end.0 ∙ ap (λ (e : List ℕ → Option InputFault). e on.0) s.same_end) end.1
      (on.2 ∙ ap (piece_from (item old) (at_end old) on.0) (o.0.2 ∙ none)))) (read_on later s t)

  -- a byte is at fault, or memory ran out
  pub scan_fails : (is_after_new is_whole : List ℕ → Type 0) {k : InputFault} → ((a b c : R) → same a b → same b c → same a c)
      → Scanning left failures same item at_end is_after input_old input old now → ReadCall {A = Unit {0}} left failures same input mid (Ok tt)
      (Fills (Ok tt)) → (k ≡ ReadFailed → ⊥) → Feeds (item now) (at_end now) (is_after now) is_after_new is_whole (held_of mid) (Err k)
      → ReadCall {A = Unit {0}} left failures same input_old mid (Err k) (Scans (item old) (at_end old) (is_after old) is_whole (Err k))
  scan_fails is_after_new is_whole {k} later s t of_text f =
      call_ok_so (Err k) (λ e. of_text cc) (λ b a o before g.
      let on = o.0.1 before g in
      elim (fed_as item at_end is_after is_after_new is_whole old now (held_of mid) (Err k) on.0 s.same_items s.same_end f on.1) [
        | inl at_fault ↦ inl (on.2 ∙ ap (piece_from (item old) (at_end old) on.0) (o.0.2 ∙ o.1.2) ∙ at_fault o.1.0)
        | inr memory ↦ inr (inr memory)
      ]) (read_on later s t)

  -- the piece has ended
  pub scan_found : {new : BufferedReader R} (is_after_new is_whole : List ℕ → Type 0) (n : ℕ) → ((a b c : R) → same a b → same b c → same a c)
      → Scanning left failures same item at_end is_after input_old input old now → ReadCall {A = Unit {0}} left failures same input mid (Ok tt)
      (Fills (Ok tt)) → Feeds (item now) (at_end now) (is_after now) is_after_new is_whole (held_of mid) (Ok (Some n)) → new.reader ≡ mid.reader
      → new.ended ≡ mid.ended → held_of new ≡ drop n (held_of mid) → ReadCall {A = Unit {0}} left failures same input_old new (Ok tt)
      (Scans (item old) (at_end old) (is_after old) is_whole (Ok tt))
  scan_found is_after_new is_whole n later s t f reader ended held =
      call_advance n (no_fault tt ReadFailed) reader ended held (λ b rest c o before g.
      let on = o.0.1 before g in
      let fed = fed_as item at_end is_after is_after_new is_whole old now (held_of mid) (Ok (Some n)) on.0 s.same_items s.same_end f on.1 in
      (fed.0, fed.1, on.2 ∙ ap (piece_from (item old) (at_end old) on.0) o.0.2 ∙ fed.2 rest)) (read_on later s t)

  -- the piece goes on after all bytes that are held
  pub scan_goes_on : {new : BufferedReader R} {later_on : S} (is_whole : List ℕ → Type 0) {n : ℕ} → ((a b c : R) → same a b → same b c → same a c)
      → Scanning left failures same item at_end is_after input_old input old now → ReadCall {A = Unit {0}} left failures same input mid (Ok tt)
      (Fills (Ok tt)) → Feeds (item now) (at_end now) (is_after now) (is_after later_on) is_whole (held_of mid) (Ok None) → item later_on ≡ item now
      → at_end later_on ≡ at_end now → n ≡ length (held_of mid) → new.reader ≡ mid.reader → new.ended ≡ mid.ended → held_of new ≡ drop n (held_of mid)
      → Scanning left failures same item at_end is_after input_old new old later_on
  scan_goes_on {later_on = later_on} is_whole {n} later s t f items ends all reader ended held = record {
    same_items = items ∙ s.same_items;
    same_end = ends ∙ s.same_end;
    call = call_advance n (no_fault tt ReadFailed) reader ended held (λ b rest c o before g.
        let on = o.0.1 before g in
        let fed = fed_as item at_end is_after (is_after later_on) is_whole old now (held_of mid) (Ok None) on.0 s.same_items s.same_end f on.1 in
        let none : drop n (held_of mid) ≡ [] = drop_all n (held_of mid) (omega arith) in (
          on.0 ++ held_of mid,
          fed.0,
          on.2 ∙ ap (piece_from (item old) (at_end old) on.0) o.0.2 ∙ fed.1 rest
              ∙ ap (λ (l : List ℕ). piece_from (item old) (at_end old) (on.0 ++ held_of mid) (l ++ rest)) (sym none),
        )) (read_on later s t);
  }

-- where nothing is held after reading on, the end was seen
pub end_seen : {R : Type 0} (input : BufferedReader R) → HoldsEnough 1 input → held_of input ≡ [] → input.ended ≡ true
end_seen input (inl some) none = let long = ap (λ (l : List ℕ). length l) none in absurd (omega arith)
end_seen input (inr ended) none = ended

pub none_of_length : {bytes : List ℕ} (held : List ℕ) → bytes ≡ held → length bytes ≡ 0 → held ≡ []
none_of_length [] e l = refl
none_of_length (b ∷ held) e l = let long = ap (λ (l : List ℕ). length l) e in absurd (omega arith)
