-- What one read does to what is held, and reads that follow one another.
use Rattle.pnm_read.proofs.Words.{◌≡◌, ◌==◌, ℕ, ◌+◌, ◌-◌, ◌<◌, ◌≤◌, min, Bool, true, false, if◌then◌else◌, List, [], ◌++◌, length, take, drop, Option, Result}
use Rattle.pnm_read.proofs.Words.{Ok, Err, ◌⊎◌, inl, inr, refl, sym, ap, ap₂, subst, ◌∙◌, arith, append_assoc, slice_range, eqb-true, length-take}
use Rattle.pnm_read.proofs.Words.{length-take-le, length-drop, length-append, drop-take, drop-drop, drop-append-le, take-append-le, take-append-drop}
use Rattle.pnm_read.proofs.Words.{nil_from_length, take-append_seam, take-append-add, InputFault, ReadFailed, BufferedReader, HasRead, held_of, CanCome}
use Rattle.pnm_read.proofs.Words.{ReadCall, Fills, Reads, HoldsEnough}
use Rattle.std.proofs.Common.{MatchResult}
use Rattle.pnm_read.proofs.Consumed.{consumes_nothing}
use Rattle.pnm_read.proofs.ReadCalls.{no_fault, call_then, call_ok_so, call_err_so, call_advance}

-- these bytes came behind those that were held; none came only at the end
pub call_read : {R A : Type 0} {left : R → Option (List ℕ)} {failures : R → ℕ} {same : R → R → Type 0} {old new : BufferedReader R}
    {o : List ℕ → List ℕ → Type 0}
    (x : A) (count : ℕ) (target : List ℕ) → HasRead left failures same old.reader new.reader target (Ok count) → old.ended ≡ false
    → (new.ended ≡ true → count ≡ 0)
    → ((rest : List ℕ) → (new.ended ≡ true → rest ≡ []) → o (held_of old ++ (take count target ++ rest)) (held_of new ++ rest))
    → ReadCall left failures same old new (Ok x) o
call_read x count target r goes_on at_end f = record {
  read = take count target;
  consumed = r.0;
  comes = λ rest c e. absurd (let never : true ≡ false = sym e ∙ goes_on in cc);
  told = λ rest c. f rest c;
  end = λ h e. r.2 (at_end e);
  same_device = r.4;
  count = λ _. r.3;
  read_failed = λ e. absurd (no_fault x ReadFailed e);
}

-- the bytes of a range
pub range_length : (bytes : List ℕ) (at end : ℕ) → length (slice_range bytes at end) ≤ end - at
range_length bytes at end = omega (arith, length-take (end - at) (drop at bytes))

-- taking bytes of a buffer from its prefix
pub range_after : (bytes : List ℕ) (at end count : ℕ) → count ≤ length (slice_range bytes at end)
    → slice_range bytes (at + count) end ≡ drop count (slice_range bytes at end)
range_after bytes at end count le =
    let few : count ≤ end - at = omega (arith, le, length-take (end - at) (drop at bytes)) in
    let split : end - at ≡ count + (end - (at + count)) = omega arith in
    sym (ap (λ (n : ℕ). drop count (take n (drop at bytes))) split ∙ drop-take count (end - (at + count)) (drop at bytes)
    ∙ ap (take (end - (at + count))) (drop-drop count at bytes))

-- what came into a buffer behind the bytes that are held
pub range_grown : (bytes target post : List ℕ) (at end count : ℕ) → at ≤ end → end ≤ length bytes → count ≤ length target
    → slice_range (take end bytes ++ (target ++ post)) at (end + count) ≡ slice_range bytes at end ++ take count target
range_grown bytes target post at end count order within few =
    let prefix : length (take end bytes) ≡ end = length-take-le end bytes within in
    let early : at ≤ length (take end bytes) = omega arith in
    let held : drop at (take end bytes) ≡ slice_range bytes at end = ap (λ (n : ℕ). drop at (take n bytes)) (let e : end ≡ at + (end - at) = omega arith in e)
    ∙ drop-take at (end - at) bytes in
    let size : (end + count) - at ≡ length (drop at (take end bytes)) + count = omega (arith, length-drop at (take end bytes)) in
    ap₂ (λ (n : ℕ) (l : List ℕ). take n l) size (drop-append-le at (take end bytes) (target ++ post) early)
    ∙ take-append-add (drop at (take end bytes)) (target ++ post) count
    ∙ ap₂ (λ (a b : List ℕ). a ++ b) held (take-append-le count target post few)

-- where no byte can come any more, and none is held
pub call_at_end : {R : Type 0} {left : R → Option (List ℕ)} {failures : R → ℕ} {same : R → R → Type 0} (input : BufferedReader R) (target : List ℕ)
    → ((a : R) → same a a) → input.ended ≡ true → held_of input ≡ []
    → ReadCall {A = ℕ} left failures same input input (Ok 0) (Reads target (Ok 0))
call_at_end {left = left} input target at_once ended held = record {
  read = [];
  consumed = consumes_nothing (left input.reader);
  comes = λ rest c e. c e;
  told = λ rest c. (refl, omega arith, λ _. ap₂ (λ (a b : List ℕ). a ++ b) held (c ended));
  end = λ h e. h e;
  same_device = at_once input.reader;
  count = λ _. refl;
  read_failed = λ e. absurd (no_fault 0 ReadFailed e);
}

-- an input that holds enough isn't read on
pub not_enough : {R : Type 0} (wanted : ℕ) {old now : BufferedReader R} → now ≡ old → HoldsEnough wanted old → now.ended ≡ false
    → length (held_of now) < wanted → ⊥
not_enough {R} wanted same (inl enough) goes_on lt = omega (arith, ap (λ (i : BufferedReader R). length (held_of i)) same)
not_enough {R} wanted same (inr ended) goes_on lt = let never : true ≡ false = sym ended ∙ sym (ap (λ (i : BufferedReader R). i.ended) same)
    ∙ goes_on in cc

-- more is held, or the end was seen
pub nearer : (held now : List ℕ) (wanted : ℕ) (was is : Bool) → was ≡ false → length held < wanted → (length held < length now) ⊎ ((is ≡ true) × (now ≡ held))
    → (if is then 0 else 1) + (wanted - length now) < (if was then 0 else 1) + (wanted - length held)
nearer held now wanted true is e lt h = absurd (let never : true ≡ false = e in cc)
nearer held now wanted false true e lt (inl more) = omega arith
nearer held now wanted false false e lt (inl more) = omega arith
nearer held now wanted false true e lt (inr end) = omega (arith, ap (λ (l : List ℕ). length l) end.1)
nearer held now wanted false false e lt (inr end) = absurd (let never : false ≡ true = end.0 in cc)

-- the prefix of a list that begins with so many
take_at_length : {n : ℕ} (xs ys : List ℕ) → length xs ≡ n → take n (xs ++ ys) ≡ xs
take_at_length xs ys e = subst (λ (m : ℕ). take m (xs ++ ys) ≡ xs) e (take-append_seam xs ys)

-- nothing was copied, so nothing is left
nothing_comes : {R : Type 0} (mid : BufferedReader R) (rest : List ℕ) {count : ℕ} {bytes : List ℕ} (size : ℕ) → CanCome mid rest → HoldsEnough 1 mid
    → 0 < size → bytes ≡ held_of mid → count ≡ min (length bytes) size → count ≡ 0 → drop count (held_of mid) ++ rest ≡ []
nothing_comes mid rest size c (inl enough) some is_held is_count none = absurd (omega (arith, ap (λ (l : List ℕ). length l) is_held))
nothing_comes mid rest {bytes} size c (inr ended) some is_held is_count none =
    let empty : bytes ≡ [] = nil_from_length bytes (omega arith) in
    ap₂ (λ (n : ℕ) (l : List ℕ). drop n l ++ rest) none (sym is_held ∙ empty) ∙ c ended

module _ {R : Type 0} {left : R → Option (List ℕ)} {failures : R → ℕ} {same : R → R → Type 0} {old new : BufferedReader R} where
  -- no byte came, and nothing changed of what is held
  pub call_failed : {A : Type 0} {o : List ℕ → List ℕ → Type 0} {k : InputFault} (target : List ℕ) {reader : R}
      → HasRead left failures same reader new.reader target (Err k) → reader ≡ old.reader → old.ended ≡ false → new.ended ≡ false → ((b a : List ℕ) → o b a)
      → ReadCall {A = A} left failures same old new (Err k) o
  call_failed {k} target from is_reader goes_on still f =
      let r : HasRead left failures same old.reader new.reader target (Err k) =
      subst (λ x. HasRead left failures same x new.reader target (Err k)) is_reader from in
      record {
        read = [];
        consumed = r.0;
        comes = λ rest c e. absurd (let never : true ≡ false = sym e ∙ goes_on in cc);
        told = λ rest c. f _ _;
        end = λ h e. absurd (let never : true ≡ false = sym e ∙ still in cc);
        same_device = r.3;
        count = λ n. absurd (n (ap (λ (f : InputFault). Err f) r.1));
        read_failed = λ _. (r.2, still);
      }

  -- bytes came into a target, past the buffer
  pub call_past : {count : ℕ} (target : List ℕ) → HasRead left failures same old.reader new.reader target (Ok count) → old.ended ≡ false
      → new.ended ≡ (count == 0) → held_of old ≡ [] → held_of new ≡ [] → ReadCall {A = ℕ} left failures same old new (Ok count) (Reads target (Ok count))
  call_past {count} target r goes_on ended was_empty is_empty =
      call_read count count target r goes_on (λ e. eqb-true count 0 (sym ended ∙ e)) (λ rest c. (
        ap₂ (λ (a b : List ℕ). a ++ (take count target ++ (b ++ rest))) was_empty (sym is_empty),
        r.1,
        λ none. ap₂ (λ (a b : List ℕ). a ++ b) is_empty (c (ended ∙ ap (λ (n : ℕ). n == 0) none)),
      ))

  -- what was read stands behind what is held
  pub call_grown : {count : ℕ} (target : List ℕ) {reader : R} → HasRead left failures same reader new.reader target (Ok count) → reader ≡ old.reader
      → old.ended ≡ false → (new.ended ≡ true → count ≡ 0) → held_of new ≡ held_of old ++ take count target
      → ReadCall {A = Unit {0}} left failures same old new (Ok tt) (Fills (Ok tt))
  call_grown {count} target r is_reader goes_on at_end held =
      let r_old : HasRead left failures same old.reader new.reader target (Ok count) =
      subst (λ x. HasRead left failures same x new.reader target (Ok count)) is_reader r in
      call_read tt count target r_old goes_on at_end (λ rest c. sym (append_assoc (held_of old) (take count target) rest)
      ∙ ap (λ (l : List ℕ). l ++ rest) (sym held))

  -- reads that follow one another, while nothing is taken
  pub fills_then : {mid : BufferedReader R} → ((a b c : R) → same a b → same b c → same a c) → ReadCall {A = Unit {0}} left failures same old mid (Ok tt)
      (Fills (Ok tt)) → ReadCall {A = Unit {0}} left failures same mid new (Ok tt) (Fills (Ok tt))
      → ReadCall {A = Unit {0}} left failures same old new (Ok tt) (Fills (Ok tt))
  fills_then later s t = call_ok_so {A = Unit {0}} {B = Unit {0}} (Ok tt) (no_fault tt ReadFailed) (λ b a o. o.1 ∙ o.2)
      (call_then {A = Unit {0}} {B = Unit {0}} tt later s t)

  pub fills_not : {mid : BufferedReader R} {k : InputFault} → ((a b c : R) → same a b → same b c → same a c)
      → ReadCall {A = Unit {0}} left failures same old mid (Ok tt) (Fills (Ok tt)) → ReadCall {A = Unit {0}} left failures same mid new (Err k)
      (Fills (Err k)) → ReadCall {A = Unit {0}} left failures same old new (Err k) (Fills (Err k))
  fills_not later s t = call_err_so {A = Unit {0}} {B = Unit {0}} (λ b a o. o.2) (call_then {A = Unit {0}} {B = Unit {0}} tt later s t)

  -- a read into a target, past the buffer, or the fault
  pub call_past_by : (target : List ℕ) (result : Result ℕ InputFault) → HasRead left failures same old.reader new.reader target result → old.ended ≡ false
      → MatchResult result (λ count. new.ended ≡ (count == 0)) (λ _. new.ended ≡ false) → held_of old ≡ [] → held_of new ≡ []
      → ReadCall {A = ℕ} left failures same old new result (Reads target result)
  call_past_by target (Ok count) r goes_on ended was_empty is_empty = call_past target r goes_on ended was_empty is_empty
  call_past_by target (Err k) r goes_on ended was_empty is_empty = call_failed target r refl goes_on ended (λ b a. inl r.1)

  -- bytes that are held were copied into the front of a target
  pub call_copied : {mid : BufferedReader R} {bytes : List ℕ} (post : List ℕ) {count : ℕ} (size : ℕ)
      → ReadCall {A = Unit {0}} left failures same old mid (Ok tt) (Fills (Ok tt)) → HoldsEnough 1 mid → 0 < size → bytes ≡ held_of mid
      → count ≡ min (length bytes) size → new.reader ≡ mid.reader → new.ended ≡ mid.ended → held_of new ≡ drop count (held_of mid)
      → ReadCall {A = ℕ} left failures same old new (Ok count) (Reads (take count bytes ++ post) (Ok count))
  call_copied {mid = mid} {bytes} post {count} size t enough some is_held is_count reader ended held =
      let few : count ≤ length bytes = omega arith in
      let prefix : length (take count bytes) ≡ count = length-take-le count bytes few in
      call_advance {A = Unit {0}} {B = ℕ} count (no_fault count ReadFailed) reader ended held (λ b rest c o. (
        o ∙ ap (λ (l : List ℕ). l ++ rest) (sym (take-append-drop count (held_of mid))
            ∙ ap (λ (l : List ℕ). l ++ drop count (held_of mid)) (ap (take count) (sym is_held) ∙ sym (take_at_length (take count bytes) post prefix)))
            ∙ append_assoc (take count (take count bytes ++ post)) (drop count (held_of mid)) rest,
        omega (arith, length-append (take count bytes) post),
        λ none. nothing_comes mid rest size c enough some is_held is_count none,
      )) t
