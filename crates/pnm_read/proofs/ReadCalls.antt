-- How calls that read follow one another.
use Rattle.pnm_read.proofs.Words.{◌≡◌, ◌==◌, ℕ, true, false, List, [], ◌∷◌, ◌++◌, length, drop, Option, Result, Ok, Err, refl, sym, ap, subst, ◌∙◌}
use Rattle.pnm_read.proofs.Words.{append_assoc, Consumes, IsAtEnd, not_nil, InputFault, ReadFailed, BufferedReader, held_of, CanCome, ReadCall}
use Rattle.pnm_image.specs.Devices.{Failed}
use Rattle.pnm_read.proofs.Consumed.{consumes_nothing, consumes_then}

-- an answer is no fault
pub no_fault : {A : Type 0} (x : A) (k : InputFault) → Ok x ≡ Err k → ⊥
no_fault x k e = absurd cc

-- a call after another
pub call_then : {R A B : Type 0} {left : R → Option (List ℕ)} {failures : R → ℕ} {same : R → R → Type 0} {old mid new : BufferedReader R}
    {o q : List ℕ → List ℕ → Type 0} {result : Result B InputFault}
    (x : A) → ((a b c : R) → same a b → same b c → same a c) → ReadCall left failures same old mid (Ok x) o → ReadCall left failures same mid new result q
    → ReadCall left failures same old new result (λ b a. (m : List ℕ) × o b m × q m a)
call_then {left = left} {failures = failures} {old = old} {mid = mid} {new = new} {o = o} {result = result} x later s t = record {
  read = s.read ++ t.read;
  consumed = consumes_then (left old.reader) (left mid.reader) (left new.reader) s.read t.read s.consumed t.consumed;
  comes = λ rest c. subst (CanCome old) (sym (append_assoc s.read t.read rest)) (s.comes (t.read ++ rest) (t.comes rest c));
  told = λ rest c. (
    held_of mid ++ (t.read ++ rest),
    subst (λ (l : List ℕ). o (held_of old ++ l) (held_of mid ++ (t.read ++ rest))) (sym (append_assoc s.read t.read rest))
        (s.told (t.read ++ rest) (t.comes rest c)),
    t.told rest c,
  );
  end = λ e. t.end (s.end e);
  same_device = later old.reader mid.reader new.reader s.same_device t.same_device;
  count = λ n. t.count n ∙ s.count (no_fault x ReadFailed);
  read_failed = λ e. (subst (λ (n : ℕ). Failed n (failures new.reader)) (s.count (no_fault x ReadFailed)) (t.read_failed e).0, (t.read_failed e).1);
}

-- nothing was read, and these bytes of what is held were taken
pub call_taken : {R A : Type 0} {left : R → Option (List ℕ)} {failures : R → ℕ} {same : R → R → Type 0} {old new : BufferedReader R}
    {result : Result A InputFault}
    (taken : List ℕ) → ((a : R) → same a a) → (result ≡ Err ReadFailed → ⊥) → new.reader ≡ old.reader → new.ended ≡ old.ended
    → held_of old ≡ taken ++ held_of new
    → ReadCall left failures same old new result (λ b a. b ≡ taken ++ a)
call_taken {left = left} {failures = failures} {same = same} {old = old} {new = new} {result = result} taken at_once n reader ended held = record {
  read = [];
  consumed = subst (λ r. Consumes (left old.reader) (left r) []) (sym reader) (consumes_nothing (left old.reader));
  comes = λ rest c e. c (ended ∙ e);
  told = λ rest c. ap (λ (l : List ℕ). l ++ rest) held ∙ append_assoc taken (held_of new) rest;
  end = λ h e. subst (λ r. IsAtEnd (left r)) (sym reader) (h (sym ended ∙ e));
  same_device = subst (λ r. same old.reader r) (sym reader) (at_once old.reader);
  count = λ _. ap failures reader;
  read_failed = λ e. absurd (n e);
}

-- what is left is what is held and what may still come
abbrev pub IsLeft : {R : Type 0} → BufferedReader R → List ℕ → Type 0
IsLeft input left = (rest : List ℕ) × CanCome input rest × (left ≡ held_of input ++ rest)

-- nothing is left after the end
pub nothing_left : {R : Type 0} (input : BufferedReader R) (left : List ℕ) → held_of input ≡ [] → input.ended ≡ true → IsLeft input left → left ≡ []
nothing_left input left held ended s = s.2 ∙ ap (λ (l : List ℕ). l ++ s.0) held ∙ s.1 ended

-- after a call nothing was read, and what is held tells more
pub call_held : {R A B : Type 0} {left : R → Option (List ℕ)} {failures : R → ℕ} {same : R → R → Type 0} {old mid new : BufferedReader R}
    {o q : List ℕ → List ℕ → Type 0}
    (x : A) (result : Result B InputFault) → (result ≡ Err ReadFailed → ⊥) → new.reader ≡ mid.reader → new.ended ≡ mid.ended
    → ((b rest : List ℕ) → CanCome mid rest → o b (held_of mid ++ rest) → q b (held_of new ++ rest))
    → ReadCall left failures same old mid (Ok x) o → ReadCall left failures same old new result q
call_held {left = left} {failures = failures} {same = same} {old = old} x result f reader ended g t = record {
  read = t.read;
  consumed = subst (λ r. Consumes (left old.reader) (left r) t.read) (sym reader) t.consumed;
  comes = λ rest c. t.comes rest (λ e. c (ended ∙ e));
  told = λ rest c. g _ rest (λ e. c (ended ∙ e)) (t.told rest (λ e. c (ended ∙ e)));
  end = λ h e. subst (λ r. IsAtEnd (left r)) (sym reader) (t.end h (sym ended ∙ e));
  same_device = subst (λ r. same old.reader r) (sym reader) t.same_device;
  count = λ _. ap failures reader ∙ t.count (no_fault x ReadFailed);
  read_failed = λ e. absurd (f e);
}

module _ {R A : Type 0} {left : R → Option (List ℕ)} {failures : R → ℕ} {same : R → R → Type 0} {old new : BufferedReader R}
    {o : List ℕ → List ℕ → Type 0} where
  -- what a call found follows from what another found in the same call
  pub call_ok_so : {B : Type 0} {q : List ℕ → List ℕ → Type 0} {x : A} (result : Result B InputFault) → (result ≡ Err ReadFailed → ⊥)
      → ((b a : List ℕ) → o b a → q b a) → ReadCall left failures same old new (Ok x) o → ReadCall left failures same old new result q
  call_ok_so {x} (Ok y) n f t =
      record {
        read = t.read;
        consumed = t.consumed;
        comes = t.comes;
        told = λ rest c. f _ _ (t.told rest c);
        end = t.end;
        same_device = t.same_device;
        count = λ _. t.count (no_fault x ReadFailed);
        read_failed = λ e. absurd (n e);
      }
  call_ok_so {x} (Err k) n f t =
      record {
        read = t.read;
        consumed = t.consumed;
        comes = t.comes;
        told = λ rest c. f _ _ (t.told rest c);
        end = t.end;
        same_device = t.same_device;
        count = λ _. t.count (no_fault x ReadFailed);
        read_failed = λ e. absurd (n e);
      }

  pub call_err_so : {B : Type 0} {q : List ℕ → List ℕ → Type 0} {k : InputFault} → ((b a : List ℕ) → o b a → q b a)
      → ReadCall {A = A} left failures same old new (Err k) o → ReadCall {A = B} left failures same old new (Err k) q
  call_err_so {k} f t =
      record {
        read = t.read;
        consumed = t.consumed;
        comes = t.comes;
        told = λ rest c. f _ _ (t.told rest c);
        end = t.end;
        same_device = t.same_device;
        count = λ n. t.count (λ e. n (let same : k ≡ ReadFailed = cc in ap (λ (k : InputFault). Err k) same));
        read_failed = λ e. let same : k ≡ ReadFailed = cc in
            t.read_failed (ap (λ (k : InputFault). Err k) same);
      }

  pub call_seen : {result : Result A InputFault} → ReadCall left failures same old new result o
      → ReadCall left failures same old new result (λ b a. o b a × IsLeft new a)
  call_seen t =
      record {
        read = t.read;
        consumed = t.consumed;
        comes = t.comes;
        told = λ rest c. (t.told rest c, (rest, c, refl));
        end = t.end;
        same_device = t.same_device;
        count = t.count;
        read_failed = t.read_failed;
      }

  -- so many bytes of what is held were taken after a call
  pub call_advance : {B : Type 0} {mid : BufferedReader R} {q : List ℕ → List ℕ → Type 0} {x : A} {result : Result B InputFault} (n : ℕ)
      → (result ≡ Err ReadFailed → ⊥) → new.reader ≡ mid.reader → new.ended ≡ mid.ended → held_of new ≡ drop n (held_of mid)
      → ((b rest : List ℕ) → CanCome mid rest → o b (held_of mid ++ rest) → q b (drop n (held_of mid) ++ rest))
      → ReadCall left failures same old mid (Ok x) o → ReadCall left failures same old new result q
  call_advance {q = q} {x} {result} n f reader ended held g t =
      call_held x result f reader ended (λ b rest c o. subst (λ (l : List ℕ). q b (l ++ rest)) (sym held) (g b rest c o)) t

-- the text goes on where a byte is held
pub some_left : {R : Type 0} (input : BufferedReader R) (bytes : List ℕ) {left : List ℕ} → bytes ≡ held_of input → (length bytes == 0) ≡ false
    → IsLeft input left → left ≡ [] → ⊥
some_left input [] e n s none = absurd cc
some_left input (b ∷ bytes) e n s none = not_nil b (bytes ++ s.0) (ap (λ (l : List ℕ). l ++ s.0) e ∙ sym s.2 ∙ none)
