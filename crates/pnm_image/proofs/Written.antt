-- What a writer holds after a part of some bytes was written.
use Rattle.std.proofs.Common.{◌≡◌, ℕ, ◌+◌, ◌-◌, ◌^◌, min, inl, inr, List, [], ◌++◌, length, take, drop, Option, Some, None, Result, Ok, Err, refl, sym, ap}
use Rattle.std.proofs.Common.{subst, ◌∙◌, append_assoc, arith}
use Rattle.std.proofs.Math.Seq.{take-append-add}
use Rattle.std.proofs.lemmas.List.{append-nil, take_at, take-append-drop}
use Rattle.std.specs.Io.KnownBytes.{Appends, Keeps}
use Rattle.std.proofs.lemmas.Bool.{cases_lt}
use Rattle.std.proofs.KnownBytes.{Appends-trans}
use Rattle.std.specs.Prelude.{OnErr}
use Rattle.pnm_image.specs.Devices.{Failed, AppendsPrefix, FailsIn}

-- the bytes are a prefix that was written, and a rest that wasn't
pub record Written (old now : Option (List ℕ)) (bytes rest : List ℕ) : Type 0 where
  pub prefix : List ℕ
  pub parts : bytes ≡ prefix ++ rest
  pub appended : Appends old now prefix

-- what stays as it is, grows by nothing
pub Appends-nothing : (a b : Option (List ℕ)) → Keeps a b → Appends a b []
Appends-nothing None b k = tt
Appends-nothing (Some xs) None k = k
Appends-nothing (Some xs) (Some ys) k = k ∙ sym (append-nil xs)

-- a prefix of a prefix of bytes is a prefix of more
prefix_of_prefix : (n : ℕ) (x y : List ℕ) → (m : ℕ) × (take n x ≡ take m (x ++ y))
prefix_of_prefix n x y = (
  length (take n x),
  let parts : x ++ y ≡ take n x ++ (drop n x ++ y) = ap (λ (l : List ℕ). l ++ y) (sym (take-append-drop n x)) ∙ append_assoc (take n x) (drop n x) y in
      sym (take_at (take n x) (drop n x ++ y) (length (take n x)) refl) ∙ ap (take (length (take n x))) (sym parts),
)

-- a prefix of the bytes is a prefix of more
pub prefix-more : (a b : Option (List ℕ)) (x y : List ℕ) → AppendsPrefix a b x → AppendsPrefix a b (x ++ y)
prefix-more a b x y p = let f = prefix_of_prefix p.0 x y in (f.0, subst (Appends a b) f.1 p.1)

-- bytes, and then a prefix of others
pub then_prefix : (a b c : Option (List ℕ)) (x y : List ℕ) → Appends a b x → AppendsPrefix b c y → AppendsPrefix a c (x ++ y)
then_prefix a b c x y p q = (
  length x + q.0,
  let e : take (length x + q.0) (x ++ y) ≡ x ++ take q.0 y = take-append-add x y q.0 in
      subst (Appends a c) (sym e) (Appends-trans a b c x (take q.0 y) p q.1),
)

-- so many bytes more are written
written_more : (old a b : Option (List ℕ)) (bytes rest : List ℕ) (n : ℕ) → Written old a bytes rest → Appends a b (take n rest)
    → Written old b bytes (drop n rest)
written_more old a b bytes rest n w p = record {
  prefix = w.prefix ++ take n rest;
  parts = w.parts ∙ ap (λ (l : List ℕ). w.prefix ++ l) (sym (take-append-drop n rest)) ∙ sym (append_assoc w.prefix (take n rest) (drop n rest));
  appended = Appends-trans old a b w.prefix (take n rest) w.appended p;
}

-- of the rest a prefix was written
written_prefix : (old a b : Option (List ℕ)) (bytes rest : List ℕ) → Written old a bytes rest → AppendsPrefix a b rest → AppendsPrefix old b bytes
written_prefix old a b bytes rest w p = subst (AppendsPrefix old b) (sym w.parts) (then_prefix old a b w.prefix rest w.appended p)

-- a call that failed is a failure since any moment from which there was none
pub fails : (old a b : ℕ) → a ≡ old → b ≡ min (a + 1) (2 ^ 64 - 1) → Failed old b
fails old a b p e = (elim (cases_lt old (2 ^ 64 - 1)) [ inl lt ↦ inl (omega arith) | inr le ↦ inr (omega arith) ], omega arith)

-- after a failure, another one is a failure since then
pub fails_again : (start old new : ℕ) → Failed start old → Failed old new → Failed start new
fails_again start old new (inl less, most) (inl more, above) = (inl (omega arith), above)
fails_again start old new (inr full, most) (inl more, above) = absurd (omega arith)
fails_again start old new since (inr full, above) = (inr full, above)

-- a writer that has written a part of some bytes, and had no failure
pub record Sending {W : Type 0} (held : W → Option (List ℕ)) (failures : W → ℕ) (same : W → W → Type 0) (old now : W) (bytes rest : List ℕ) : Type 0 where
  pub written : Written (held old) (held now) bytes rest
  pub count : failures now ≡ failures old
  pub same_device : same old now

-- the writer took so many bytes more
pub sending_more : {W : Type 0} (held : W → Option (List ℕ)) (failures : W → ℕ) (same : W → W → Type 0) (old a b : W) (bytes rest : List ℕ) (n : ℕ)
    → Sending held failures same old a bytes rest → Appends (held a) (held b) (take n rest) → failures b ≡ failures a → same old b
    → Sending held failures same old b bytes (drop n rest)
sending_more held failures same old a b bytes rest n s p e d = record {
  written = written_more (held old) (held a) (held b) bytes rest n s.written p;
  count = e ∙ s.count;
  same_device = d;
}

-- the writer failed, and took none of the rest
pub sending_failed : {W : Type 0} (held : W → Option (List ℕ)) (failures : W → ℕ) (same : W → W → Type 0) (old a b : W) (bytes rest : List ℕ)
    → Sending held failures same old a bytes rest → Keeps (held a) (held b) → failures b ≡ min (failures a + 1) (2 ^ 64 - 1)
    → FailsIn bytes (held old) (held b) (failures old) (failures b)
sending_failed held failures same old a b bytes rest s k e = (
  written_prefix (held old) (held a) (held b) bytes rest s.written (0, Appends-nothing (held a) (held b) k),
  fails (failures old) (failures a) (failures b) s.count e,
)

-- what holds anyway holds at an error
pub at_any_error : {T E P : Type 0} (r : Result T E) → P → OnErr r P
at_any_error (Ok x) p = tt
at_any_error (Err e) p = p

-- the writer took a part of the rest
pub sending_part : {W : Type 0} (held : W → Option (List ℕ)) (failures : W → ℕ) (same : W → W → Type 0) (old a b : W) (bytes rest x y : List ℕ) → rest ≡ x ++ y
    → Sending held failures same old a bytes rest → Appends (held a) (held b) x → failures b ≡ failures a → same old b
    → Sending held failures same old b bytes y
sending_part held failures same old a b bytes rest x y parts s p e d = record {
  written = record {
    prefix = s.written.prefix ++ x;
    parts = s.written.parts ∙ ap (λ (l : List ℕ). s.written.prefix ++ l) parts ∙ sym (append_assoc s.written.prefix x y);
    appended = Appends-trans (held old) (held a) (held b) s.written.prefix x s.written.appended p;
  };
  count = e ∙ s.count;
  same_device = d;
}

-- the writer failed in a part of the rest
pub sending_part_failed : {W : Type 0} (held : W → Option (List ℕ)) (failures : W → ℕ) (same : W → W → Type 0) (old a b : W) (bytes rest x y : List ℕ)
    → rest ≡ x ++ y → Sending held failures same old a bytes rest → FailsIn x (held a) (held b) (failures a) (failures b)
    → FailsIn bytes (held old) (held b) (failures old) (failures b)
sending_part_failed held failures same old a b bytes rest x y parts s f =
    let prefix : AppendsPrefix (held a) (held b) rest = subst (AppendsPrefix (held a) (held b)) (sym parts) (prefix-more (held a) (held b) x y f.0) in
    (written_prefix (held old) (held a) (held b) bytes rest s.written prefix, subst (λ k. Failed k (failures b)) s.count f.1)
