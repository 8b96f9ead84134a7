-- Parts of samples, and parts of these; a writer at the begin and at the end of its parts.
use Rattle.pnm_write.proofs.Words.{◌≡◌, ℕ, ◌+◌, ◌-◌, ◌≤◌, List, [], ◌++◌, length, take, drop, Option, Some, None, refl, sym, ap, subst, ◌∙◌, arith, append-nil}
use Rattle.pnm_write.proofs.Words.{take-take, drop-take, drop-drop, length-take, length-drop, Appends, Keeps, Sending, Written, Appends-nothing}

-- a part of a part is a part of all samples
pub part_of_part : (start count done size : ℕ) (samples : List ℕ) → done + size ≤ count
    → take size (drop (start + done) samples) ≡ take size (drop done (take count (drop start samples)))
part_of_part start count done size samples within =
    let rest : List ℕ = drop start samples in
    let whole : done + (count - done) ≡ count = omega (arith, within) in
    let less : size ≤ count - done = omega (arith, within) in
    ap (take size) (sym (drop-drop done start samples))
    ∙ sym (take-take size (count - done) (drop done rest) less)
    ∙ ap (take size) (sym (drop-take done (count - done) rest) ∙ ap (λ (n : ℕ). drop done (take n rest)) whole)

-- a part has as many samples as were asked for
pub length-part : (start count : ℕ) (samples : List ℕ) → start + count ≤ length samples → length (take count (drop start samples)) ≡ count
length-part start count samples within = omega (arith, within, length-take count (drop start samples), length-drop start samples)

-- a writer that has written nothing yet
pub begin_sending : {W : Type 0} (held : W → Option (List ℕ)) (failures : W → ℕ) (same : W → W → Type 0) (writer : W) (bytes : List ℕ) → same writer writer
    → Sending held failures same writer writer bytes bytes
begin_sending held failures same writer bytes at_once = record {
  written = record {
    prefix = [];
    parts = refl;
    appended = Appends-nothing (held writer) (held writer) (keeps (held writer));
  };
  count = refl;
  same_device = at_once;
}
  where
    keeps : (bytes : Option (List ℕ)) → Keeps bytes bytes
    keeps None = tt
    keeps (Some xs) = refl

-- all is written where nothing is left
pub all_written : {old now : Option (List ℕ)} {bytes rest : List ℕ} → Written old now bytes rest → rest ≡ [] → Appends old now bytes
all_written {old} {now} w none = subst (Appends old now) (sym (w.parts ∙ ap (λ (l : List ℕ). w.prefix ++ l) none ∙ append-nil w.prefix)) w.appended
