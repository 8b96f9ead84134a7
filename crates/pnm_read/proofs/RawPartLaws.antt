-- The samples of a raw row, and the bytes that they lie in.
use Rattle.pnm_read.proofs.Words.{◌≡◌, ℕ, ◌+◌, ◌-◌, ◌*◌, ◌≤◌, ◌<◌, ◌↔◌, All, Bool, true, false, IsTrue, List, [], ◌∷◌, ◌++◌, length, get_or, take, drop, Result}
use Rattle.pnm_read.proofs.Words.{Ok, Err, is_err, refl, sym, ap, ◌∙◌, subst, arith, ChunksExact, chunks_exact_steps, chunks_exact_rest, chunks_exact_size}
use Rattle.pnm_read.proofs.Words.{take_all, drop_at, length-append, YieldsList, YieldsList-from_shown_while}
use Rattle.std.proofs.Common.{OnOk}
use Rattle.pnm_read.specs.Rasters.{wide_samples}

-- ---- appended samples

-- what holds of each value holds where there is no error
pub at_no_error : {T E : Type 0} (P : Type 0) (r : Result T E) → is_err r ≡ false → OnOk r P → P
at_no_error P (Ok x) e h = h
at_no_error P (Err y) e h = absurd cc

-- what comes after the old list is what was appended
appended_end : (old samples : List ℕ) {new : List ℕ} {n : ℕ} → new ≡ old ++ samples → n ≡ length old → take (length new - n) (drop n new) ≡ samples
appended_end old samples {new} {n} e count =
    let left : drop n new ≡ samples = ap (drop n) e ∙ drop_at old samples n (sym count) in
    ap (take (length new - n)) left ∙ take_all (length new - n) samples (omega (arith, ap length e, length-append old samples))

-- what decides whether the end of a list is within a bound decides it of what was appended
pub within_of_appended : (old samples : List ℕ) {new : List ℕ} (n most : ℕ) (within : Bool) → new ≡ old ++ samples → n ≡ length old
    → (IsTrue within ↔ All (λ sample. sample ≤ most) (take (length new - n) (drop n new))) → IsTrue within ↔ All (λ sample. sample ≤ most) samples
within_of_appended old samples n most within e count known =
    subst (λ (l : List ℕ). IsTrue within ↔ All (λ sample. sample ≤ most) l) (appended_end old samples e count) known

-- what is refused isn't within the bound
pub refused_not_within : (samples : List ℕ) (most : ℕ) (within : Bool) → within ≡ false → (IsTrue within ↔ All (λ sample. sample ≤ most) samples)
    → All (λ sample. sample ≤ most) samples → ⊥
refused_not_within samples most true refused known all = cc
refused_not_within samples most false refused known all = let t : IsTrue false = known.1 all in cc

-- ---- pairs of bytes

-- the number of two bytes
abbrev pub pair_number : List ℕ → ℕ
pair_number pair = 256 * get_or pair 0 0 + get_or pair 1 0

-- fewer than two bytes hold no sample
wide_samples-short : (bytes : List ℕ) → length bytes < 2 → length (wide_samples bytes) ≡ 0
unfolding wide_samples
wide_samples-short [] h = refl
wide_samples-short (b ∷ []) h = refl
wide_samples-short (b ∷ c ∷ bytes) h = absurd (omega arith)

-- two bytes hold a sample, and the rest the others
wide_samples-pair : (pair bytes : List ℕ) → length pair ≡ 2 → wide_samples (pair ++ bytes) ≡ pair_number pair ∷ wide_samples bytes
unfolding wide_samples
wide_samples-pair [] bytes h = absurd (omega arith)
wide_samples-pair (b ∷ []) bytes h = absurd (omega arith)
wide_samples-pair (b ∷ c ∷ []) bytes h = refl
wide_samples-pair (b ∷ c ∷ d ∷ pair) bytes h = absurd (omega arith)

-- the pairs of bytes give the samples of the bytes
pub wide_samples_of_pairs : (bytes : List ℕ) (s : ChunksExact ℕ) → chunks_exact_rest s ≡ bytes → chunks_exact_size s ≡ 2
    → YieldsList (chunks_exact_steps {A = ℕ}) (λ x. pair_number x.now) s (wide_samples bytes)
wide_samples_of_pairs bytes s e size =
    subst (λ (b : List ℕ). YieldsList (chunks_exact_steps {A = ℕ}) (λ x. pair_number x.now) s (wide_samples b)) e
    (YieldsList-from_shown_while (chunks_exact_steps {A = ℕ}) (λ x. pair_number x.now) (λ u. wide_samples (chunks_exact_rest u)) (λ u. chunks_exact_size u ≡ 2)
    (λ u t two h. wide_samples-short (chunks_exact_rest u) (omega (arith, h.1.0)))
    (λ u x t two h. (h.0 ∙ two, ap wide_samples h.1.0 ∙ wide_samples-pair x.now (chunks_exact_rest t) (h.1.1 ∙ two)))
    s size)
