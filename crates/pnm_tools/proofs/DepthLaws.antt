-- The rescaled image: each sample is changed by itself, to the nearest one.
use Rattle.pnm_tools.proofs.Words.{◌≡◌, ℕ, ◌+◌, ◌*◌, ◌/◌, ◌<◌, ◌≤◌, Bool, true, false, not, List, [], refl, ap, arith, mul-le-mul, lt_of_mul-lt-mul_left, codes}
use Rattle.pnm_tools.proofs.Words.{All, slice_index_or, ◌≢◌, ◌==◌, if◌then◌else◌, bytes_eq, list_all, eqb-true, eqb-false, not-true, AllPass-from_list_all}
use Rattle.pnm_tools.proofs.Words.{Kind, Bit, Gray, Color, Pam, Shape, HeadValue, IsHead, IsTupleType, Suits, Depth, nearest_sample, gray_kind, gray_type}
use Rattle.pnm_tools.proofs.Words.{rescaled_by, changed_head}
use Rattle.pnm_tools.proofs.SamplewiseLaws.{IsSamplewise}

-- the whole part of a quotient
whole_part : (share each q : ℕ) → 0 < each → q ≡ share / each → (each * q ≤ share) × (share < each * q + each)
whole_part share each q some e =
    let low : each * (share / each) ≤ share = omega arith in
    let high : share < each * (share / each) + each = omega arith in
    (rw e low, rw e high)

-- the rescaled sample is nearest to the same share of the new maxval; of two as near it is the greater
pub nearest_sample_is_nearest : (new old sample q : ℕ) → 0 < old → q ≡ nearest_sample new old sample → (2 * old * q ≤ 2 * sample * new + old)
    × (2 * sample * new + old < 2 * old * q + 2 * old)
nearest_sample_is_nearest new old sample q some e = whole_part (2 * sample * new + old) (2 * old) q (omega arith) e

-- the nearest sample is in the new range
pub nearest_in_range : (new old sample : ℕ) → 0 < old → sample ≤ old → nearest_sample new old sample ≤ new
nearest_in_range new old sample some range =
    let q : ℕ = nearest_sample new old sample in
    let near = nearest_sample_is_nearest new old sample q some refl in
    let share : 2 * sample * new ≤ 2 * old * new = mul-le-mul {n₁ = 2 * sample} {m₁ = new} {n₂ = 2 * old} {m₂ = new} (omega arith) (omega arith) in
    let next : 2 * old * (new + 1) ≡ 2 * old * new + 2 * old = omega arith in
    let below : q < new + 1 = lt_of_mul-lt-mul_left (2 * old) (omega (arith, near.0, share, next)) in
    omega arith

one_line : (text : List ℕ) → list_all (λ b. not (b == 10)) text ≡ true → All (λ b. b ≢ 10) text
one_line text e k d lt =
    eqb-false (slice_index_or text k d) 10 (not-true (slice_index_or text k d == 10) (AllPass-from_list_all (λ b. not (b == 10)) text e k d lt))

gray_is_type : IsTupleType (codes "GRAYSCALE")
gray_is_type = record { short = omega arith; one_line = one_line (codes "GRAYSCALE") refl; first = λ some. refl; last = λ some. refl }

gray_alpha_is_type : IsTupleType (codes "GRAYSCALE_ALPHA")
gray_alpha_is_type = record { short = omega arith; one_line = one_line (codes "GRAYSCALE_ALPHA") refl; first = λ some. refl; last = λ some. refl }

type_by : (plain alpha : Bool) (text : List ℕ) → IsTupleType text
    → IsTupleType (if plain then codes "GRAYSCALE" else if alpha then codes "GRAYSCALE_ALPHA" else text)
type_by true alpha text sound = gray_is_type
type_by false true text sound = gray_alpha_is_type
type_by false false text sound = sound

gray_type_is : (text : List ℕ) → IsTupleType text → IsTupleType (gray_type text)
gray_type_is text sound = type_by (bytes_eq text (codes "BLACKANDWHITE")) (bytes_eq text (codes "BLACKANDWHITE_ALPHA")) text sound

no_gray_type : (text : List ℕ) → text ≡ [] → gray_type text ≡ []
no_gray_type text none = ap gray_type none

-- the kind and the tuple type suit the new maxval
gray_suits : (kind : Kind) (depth maxval new : ℕ) (text : List ℕ) → Suits kind depth maxval text → Suits (gray_kind kind) depth new (gray_type text)
gray_suits Bit depth maxval new text suits = (suits.0, no_gray_type text suits.2)
gray_suits Gray depth maxval new text suits = (suits.0, no_gray_type text suits.1)
gray_suits Color depth maxval new text suits = (suits.0, no_gray_type text suits.1)
gray_suits Pam depth maxval new text suits = gray_type_is text suits

same_suits : (kind : Kind) (depth maxval new : ℕ) (text : List ℕ) → new ≡ 1 → Suits kind depth maxval text → Suits kind depth new text
same_suits Bit depth maxval new text one suits = (suits.0, one, suits.2)
same_suits Gray depth maxval new text one suits = suits
same_suits Color depth maxval new text one suits = suits
same_suits Pam depth maxval new text one suits = suits

suits_by : (one : Bool) (kind : Kind) (depth maxval new : ℕ) (text : List ℕ) → (new == 1) ≡ one → Suits kind depth maxval text
    → Suits (if one then kind else gray_kind kind) depth new (if one then text else gray_type text)
suits_by true kind depth maxval new text is suits = same_suits kind depth maxval new text (eqb-true new 1 is) suits
suits_by false kind depth maxval new text is suits = gray_suits kind depth maxval new text suits

rescaled_head_is : (new : ℕ) (head : HeadValue) → 1 ≤ new → new ≤ 65535 → IsHead head → IsHead (changed_head (rescaled_by new) head)
rescaled_head_is new head low high sound =
    let s : Shape = head.shape in
    let limits = sound.limits in
    record {
      limits = record {
        width_low = limits.width_low;
        width_high = limits.width_high;
        height_high = limits.height_high;
        depth_low = limits.depth_low;
        depth_high = limits.depth_high;
        row_high = limits.row_high;
        maxval_low = omega arith;
        maxval_high = high;
      };
      suits = suits_by (new == 1) s.kind s.depth s.maxval new head.tuple_type refl sound.suits;
    }

pub depth_is_samplewise : (new : ℕ) → IsSamplewise (Depth new) (rescaled_by new)
depth_is_samplewise new = record {
  means = refl;
  rows = refl;
  head = λ h lawful is. rescaled_head_is new h lawful.0 lawful.1 is;
  within = λ maxval sample lawful some le. nearest_in_range new maxval sample some le;
}
