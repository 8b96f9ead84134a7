-- The text of a sample is a short word.
use Rattle.pnm_write.proofs.Words.{ℕ, ◌^◌, ◌<◌, ◌≤◌, List, [], ◌∷◌, length, All, decimal, arith, AllByRecursion, decimal_is_IsNumeral, length-decimal-le}
use Rattle.pnm_write.proofs.Words.{All-head, All-tail, Kind, Bit, Gray, Color, Pam, HeadValue, IsHead, Suits, IsRowOf, sample_text}

-- the text of a number of at most ten digits has at most ten
pub decimal_short : (n : ℕ) → n < 10 ^ 10 → length (decimal n) ≤ 10
decimal_short n h = length-decimal-le 10 n (omega arith) h (omega arith)

-- a word of at most ten bytes
pub record IsShortWord (word : List ℕ) : Type 0 where
  pub some : 0 < length word
  pub short : length word ≤ 10

number_is_short : (sample : ℕ) → sample ≤ 65535 → IsShortWord (decimal sample)
number_is_short sample within = record {
  some = (decimal_is_IsNumeral sample (omega arith)).0.0;
  short = decimal_short sample (omega arith);
}

-- the text of a sample that is within its maxval
pub sample_is_short : (kind : Kind) (depth maxval : ℕ) (tuple_type : List ℕ) → Suits kind depth maxval tuple_type → maxval ≤ 65535 → (sample : ℕ)
    → sample ≤ maxval → IsShortWord (sample_text kind sample)
sample_is_short Bit depth maxval tuple_type suits high sample within = record { some = omega arith; short = omega arith }
sample_is_short Gray depth maxval tuple_type suits high sample within = number_is_short sample (omega arith)
sample_is_short Color depth maxval tuple_type suits high sample within = number_is_short sample (omega arith)
sample_is_short Pam depth maxval tuple_type suits high sample within = number_is_short sample (omega arith)

abbrev pub AreShortWords : Kind → List ℕ → Type 0
AreShortWords kind samples = AllByRecursion (λ sample. IsShortWord (sample_text kind sample)) samples

-- what holds of each sample that is within a maxval
pub each_within : (P : ℕ → Type 0) (maxval : ℕ) → ((sample : ℕ) → sample ≤ maxval → P sample) → (samples : List ℕ)
    → All (λ sample. sample ≤ maxval) samples → AllByRecursion P samples
each_within P maxval is [] range = tt
each_within P maxval is (sample ∷ samples) range =
    (is sample (All-head (λ x. x ≤ maxval) sample samples range), each_within P maxval is samples (All-tail (λ x. x ≤ maxval) sample samples range))

-- the texts of a row's samples
pub row_is_short : {head : HeadValue} → IsHead head → {row : List ℕ} → IsRowOf head.shape row → AreShortWords head.shape.kind row
row_is_short {head} sound {row} is =
    each_within (λ sample. IsShortWord (sample_text head.shape.kind sample)) head.shape.maxval
    (sample_is_short head.shape.kind head.shape.depth head.shape.maxval head.tuple_type sound.suits (omega (arith, sound.limits.maxval_high))) row is.range
