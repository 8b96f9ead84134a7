-- Pixels that are packed into bytes are read again: eight a byte, the last byte with spare bits.
use Rattle.pnm_samples.proofs.Words.{◌≡◌, ℕ, zero, suc, ◌+◌, ◌-◌, ◌*◌, ◌/◌, ◌%◌, ◌<◌, ◌≤◌, inl, inr, List, [], ◌∷◌, ◌++◌, length, take, drop, replicate, All}
use Rattle.pnm_samples.proofs.Words.{refl, sym, ap, ap₂, ◌∙◌, arith, take-append-add, cases_lt, drop_at, take_at, take-append-le, take-append-drop, take_all}
use Rattle.pnm_samples.proofs.Words.{length-append, length-replicate, length-drop, length-take, length-map, nil_from_length, All-take, All-drop, All-append}
use Rattle.pnm_samples.proofs.Words.{All-replicate, cut_rows, all_pixels, packed_byte, packed_bytes, ArePacked}
use Rattle.std.proofs.Common.{flat_map}
use Rattle.pnm_samples.specs.Pixels.{pixels}
use Rattle.pnm_samples.proofs.CutLaws.{length-cut_rows}
use Rattle.pnm_samples.proofs.PackLaws.{length-packed_bytes}
use Rattle.pnm_samples.proofs.PackedBytes.{packed_groups, bits_before_white, groups_before_white}
use Rattle.pnm_samples.proofs.PixelLaws.{length-all_pixels}

-- ---- the pixels of a byte

-- the bit of each place, of a byte with a bit there, others above it and others below
eighth : (bit low byte : ℕ) → bit ≤ 1 → low < 128 → byte ≡ 128 * bit + low → byte / 128 % 2 ≡ bit
eighth bit low byte h l e = omega arith

module _ (high bit low byte : ℕ) where
  seventh : bit ≤ 1 → low < 64 → byte ≡ 128 * high + 64 * bit + low → byte / 64 % 2 ≡ bit
  seventh h l e = omega arith

  sixth : bit ≤ 1 → low < 32 → byte ≡ 64 * high + 32 * bit + low → byte / 32 % 2 ≡ bit
  sixth h l e = omega arith

  fifth : bit ≤ 1 → low < 16 → byte ≡ 32 * high + 16 * bit + low → byte / 16 % 2 ≡ bit
  fifth h l e = omega arith

  fourth : bit ≤ 1 → low < 8 → byte ≡ 16 * high + 8 * bit + low → byte / 8 % 2 ≡ bit
  fourth h l e = omega arith

  third : bit ≤ 1 → low < 4 → byte ≡ 8 * high + 4 * bit + low → byte / 4 % 2 ≡ bit
  third h l e = omega arith

  second : bit ≤ 1 → low < 2 → byte ≡ 4 * high + 2 * bit + low → byte / 2 % 2 ≡ bit
  second h l e = omega arith

first : (high bit byte : ℕ) → bit ≤ 1 → byte ≡ 2 * high + bit → byte / 1 % 2 ≡ bit
first high bit byte h e = omega arith

-- the bits of a byte
record BitsOf (byte a b c d e f g h : ℕ) : Type 0 where
  bit_a : byte / 128 % 2 ≡ a
  bit_b : byte / 64 % 2 ≡ b
  bit_c : byte / 32 % 2 ≡ c
  bit_d : byte / 16 % 2 ≡ d
  bit_e : byte / 8 % 2 ≡ e
  bit_f : byte / 4 % 2 ≡ f
  bit_g : byte / 2 % 2 ≡ g
  bit_h : byte / 1 % 2 ≡ h

-- those of a sum of bits by their weights
bits_of : (byte a b c d e f g h : ℕ) → a ≤ 1 → b ≤ 1 → c ≤ 1 → d ≤ 1 → e ≤ 1 → f ≤ 1 → g ≤ 1 → h ≤ 1
    → byte ≡ 128 * a + (64 * b + (32 * c + (16 * d + (8 * e + (4 * f + (2 * g + (1 * h + 0))))))) → BitsOf byte a b c d e f g h
bits_of byte a b c d e f g h ha hb hc hd he hf hg hh is = record {
  bit_a = eighth a (64 * b + 32 * c + 16 * d + 8 * e + 4 * f + 2 * g + h) byte ha (omega arith) (omega arith);
  bit_b = seventh a b (32 * c + 16 * d + 8 * e + 4 * f + 2 * g + h) byte hb (omega arith) (omega arith);
  bit_c = sixth (2 * a + b) c (16 * d + 8 * e + 4 * f + 2 * g + h) byte hc (omega arith) (omega arith);
  bit_d = fifth (4 * a + 2 * b + c) d (8 * e + 4 * f + 2 * g + h) byte hd (omega arith) (omega arith);
  bit_e = fourth (8 * a + 4 * b + 2 * c + d) e (4 * f + 2 * g + h) byte he (omega arith) (omega arith);
  bit_f = third (16 * a + 8 * b + 4 * c + 2 * d + e) f (2 * g + h) byte hf (omega arith) (omega arith);
  bit_g = second (32 * a + 16 * b + 8 * c + 4 * d + 2 * e + f) g h byte hg (omega arith) (omega arith);
  bit_h = first (64 * a + 32 * b + 16 * c + 8 * d + 4 * e + 2 * f + g) h byte hh (omega arith);
}

-- a pixel whose bit is that of a sample
pixel_is : {bit : ℕ} (sample : ℕ) → sample ≤ 1 → bit ≡ 1 - sample → 1 - bit ≡ sample
pixel_is sample h e = omega arith

-- the bit of a sample is a bit
small_bit : (sample : ℕ) → 1 - sample ≤ 1
small_bit sample = omega arith

-- the pixels of eight samples
eight_pixels : (a b c d e f g h : ℕ) → a ≤ 1 → b ≤ 1 → c ≤ 1 → d ≤ 1 → e ≤ 1 → f ≤ 1 → g ≤ 1 → h ≤ 1
    → pixels (packed_byte (a ∷ b ∷ c ∷ d ∷ e ∷ f ∷ g ∷ h ∷ [])) ≡ a ∷ b ∷ c ∷ d ∷ e ∷ f ∷ g ∷ h ∷ []
unfolding pixels
eight_pixels a b c d e f g h ha hb hc hd he hf hg hh =
    let byte : ℕ = packed_byte (a ∷ b ∷ c ∷ d ∷ e ∷ f ∷ g ∷ h ∷ []) in
    let bits = bits_of byte (1 - a) (1 - b) (1 - c) (1 - d) (1 - e) (1 - f) (1 - g) (1 - h)
    (small_bit a) (small_bit b) (small_bit c) (small_bit d) (small_bit e) (small_bit f) (small_bit g) (small_bit h) refl in
    let pa = pixel_is a ha bits.bit_a in
    let pb = pixel_is b hb bits.bit_b in
    let pc = pixel_is c hc bits.bit_c in
    let pd = pixel_is d hd bits.bit_d in
    let pe = pixel_is e he bits.bit_e in
    let pf = pixel_is f hf bits.bit_f in
    let pg = pixel_is g hg bits.bit_g in
    let ph = pixel_is h hh bits.bit_h in
    cc

-- samples that are pixels
abbrev pub ArePixels : List ℕ → Type 0
ArePixels xs = All (λ sample. sample ≤ 1) xs

-- the pixels of a byte of eight
pixels_of_eight : (xs : List ℕ) → length xs ≡ 8 → ArePixels xs → pixels (packed_byte xs) ≡ xs
pixels_of_eight [] n p = absurd (omega arith)
pixels_of_eight (a ∷ []) n p = absurd (omega arith)
pixels_of_eight (a ∷ b ∷ []) n p = absurd (omega arith)
pixels_of_eight (a ∷ b ∷ c ∷ []) n p = absurd (omega arith)
pixels_of_eight (a ∷ b ∷ c ∷ d ∷ []) n p = absurd (omega arith)
pixels_of_eight (a ∷ b ∷ c ∷ d ∷ e ∷ []) n p = absurd (omega arith)
pixels_of_eight (a ∷ b ∷ c ∷ d ∷ e ∷ f ∷ []) n p = absurd (omega arith)
pixels_of_eight (a ∷ b ∷ c ∷ d ∷ e ∷ f ∷ g ∷ []) n p = absurd (omega arith)
pixels_of_eight (a ∷ b ∷ c ∷ d ∷ e ∷ f ∷ g ∷ h ∷ []) n p =
    eight_pixels a b c d e f g h (p 0 0 (omega arith)) (p 1 0 (omega arith)) (p 2 0 (omega arith)) (p 3 0 (omega arith)) (p 4 0 (omega arith))
    (p 5 0 (omega arith)) (p 6 0 (omega arith)) (p 7 0 (omega arith))
pixels_of_eight (a ∷ b ∷ c ∷ d ∷ e ∷ f ∷ g ∷ h ∷ i ∷ xs) n p = absurd (omega arith)

-- the pixels of a byte of up to eight: these, and white ones
pixels_of_byte : (xs : List ℕ) → length xs ≤ 8 → ArePixels xs → pixels (packed_byte xs) ≡ xs ++ replicate (8 - length xs) 1
pixels_of_byte xs short p =
    let white : List ℕ = replicate (8 - length xs) 1 in
    let eight : length (xs ++ white) ≡ 8 = omega (arith, length-append xs white, length-replicate {A = ℕ} (8 - length xs) 1) in
    let all : ArePixels (xs ++ white) = All-append (λ sample. sample ≤ 1) xs white p (All-replicate (λ sample. sample ≤ 1) (8 - length xs) 1 (omega arith)) in
    ap pixels (sym (bits_before_white 128 (8 - length xs) xs)) ∙ pixels_of_eight (xs ++ white) eight all

-- ---- the pixels of the bytes of a row

-- a last group
last_group : (xs more : List ℕ) → length xs ≤ 8 → ArePixels xs → take (length xs) (pixels (packed_byte (take 8 xs)) ++ more) ≡ xs
unfolding pixels
last_group xs more short p =
    ap (λ (l : List ℕ). take (length xs) (pixels (packed_byte l) ++ more)) (take_all 8 xs short)
    ∙ take-append-le (length xs) (pixels (packed_byte xs)) more short
    ∙ ap (take (length xs)) (pixels_of_byte xs short p)
    ∙ take_at xs (replicate (8 - length xs) 1) (length xs) refl

-- a whole group, and those after it
whole_group : (n : ℕ) (xs more : List ℕ) → length xs ≡ 8 + n → ArePixels xs → take n more ≡ drop 8 xs
    → take (length xs) (pixels (packed_byte (take 8 xs)) ++ more) ≡ xs
whole_group n xs more count p rest =
    let prefix : List ℕ = take 8 xs in
    let eight : length prefix ≡ 8 = omega (arith, length-take 8 xs) in
    let same : pixels (packed_byte prefix) ≡ prefix = pixels_of_eight prefix eight (All-take (λ sample. sample ≤ 1) 8 xs p) in
    let length_is : length xs ≡ length prefix + n = omega arith in
    ap₂ (λ (m : ℕ) (l : List ℕ). take m (l ++ more)) length_is same
    ∙ take-append-add prefix more n
    ∙ ap (λ (l : List ℕ). prefix ++ l) rest
    ∙ take-append-drop 8 xs

-- the pixels of so many groups, without those of spare bits
pub pixels_of_groups : (count : ℕ) (xs : List ℕ) → length xs ≤ 8 * count → ArePixels xs → take (length xs) (flat_map pixels (packed_groups count xs)) ≡ xs
pixels_of_groups zero xs few p = let none : xs ≡ [] = nil_from_length xs (omega arith) in rw none refl
pixels_of_groups (suc count) xs few p = elim (cases_lt (length xs) 8) [
  | inl short ↦ last_group xs (flat_map pixels (packed_groups count (drop 8 xs))) (omega arith) p
  | inr long ↦
      let rest : length (drop 8 xs) + 8 ≡ length xs = omega (arith, length-drop 8 xs) in
      let few_left : length (drop 8 xs) ≤ 8 * count = omega arith in
      whole_group (length (drop 8 xs)) xs (flat_map pixels (packed_groups count (drop 8 xs))) (omega arith) p
      (pixels_of_groups count (drop 8 xs) few_left (All-drop (λ sample. sample ≤ 1) 8 xs p))
]

-- the pixels of all their bytes: these, and white ones
pub packed_again : {each : ℕ} {xs : List ℕ} → length xs ≡ each → ArePixels xs
    → ArePacked each (packed_bytes xs) × (take each (all_pixels (packed_bytes xs)) ≡ xs)
packed_again {each} {xs} long p =
    let count = (length xs + 7) / 8 in
    let spare = 8 * count - length xs in
    let white : List ℕ = replicate spare 1 in
    let whole : length (xs ++ white) ≡ 8 * count = omega (arith, length-append xs white, length-replicate {A = ℕ} spare 1) in
    let bytes : length (packed_bytes xs) ≡ count = length-packed_bytes xs in
    let all : all_pixels (packed_bytes xs) ≡ xs ++ white =
    ap all_pixels (sym (groups_before_white count spare xs))
    ∙ sym (take_all (length (xs ++ white)) (all_pixels (packed_groups count (xs ++ white))) (omega (
      arith,
      whole,
      length-all_pixels (packed_groups count (xs ++ white)),
      length-map (cut_rows count 8 (xs ++ white)) packed_byte,
      length-cut_rows count 8 (xs ++ white),
    )))
    ∙ pixels_of_groups count (xs ++ white) (omega (arith, whole))
    (All-append (λ sample. sample ≤ 1) xs white p (All-replicate (λ sample. sample ≤ 1) spare 1 (omega arith))) in (
      record {
        enough = omega (arith, bytes, long);
        spare = ap (drop each) all ∙ drop_at xs white each long ∙ ap (λ (k : ℕ). replicate k 1) (omega (arith, bytes, long));
      },
      ap (take each) all ∙ take_at xs white each long,
    )
