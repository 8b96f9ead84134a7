-- The bytes of the pixels of a row.
use Rattle.pnm_samples.proofs.Words.{◌≡◌, ℕ, zero, suc, ◌+◌, ◌-◌, ◌*◌, ◌/◌, ◌<◌, List, [], ◌∷◌, ◌++◌, length, true, eqb, take, drop, replicate, refl, sym, ap}
use Rattle.pnm_samples.proofs.Words.{ap₂, map, ◌∙◌, arith, agree_below_at, eqb-true, take_all, drop_all, take_at, drop_at, take-append-drop, all_pixels}
use Rattle.pnm_samples.proofs.Words.{ArePacked, pixel_bits, packed_byte, packed_bytes, AreBytes, cut_rows}
use Rattle.pnm_samples.specs.Pixels.{pixels}
use Rattle.pnm_samples.proofs.PixelLaws.{length-pixels}
use Rattle.pnm_samples.proofs.PixelRowLaws.{length_of_packed}

-- so many bytes of eight pixels each
abbrev pub packed_groups : ℕ → List ℕ → List ℕ
packed_groups count samples = map packed_byte (cut_rows count 8 samples)

-- the byte of the pixels of a byte
byte_of_pixels : (b : ℕ) → b < 256 → packed_byte (pixels b) ≡ b
unfolding pixels
byte_of_pixels b lt = eqb-true (packed_byte (pixels b)) b (agree_below_at (λ n. eqb (packed_byte (pixels n)) n) (λ _. true) 256 b refl lt)

-- the first byte of many
first_byte : (b : ℕ) (rest : List ℕ) → b < 256 → packed_byte (take 8 (pixels b ++ rest)) ≡ b
first_byte b rest lt = ap packed_byte (take_at (pixels b) rest 8 (length-pixels b)) ∙ byte_of_pixels b lt

groups_of_bytes : (bytes : List ℕ) → AreBytes bytes → packed_groups (length bytes) (all_pixels bytes) ≡ bytes
groups_of_bytes [] fit = refl
groups_of_bytes (b ∷ bytes) fit =
    let here : b < 256 = omega (arith, fit 0) in
    ap₂ (λ (x : ℕ) (l : List ℕ). x ∷ l) (first_byte b (all_pixels bytes) here)
    (ap (packed_groups (length bytes)) (drop_at (pixels b) (all_pixels bytes) 8 (length-pixels b)) ∙ groups_of_bytes bytes (λ k. fit (suc k)))

-- white pixels have no bit
white_bits : (weight n : ℕ) → pixel_bits weight (replicate n 1) ≡ 0
white_bits weight zero = refl
white_bits weight (suc n) = omega (arith, white_bits (weight / 2) n)

-- white pixels at the end change nothing
pub bits_before_white : (weight n : ℕ) (p : List ℕ) → pixel_bits weight (p ++ replicate n 1) ≡ pixel_bits weight p
bits_before_white weight n [] = white_bits weight n
bits_before_white weight n (sample ∷ p) = ap (λ (k : ℕ). weight * (1 - sample) + k) (bits_before_white (weight / 2) n p)

-- a prefix, and the rest, of a list with white pixels at its end
take_white : (k n : ℕ) (p : List ℕ) → (m : ℕ) × (take k (p ++ replicate n 1) ≡ take k p ++ replicate m 1)
take_white zero n p = (0, refl)
take_white (suc k) zero [] = (0, refl)
take_white (suc k) (suc n) [] = let later = take_white k n [] in
    (suc later.0, ap (λ (l : List ℕ). 1 ∷ l) (later.1 ∙ ap (λ (l : List ℕ). l ++ replicate later.0 1) (take_all k [] (omega arith))))
take_white (suc k) n (s ∷ p) = let later = take_white k n p in (later.0, ap (λ (l : List ℕ). s ∷ l) later.1)

drop_white : (k n : ℕ) (p : List ℕ) → (m : ℕ) × (drop k (p ++ replicate n 1) ≡ drop k p ++ replicate m 1)
drop_white zero n p = (n, refl)
drop_white (suc k) zero [] = (0, refl)
drop_white (suc k) (suc n) [] = let later = drop_white k n [] in
    (later.0, later.1 ∙ ap (λ (l : List ℕ). l ++ replicate later.0 1) (drop_all k [] (omega arith)))
drop_white (suc k) n (s ∷ p) = drop_white k n p

pub groups_before_white : (count n : ℕ) (p : List ℕ) → packed_groups count (p ++ replicate n 1) ≡ packed_groups count p
groups_before_white zero n p = refl
groups_before_white (suc count) n p =
    let prefix = take_white 8 n p in let rest = drop_white 8 n p in
    ap₂ (λ (x : ℕ) (l : List ℕ). x ∷ l) (ap packed_byte prefix.1 ∙ bits_before_white 128 prefix.0 (take 8 p))
    (ap (packed_groups count) rest.1 ∙ groups_before_white count rest.0 (drop 8 p))

-- the bytes of a row's pixels are its bytes
pub packed_view : (count : ℕ) (bytes value : List ℕ) → ArePacked count bytes → AreBytes bytes → take count (all_pixels bytes) ≡ value
    → bytes ≡ packed_bytes value
packed_view count bytes value h fit is =
    let size : (length value + 7) / 8 ≡ length bytes = ap (λ (n : ℕ). (n + 7) / 8) (ap length (sym is) ∙ length_of_packed count bytes h) ∙ sym h.enough in
    let parts : all_pixels bytes ≡ value ++ replicate (8 * length bytes - count) 1 = sym (take-append-drop count (all_pixels bytes))
    ∙ ap₂ (λ (a b : List ℕ). a ++ b) is h.spare in
    sym (groups_of_bytes bytes fit) ∙ ap (packed_groups (length bytes)) parts ∙ groups_before_white (length bytes) (8 * length bytes - count) value
    ∙ ap (λ (n : ℕ). packed_groups n value) (sym size)
