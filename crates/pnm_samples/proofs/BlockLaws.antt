-- A bit of each of several bytes.
use Rattle.pnm_samples.proofs.Words.{◌≡◌, ℕ, zero, suc, ◌+◌, ◌-◌, ◌*◌, ◌/◌, ◌%◌, ◌^◌, ◌<◌, List, [], ◌∷◌, length, get_or, map, replicate, All, leb, cond, refl}
use Rattle.pnm_samples.proofs.Words.{sym, ap, ap₂, subst, ◌∙◌, arith, bit_at, pow-succ', mask_l, top, zip2, bit_at-lt, bit_at-suc, zip2_of_maps, mask_l-lt}
use Rattle.pnm_samples.proofs.Words.{mask_l-mod, tops_compared, zip2_splat_left, length-map, bits_of}
use Rattle.std.proofs.Common.{w8}

-- the highest bit of a byte
highest_bit : (x : ℕ) → x < 256 → cond (leb 128 x) 1 0 ≡ bit_at x 7
highest_bit x lt = grind arith

-- the mask of the bytes that have it
pub mask_of_highest : (xs : List ℕ) → All (λ x. x < 256) xs → mask_l (map (λ x. leb 128 x) xs) ≡ bits_of 7 xs
mask_of_highest [] fit = refl
mask_of_highest (x ∷ xs) fit =
    ap₂ (λ a b. a + 2 * b) (highest_bit x (fit 0 0 (omega arith))) (mask_of_highest xs (λ k d lt. fit (suc k) d (omega arith)))

-- and that mask is what `to_bitmask` gives, a number of 16 bits
pub mask_of_sixteen : (xs : List ℕ) → length xs ≡ 16 → mask_l (map (top 7) (zip2 (λ a b. cond (leb a b) (2 ^ 8 - 1) 0) (replicate 16 128) xs)) % 2 ^ 64
    ≡ mask_l (map (leb 128) xs)
mask_of_sixteen xs count =
    ap (λ l. mask_l l % 2 ^ 64) (tops_compared w8 leb (replicate 16 128) xs ∙ zip2_splat_left leb 128 16 xs count)
    ∙ mask_l-mod (map (leb 128) xs) 64 (omega (arith, length-map xs (leb 128), count))

pub sixteen_bits : (xs : List ℕ) → length xs ≡ 16 → mask_l (map (leb 128) xs) < 65536
sixteen_bits xs count = subst (λ n. mask_l (map (leb 128) xs) < 2 ^ n) (length-map xs (leb 128) ∙ count) (mask_l-lt (map (leb 128) xs))

-- a bit that went up to the highest place
bit_moved : (b k : ℕ) → k < 8 → bit_at (b * 2 ^ k % 256) 7 ≡ bit_at b (7 - k)
bit_moved b zero lt = omega arith
bit_moved b (suc zero) lt = omega arith
bit_moved b (suc (suc zero)) lt = omega arith
bit_moved b (suc (suc (suc zero))) lt = omega arith
bit_moved b (suc (suc (suc (suc zero)))) lt = omega arith
bit_moved b (suc (suc (suc (suc (suc zero))))) lt = omega arith
bit_moved b (suc (suc (suc (suc (suc (suc zero)))))) lt = omega arith
bit_moved b (suc (suc (suc (suc (suc (suc (suc zero))))))) lt = omega arith
bit_moved b (suc (suc (suc (suc (suc (suc (suc (suc k)))))))) lt = absurd (omega arith)

pub bits_moved : (bs : List ℕ) (k : ℕ) → k < 8 → bits_of 7 (map (λ b. b * 2 ^ k % 256) bs) ≡ bits_of (7 - k) bs
bits_moved [] k lt = refl
bits_moved (b ∷ bs) k lt = ap₂ (λ x y. x + 2 * y) (bit_moved b k lt) (bits_moved bs k lt)

-- the bytes with their bits one place further up
twice : (b p : ℕ) → (b * p % 256 + b * p % 256) % 256 ≡ b * (2 * p) % 256
twice b p = omega arith

one_more_place : (b k : ℕ) → (b * 2 ^ k % 256 + b * 2 ^ k % 256) % 256 ≡ b * 2 ^ (k + 1) % 256
one_more_place b k = twice b (2 ^ k) ∙ ap (λ n. b * n % 256) (sym (pow-succ' 2 k) ∙ ap (λ n. 2 ^ n) (omega arith))

pub places_more : (bs : List ℕ) {lanes : List ℕ} (k : ℕ) → lanes ≡ map (λ b. b * 2 ^ k % 256) bs
    → zip2 (λ x y. (x + y) % 256) lanes lanes ≡ map (λ b. b * 2 ^ (k + 1) % 256) bs
places_more bs k e =
    zip2_of_maps (λ x y. (x + y) % 256) (λ b. b * 2 ^ k % 256) (λ b. b * 2 ^ k % 256) bs e e ∙ same bs
  where
    same : (l : List ℕ) → map (λ b. (b * 2 ^ k % 256 + b * 2 ^ k % 256) % 256) l ≡ map (λ b. b * 2 ^ (k + 1) % 256) l
    same [] = refl
    same (b ∷ l) = ap₂ (λ x y. x ∷ y) (one_more_place b k) (same l)

-- a bit of them
pub bit_of_bits : (place : ℕ) (bs : List ℕ) (i : ℕ) → i < length bs → bit_at (bits_of place bs) i ≡ bit_at (get_or bs i 0) place
bit_of_bits place [] i lt = absurd (omega arith)
bit_of_bits place (b ∷ bs) zero lt = omega (arith, bit_at-lt b place)
bit_of_bits place (b ∷ bs) (suc i) lt =
    let half : (bit_at b place + 2 * bits_of place bs) / 2 ≡ bits_of place bs = omega (arith, bit_at-lt b place) in
    bit_at-suc (bits_of place (b ∷ bs)) i ∙ ap (λ n. bit_at n i) half ∙ bit_of_bits place bs i (omega arith)
