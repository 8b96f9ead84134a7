-- Pixels that stand several times.
use Rattle.pnm_samples.proofs.Words.{◌≡◌, ℕ, zero, suc, ◌+◌, ◌*◌, ◌%◌, ◌<◌, true, List, [], ◌∷◌, ◌++◌, length, get_or, take, replicate, refl, sym, ap, ap₂, ◌∙◌}
use Rattle.pnm_samples.proofs.Words.{arith, bit_and, bit_or, w16, to_be_bytes, flat_map, agree_below_at, flat_map-append, append-nil, take_more, take_all}
use Rattle.pnm_samples.proofs.Words.{length-replicate, replicate-append-replicate, take-append-add, all_pixels}
use Rattle.pnm_samples.specs.Pixels.{pixels}
use Rattle.pnm_samples.proofs.MirrorLaws.{same_list, same_from_test}

-- each so many times
abbrev pub repeated : ℕ → List ℕ → List ℕ
repeated times samples = flat_map (λ s. replicate times s) samples

-- ---- twice

-- a byte's bits apart, step by step, and each twice in the end
abbrev pub apart : ℕ → ℕ → ℕ → ℕ
apart factor mask n = bit_and (bit_or n (n * factor % 65536)) mask

abbrev pub spread : ℕ → ℕ
spread b =
    let bits = apart 2 21845 (apart 4 13107 (apart 16 3855 b)) in
    bit_or bits (bits * 2 % 65536)

pub doubled_pixels : (b : ℕ) → b < 256 → all_pixels (to_be_bytes w16 (spread b)) ≡ repeated 2 (pixels b)
unfolding pixels
doubled_pixels b lt =
    same_from_test (all_pixels (to_be_bytes w16 (spread b))) (repeated 2 (pixels b))
    (agree_below_at (λ n. same_list (all_pixels (to_be_bytes w16 (spread n))) (repeated 2 (pixels n))) (λ _. true) 256 b refl lt)

-- ---- any number of times

pub once : (xs : List ℕ) → xs ≡ repeated 1 xs
once [] = refl
once (x ∷ xs) = ap (λ (l : List ℕ). x ∷ l) (once xs)

-- so many of them, each so many times
pub take_repeated : (times k : ℕ) (xs : List ℕ) → take (k * times) (repeated times xs) ≡ repeated times (take k xs)
take_repeated times zero xs =
    let none : zero * times ≡ zero = omega arith in
    ap (λ (k : ℕ). take k (repeated times xs)) none
take_repeated times (suc k) [] = take_all (suc k * times) [] (omega arith)
take_repeated times (suc k) (x ∷ xs) =
    let more : suc k * times ≡ length (replicate times x) + k * times = omega (arith, length-replicate times x) in
    ap (λ (m : ℕ). take m (replicate times x ++ repeated times xs)) more ∙ take-append-add (replicate times x) (repeated times xs) (k * times)
    ∙ ap (λ (l : List ℕ). replicate times x ++ l) (take_repeated times k xs)

-- so many pixels of a row, each so many times
pub repeated_view : (times count : ℕ) (bytes : List ℕ) {value : List ℕ} → take count (all_pixels bytes) ≡ value → take (count * times)
    (repeated times (all_pixels bytes)) ≡ repeated times value
repeated_view times count bytes is = take_repeated times count (all_pixels bytes) ∙ ap (repeated times) is

-- pixels of one colour
pub plain : (n byte s : ℕ) → pixels byte ≡ replicate 8 s → all_pixels (replicate n byte) ≡ replicate (8 * n) s
plain zero byte s e = refl
plain (suc n) byte s e =
    let more : 8 + 8 * n ≡ 8 * suc n = omega arith in
    ap₂ (λ (l r : List ℕ). l ++ r) e (plain n byte s e) ∙ replicate-append-replicate 8 (8 * n) s ∙ ap (λ (k : ℕ). replicate k s) more

pub black_byte : pixels 255 ≡ replicate 8 0
unfolding pixels
black_byte = refl

pub white_byte : pixels 0 ≡ replicate 8 1
unfolding pixels
white_byte = refl

-- one pixel more
pub repeated_step : {row next : List ℕ} (value : List ℕ) (i times : ℕ) {s : ℕ} → i < length value → get_or value i 0 ≡ s
    → row ≡ repeated times (take i value) → next ≡ row ++ replicate times s → next ≡ repeated times (take (i + 1) value)
repeated_step value i times {s} lt at known more =
    more ∙ ap₂ (λ (l : List ℕ) (x : ℕ). l ++ replicate times x) known (sym at)
    ∙ ap (λ (l : List ℕ). repeated times (take i value) ++ l) (sym (append-nil (replicate times (get_or value i 0))))
    ∙ sym (flat_map-append (λ s. replicate times s) (take i value) (get_or value i 0 ∷ []))
    ∙ ap (repeated times) (sym (take_more value i 0 lt))
