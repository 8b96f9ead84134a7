-- The pixels of bytes.
use Rattle.pnm_samples.proofs.Words.{◌≡◌, ℕ, zero, suc, ◌+◌, ◌-◌, ◌*◌, ◌/◌, ◌%◌, ◌^◌, ◌<◌, ◌≤◌, List, [], ◌∷◌, ◌++◌, length, get_or, set, min, inl, inr, take}
use Rattle.pnm_samples.proofs.Words.{drop, map, replicate, refl, sym, ap, ap₂, ◌∙◌, arith, lit<, take-add, bit_and, bit_at, w8, shr-shr, shr_split, bit_at_not}
use Rattle.pnm_samples.proofs.Words.{bit_at-lt, bit_at_and, bit_at_cat_low, bit_at_cat_high, bit_at_mask_inside, bit_at_mask_below, cases_lt, map-append}
use Rattle.pnm_samples.proofs.Words.{append-nil, take_all, drop_all, ext_get_or, length-drop, length-take, length-replicate, get_or_append_left}
use Rattle.pnm_samples.proofs.Words.{get_or-append_right, get_or-drop, get_or-take, get_or-replicate, set_split, set-get_or, take_at, drop_at, length-set}
use Rattle.pnm_samples.proofs.Words.{drop-drop, drop-append-le, take-append-le, drop_more, take_more_set, drop-take, take-take, length-take-le}
use Rattle.pnm_samples.proofs.Words.{take-append-drop, append_assoc, put_mid, flat_map-append, take-append-add, drop-append-add, pixel_at, all_pixels}
use Rattle.pnm_samples.proofs.Words.{ArePacked, AreBytes}
use Rattle.std.proofs.Common.{length-append}
use Rattle.pnm_samples.specs.Pixels.{pixels}

-- ---- one byte

pub length-pixels : (b : ℕ) → length (pixels b) ≡ 8
unfolding pixels
length-pixels b = refl

-- the complement of a byte
complement_at : (b i : ℕ) → b < 2 ^ 8 → i < 8 → pixel_at i (255 - b) ≡ 1 - pixel_at i b
complement_at b i fits below = ap (λ (n : ℕ). 1 - n) (bit_at_not w8 b i fits below)

pub pixels_of_complement : (b : ℕ) → b < 2 ^ 8 → pixels (255 - b) ≡ map (λ s. 1 - s) (pixels b)
unfolding pixels
pixels_of_complement b fits =
    let at : (i : ℕ) → i < 8 → pixel_at i (255 - b) ≡ 1 - pixel_at i b = λ i below. complement_at b i fits below in
    ap₂ (λ (x : ℕ) (l : List ℕ). x ∷ l) (at 7 (lit< tt))
    (ap₂ (λ (x : ℕ) (l : List ℕ). x ∷ l) (at 6 (lit< tt))
    (ap₂ (λ (x : ℕ) (l : List ℕ). x ∷ l) (at 5 (lit< tt)) (ap₂ (λ (x : ℕ) (l : List ℕ). x ∷ l) (at 4 (lit< tt))
    (ap₂ (λ (x : ℕ) (l : List ℕ). x ∷ l) (at 3 (lit< tt))
    (ap₂ (λ (x : ℕ) (l : List ℕ). x ∷ l) (at 2 (lit< tt))
    (ap₂ (λ (x : ℕ) (l : List ℕ). x ∷ l) (at 1 (lit< tt)) (ap₂ (λ (x : ℕ) (l : List ℕ). x ∷ l) (at 0 (lit< tt)) refl)))))))

-- ---- many bytes

pub length-all_pixels : (bytes : List ℕ) → length (all_pixels bytes) ≡ 8 * length bytes
length-all_pixels [] = refl
length-all_pixels (b ∷ bytes) = omega (arith, length-append (pixels b) (all_pixels bytes), length-pixels b, length-all_pixels bytes)

pub complement_pixels : (bytes : List ℕ) → AreBytes bytes → all_pixels (map (λ b. 255 - b) bytes) ≡ map (λ s. 1 - s) (all_pixels bytes)
complement_pixels [] fit = refl
complement_pixels (b ∷ bytes) fit =
    let here : b < 2 ^ 8 = omega (arith, fit 0) in
    ap₂ (λ (l r : List ℕ). l ++ r) (pixels_of_complement b here) (complement_pixels bytes (λ k. fit (suc k)))
    ∙ sym (map-append (λ s. 1 - s) (pixels b) (all_pixels bytes))

-- a map in place, once all have passed
pub all_mapped : {X : Type 0} (f : X → X) (xs : List X) {ys : List X} (i : ℕ) → length xs ≤ i → ys ≡ map f (take i xs) ++ drop i xs → ys ≡ map f xs
all_mapped f xs i le known = known ∙ ap₂ (λ (l r : List _). map f l ++ r) (take_all i xs le) (drop_all i xs le) ∙ append-nil (map f xs)

-- ---- pixel by pixel

pub get_or-pixels : (b i : ℕ) → i < 8 → get_or (pixels b) i 0 ≡ pixel_at (7 - i) b
unfolding pixels
get_or-pixels b zero h = refl
get_or-pixels b (suc zero) h = refl
get_or-pixels b (suc (suc zero)) h = refl
get_or-pixels b (suc (suc (suc zero))) h = refl
get_or-pixels b (suc (suc (suc (suc zero)))) h = refl
get_or-pixels b (suc (suc (suc (suc (suc zero))))) h = refl
get_or-pixels b (suc (suc (suc (suc (suc (suc zero)))))) h = refl
get_or-pixels b (suc (suc (suc (suc (suc (suc (suc zero))))))) h = refl
get_or-pixels b (suc (suc (suc (suc (suc (suc (suc (suc i)))))))) h = absurd (omega arith)

-- the byte whose pixels are these
pub pixels_by : (b : ℕ) (l : List ℕ) → length l ≡ 8 → ((i : ℕ) → i < 8 → get_or l i 0 ≡ pixel_at (7 - i) b) → pixels b ≡ l
pixels_by b l count known =
    ext_get_or 0 (pixels b) l (length-pixels b ∙ sym count) (λ i below.
    let inside : i < 8 = omega (arith, length-pixels b) in
    get_or-pixels b i inside ∙ sym (known i inside))

-- a bit of a shifted number, and of its low byte
pub bit_at-shr : (n k i : ℕ) → bit_at (n / 2 ^ k) i ≡ bit_at n (k + i)
bit_at-shr n k i = ap (λ m. m % 2) (shr-shr n k i)

pub bit_at-low_byte : (n i : ℕ) → i < 8 → bit_at (n % 256) i ≡ bit_at n i
bit_at-low_byte n i h = sym (bit_at_cat_low (n / 2 ^ 8) 8 (n % 2 ^ 8) i h) ∙ ap (λ m. bit_at m i) (shr_split n 8)

-- a bit of eight bits of two bytes
bit_of_window : (high low s i : ℕ) → s < 8 → i < 8 → bit_at ((high * 256 + low) / 2 ^ (8 - s) % 256) i ≡ bit_at (high * 256 + low) ((8 - s) + i)
bit_of_window high low s i lt h = bit_at-low_byte ((high * 256 + low) / 2 ^ (8 - s)) i h ∙ bit_at-shr (high * 256 + low) (8 - s) i

pub window_pixels : (high low s : ℕ) → low < 2 ^ 8 → s < 8 → pixels ((high * 256 + low) / 2 ^ (8 - s) % 256) ≡ drop s (pixels high) ++ take s (pixels low)
window_pixels high low s fits lt =
    let n = high * 256 + low in
    let left = drop s (pixels high) in
    let right = take s (pixels low) in
    let left_count : length left ≡ 8 - s = omega (arith, length-drop s (pixels high), length-pixels high) in
    let right_count : length right ≡ s = omega (arith, length-take s (pixels low), length-pixels low) in
    pixels_by (n / 2 ^ (8 - s) % 256) (left ++ right) (omega (arith, length-append left right)) (λ i below.
    let bit : pixel_at (7 - i) (n / 2 ^ (8 - s) % 256) ≡ 1 - bit_at n ((8 - s) + (7 - i)) =
    ap (λ (b : ℕ). 1 - b) (bit_of_window high low s (7 - i) lt (omega arith)) in
    elim (cases_lt i (8 - s)) [
      | inl prefix ↦
          let place : (8 - s) + (7 - i) - 8 ≡ 7 - (s + i) = omega arith in
          get_or_append_left left right 0 i (omega arith) ∙ get_or-drop s (pixels high) i 0 ∙ get_or-pixels high (s + i) (omega arith)
          ∙ ap (λ (k : ℕ). pixel_at k high) (sym place)
          ∙ ap (λ (b : ℕ). 1 - b) (sym (bit_at_cat_high high 8 low ((8 - s) + (7 - i)) fits (omega arith)))
          ∙ sym bit
      | inr back ↦
          let place : (8 - s) + (7 - i) ≡ 7 - (i - (8 - s)) = omega arith in
          get_or-append_right left right (8 - s) i 0 left_count back ∙ get_or-take s (pixels low) (i - (8 - s)) 0 (omega arith)
          ∙ get_or-pixels low (i - (8 - s)) (omega arith)
          ∙ ap (λ (k : ℕ). pixel_at k low) (sym place)
          ∙ ap (λ (b : ℕ). 1 - b) (sym (bit_at_cat_low high 8 low ((8 - s) + (7 - i)) (omega arith)))
          ∙ sym bit
    ])

-- the low bits cleared
pub whitened_pixels : (b k : ℕ) → b < 2 ^ 8 → k < 8 → pixels (bit_and b (2 ^ 8 - 2 ^ (8 - k))) ≡ take k (pixels b) ++ replicate (8 - k) 1
whitened_pixels b k fits lt =
    let mask = 2 ^ 8 - 2 ^ (8 - k) in
    let left = take k (pixels b) in
    let left_count : length left ≡ k = omega (arith, length-take k (pixels b), length-pixels b) in
    pixels_by (bit_and b mask) (left ++ replicate (8 - k) 1) (omega (arith, length-append left (replicate (8 - k) 1), length-replicate {A = ℕ} (8 - k) 1))
    (λ i below.
    let bit : bit_at (bit_and b mask) (7 - i) ≡ min (bit_at b (7 - i)) (bit_at mask (7 - i)) = bit_at_and b mask (7 - i) in
    elim (cases_lt i k) [
      | inl prefix ↦
          let one : bit_at mask (7 - i) ≡ 1 = bit_at_mask_inside (8 - k) 8 (7 - i) (omega arith) (omega arith) in
          let same : pixel_at (7 - i) b ≡ pixel_at (7 - i) (bit_and b mask) = omega (arith, bit, one, bit_at-lt b (7 - i)) in
          get_or_append_left left (replicate (8 - k) 1) 0 i (omega arith) ∙ get_or-take k (pixels b) i 0 prefix ∙ get_or-pixels b i below ∙ same
      | inr back ↦
          let none : bit_at mask (7 - i) ≡ 0 = bit_at_mask_below (8 - k) 8 (7 - i) (omega arith) in
          let white : 1 ≡ pixel_at (7 - i) (bit_and b mask) = omega (arith, bit, none) in
          get_or-append_right left (replicate (8 - k) 1) k i 0 left_count back ∙ get_or-replicate (8 - k) (i - k) 1 0 (omega arith) ∙ white
    ])

-- ---- bytes before the last, and the last

pub all_pixels-append : (a b : List ℕ) → all_pixels (a ++ b) ≡ all_pixels a ++ all_pixels b
all_pixels-append a b = flat_map-append pixels a b

pub all_pixels-single : (b : ℕ) → all_pixels (b ∷ []) ≡ pixels b
all_pixels-single b = append-nil (pixels b)

pub all_pixels-push : (prefix : List ℕ) (b : ℕ) → all_pixels (prefix ++ b ∷ []) ≡ all_pixels prefix ++ pixels b
all_pixels-push prefix b = all_pixels-append prefix (b ∷ []) ∙ ap (λ (l : List ℕ). all_pixels prefix ++ l) (all_pixels-single b)

-- so many pixels of all bytes but the last, and some of the last one
pub take_at_end : (prefix : List ℕ) (b count r : ℕ) → count ≡ 8 * length prefix + r → take count (all_pixels (prefix ++ b ∷ [])) ≡ all_pixels prefix ++ take r
    (pixels b)
take_at_end prefix b count r e =
    let whole : count ≡ length (all_pixels prefix) + r = omega (arith, length-all_pixels prefix) in
    ap₂ (λ (n : ℕ) (l : List ℕ). take n l) whole (all_pixels-push prefix b) ∙ take-append-add (all_pixels prefix) (pixels b) r

pub drop_at_end : (prefix : List ℕ) (b : ℕ) {count : ℕ} (r : ℕ) → count ≡ 8 * length prefix + r
    → drop count (all_pixels (prefix ++ b ∷ [])) ≡ drop r (pixels b)
drop_at_end prefix b {count} r e =
    let whole : count ≡ length (all_pixels prefix) + r = omega (arith, length-all_pixels prefix) in
    ap₂ (λ (n : ℕ) (l : List ℕ). drop n l) whole (all_pixels-push prefix b) ∙ drop-append-add (all_pixels prefix) (pixels b) r

-- a list whose last element is written
pub set_last : (xs : List ℕ) (n b : ℕ) → length xs ≡ n + 1 → set xs n b ≡ take n xs ++ b ∷ []
set_last xs n b count = set_split xs n b (omega arith) ∙ ap (λ (l : List ℕ). take n xs ++ b ∷ l) (drop_all (suc n) xs (omega arith))

last_apart : (xs : List ℕ) (n d : ℕ) → length xs ≡ n + 1 → xs ≡ take n xs ++ get_or xs n d ∷ []
last_apart xs n d count = sym (set-get_or xs n d) ∙ set_last xs n (get_or xs n d) count

-- the last byte is written, and its first pixels stay
module _ (bytes : List ℕ) (count byte : ℕ) (enough : length bytes ≡ (count + 7) / 8) (left : count / 8 < length bytes)
    (kept : pixels byte ≡ take (count % 8) (pixels (get_or bytes (count / 8) 0)) ++ replicate (8 - count % 8) 1) where
  whole : ℕ
  whole = count / 8

  prefix : List ℕ
  prefix = take whole bytes

  split : (length bytes ≡ count / 8 + 1) × (length (take (count / 8) bytes) ≡ count / 8) × (count ≡ 8 * (count / 8) + count % 8)
      × (length (take (count % 8) (pixels (get_or bytes (count / 8) 0))) ≡ count % 8)
  split = (
    omega arith,
    omega (arith, length-take (count / 8) bytes),
    omega arith,
    omega (arith, length-take (count % 8) (pixels (get_or bytes (count / 8) 0)), length-pixels (get_or bytes (count / 8) 0)),
  )

  pub whitened_keeps : take count (all_pixels (set bytes (count / 8) byte)) ≡ take count (all_pixels bytes)
  whitened_keeps =
      let n = count / 8 in let r = count % 8 in let f = take n bytes in let b = get_or bytes n 0 in
      let e : count ≡ 8 * length f + r = omega (arith, split.1, split.2) in
      ap (λ (l : List ℕ). take count (all_pixels l)) (set_last bytes n byte split.0) ∙ take_at_end f byte count r e
      ∙ ap (λ (l : List ℕ). all_pixels f ++ take r l) kept
      ∙ ap (λ (l : List ℕ). all_pixels f ++ l) (take_at (take r (pixels b)) (replicate (8 - r) 1) r split.3)
      ∙ sym (take_at_end f b count r e) ∙ ap (λ (l : List ℕ). take count (all_pixels l)) (sym (last_apart bytes n 0 split.0))

  pub whitened_is_packed : ArePacked count (set bytes (count / 8) byte)
  whitened_is_packed =
      let n = count / 8 in let r = count % 8 in let f = take n bytes in let b = get_or bytes n 0 in
      let e : count ≡ 8 * length f + r = omega (arith, split.1, split.2) in
      let spare : 8 - r ≡ 8 * length (set bytes n byte) - count = omega (arith, length-set bytes n byte, split.0, split.2) in
      record {
        enough = length-set bytes n byte ∙ enough;
        spare = ap (λ (l : List ℕ). drop count (all_pixels l)) (set_last bytes n byte split.0) ∙ drop_at_end f byte r e ∙ ap (drop r) kept
            ∙ drop_at (take r (pixels b)) (replicate (8 - r) 1) r split.3 ∙ ap (λ (k : ℕ). replicate k 1) spare;
      }

-- no byte is left after whole bytes
pub whole_is_packed : {bytes : List ℕ} {count : ℕ} → length bytes ≡ (count + 7) / 8 → length bytes ≤ count / 8 → ArePacked count bytes
whole_is_packed {bytes} {count} enough none =
    let all : length (all_pixels bytes) ≤ count = omega (arith, length-all_pixels bytes) in
    let no_spare : 0 ≡ 8 * length bytes - count = omega arith in
    record {
      enough = enough;
      spare = drop_all count (all_pixels bytes) all ∙ ap (λ (k : ℕ). replicate k 1) no_spare;
    }

-- ---- runs of pixels

-- pixels after whole bytes
pub drop-all_pixels : (n : ℕ) (bytes : List ℕ) → drop (8 * n) (all_pixels bytes) ≡ all_pixels (drop n bytes)
drop-all_pixels zero bytes = refl
drop-all_pixels (suc n) [] = drop_all (8 * suc n) [] (omega arith)
drop-all_pixels (suc n) (b ∷ bytes) =
    let more : 8 * suc n ≡ length (pixels b) + 8 * n = omega (arith, length-pixels b) in
    ap (λ (k : ℕ). drop k (pixels b ++ all_pixels bytes)) more ∙ drop-append-add (pixels b) (all_pixels bytes) (8 * n) ∙ drop-all_pixels n bytes

-- the first pixels
pub take-all_pixels : (n : ℕ) (bytes : List ℕ) → take (8 * n) (all_pixels bytes) ≡ all_pixels (take n bytes)
take-all_pixels zero bytes = refl
take-all_pixels (suc n) [] = take_all (8 * suc n) [] (omega arith)
take-all_pixels (suc n) (b ∷ bytes) =
    let more : 8 * suc n ≡ length (pixels b) + 8 * n = omega (arith, length-pixels b) in
    ap (λ (k : ℕ). take k (pixels b ++ all_pixels bytes)) more ∙ take-append-add (pixels b) (all_pixels bytes) (8 * n)
    ∙ ap (λ (l : List ℕ). pixels b ++ l) (take-all_pixels n bytes)

-- pixels after a number of bytes and some pixels
pub drop_within : (n s skipped : ℕ) (bytes : List ℕ) → skipped ≡ 8 * n + s → drop skipped (all_pixels bytes) ≡ drop s (all_pixels (drop n bytes))
drop_within n s skipped bytes e =
    ap (λ (k : ℕ). drop k (all_pixels bytes)) e ∙ sym (drop-drop s (8 * n) (all_pixels bytes)) ∙ ap (drop s) (drop-all_pixels n bytes)

-- the first pixels of a list that begins with those of two bytes
two_bytes : (x y : ℕ) (rest : List ℕ) (s : ℕ) → s ≤ 8 → take 8 (drop s (all_pixels (x ∷ y ∷ rest))) ≡ drop s (pixels x) ++ take s (pixels y)
two_bytes x y rest s le =
    let left = drop s (pixels x) in
    let left_count : 8 ≡ length left + s = omega (arith, length-drop s (pixels x), length-pixels x) in
    ap (take 8) (drop-append-le s (pixels x) (all_pixels (y ∷ rest)) (omega (arith, length-pixels x)))
    ∙ ap (λ (k : ℕ). take k (left ++ all_pixels (y ∷ rest))) left_count
    ∙ take-append-add left (all_pixels (y ∷ rest)) s
    ∙ ap (λ (l : List ℕ). left ++ l) (take-append-le s (pixels y) (all_pixels rest) (omega (arith, length-pixels y)))

-- eight pixels that lie in two bytes
pub window_at : (bytes : List ℕ) (i s : ℕ) → i + 1 < length bytes → s ≤ 8 → take 8 (drop s (all_pixels (drop i bytes))) ≡ drop s (pixels (get_or bytes i 0))
    ++ take s (pixels (get_or bytes (i + 1) 0))
window_at bytes i s lt le =
    let x = get_or bytes i 0 in let y = get_or bytes (i + 1) 0 in
    ap (λ (l : List ℕ). take 8 (drop s (all_pixels l))) (drop_more bytes i 0 (omega arith) ∙ ap (λ (l : List ℕ). x ∷ l) (drop_more bytes (i + 1) 0 lt))
    ∙ two_bytes x y (drop (i + 1 + 1) bytes) s le

-- pixels that lie in one byte
pub window_in_last : (bytes : List ℕ) (i s n : ℕ) → length bytes ≡ i + 1 → s + n ≤ 8
    → take n (drop s (all_pixels (drop i bytes))) ≡ take n (drop s (pixels (get_or bytes i 0)))
window_in_last bytes i s n last le =
    let x = get_or bytes i 0 in
    ap (λ (l : List ℕ). take n (drop s (all_pixels l))) (drop_more bytes i 0 (omega arith) ∙ ap (λ (l : List ℕ). x ∷ l) (drop_all (i + 1) bytes (omega arith)))
    ∙ ap (λ (l : List ℕ). take n (drop s l)) (append-nil (pixels x))

-- one byte more was filled
pub shift_step : (buffer part : List ℕ) (i s byte : ℕ) → i < length buffer → i + 1 < length part → s < 8
    → all_pixels (take i buffer) ≡ take (8 * i) (drop s (all_pixels part))
    → pixels byte ≡ drop s (pixels (get_or part i 0)) ++ take s (pixels (get_or part (i + 1) 0))
    → all_pixels (take (i + 1) (set buffer i byte)) ≡ take (8 * (i + 1)) (drop s (all_pixels part))
shift_step buffer part i s byte lt within below known e =
    let whole = drop s (all_pixels part) in
    let later : drop (8 * i) whole ≡ drop s (all_pixels (drop i part)) = drop-drop (8 * i) s (all_pixels part)
    ∙ drop_within i s (s + 8 * i) part (omega arith) in
    ap all_pixels (take_more_set buffer i byte lt) ∙ all_pixels-push (take i buffer) byte
    ∙ ap₂ (λ (l r : List ℕ). l ++ r) known (e ∙ sym (window_at part i s (omega arith) (omega arith)) ∙ ap (take 8) (sym later))
    ∙ sym (take-add (8 * i) 8 whole) ∙ ap (λ (k : ℕ). take k whole) (omega arith)

-- a run that begins with a byte
pub aligned_run : (from : List ℕ) (start n m : ℕ) → start % 8 ≡ 0 → m ≡ n
    → all_pixels (take m (drop (start / 8) from)) ≡ take (8 * n) (drop start (all_pixels from))
aligned_run from start n m aligned e =
    ap (λ (k : ℕ). all_pixels (take k (drop (start / 8) from))) e ∙ sym (take-all_pixels n (drop (start / 8) from))
    ∙ ap (take (8 * n)) (sym (drop_within (start / 8) 0 start from (omega arith)))

-- a run that begins inside a byte
pub shifted_run : (from : List ℕ) (start n m : ℕ) → m ≡ n + 1 → take (8 * n) (drop (start % 8) (all_pixels (take m (drop (start / 8) from))))
    ≡ take (8 * n) (drop start (all_pixels from))
shifted_run from start n m e =
    let s = start % 8 in let rest = drop (start / 8) from in let more = 8 * n + (8 - s) in
    let within : s < 8 = omega arith in
    let parts : 8 * (n + 1) ≡ s + more = omega arith in
    ap (λ (k : ℕ). take (8 * n) (drop s (all_pixels (take k rest)))) e
    ∙ ap (λ (l : List ℕ). take (8 * n) (drop s l)) (sym (take-all_pixels (n + 1) rest) ∙ ap (λ (k : ℕ). take k (all_pixels rest)) parts)
    ∙ ap (take (8 * n)) (drop-take s more (all_pixels rest))
    ∙ take-take (8 * n) more (drop s (all_pixels rest)) (omega arith)
    ∙ ap (take (8 * n)) (sym (drop_within (start / 8) s start from (omega arith)))

-- a byte after so many pixels, of two bytes or of the last one
pub byte_of_two : (bytes : List ℕ) (skipped : ℕ) {low : ℕ} (byte n : ℕ) → skipped / 8 + 1 < length bytes → low ≡ get_or bytes (skipped / 8 + 1) 0
    → pixels byte ≡ drop (skipped % 8) (pixels (get_or bytes (skipped / 8) 0)) ++ take (skipped % 8) (pixels low) → n ≤ 8
    → take n (pixels byte) ≡ take n (drop skipped (all_pixels bytes))
byte_of_two bytes skipped byte n lt is known le =
    let at = skipped / 8 in let s = skipped % 8 in let run = drop s (all_pixels (drop at bytes)) in
    let window : pixels byte ≡ take 8 run = known ∙ ap (λ (k : ℕ). drop s (pixels (get_or bytes at 0)) ++ take s (pixels k)) is
    ∙ sym (window_at bytes at s lt (omega arith)) in
    ap (take n) window ∙ take-take n 8 run le ∙ ap (take n) (sym (drop_within at s skipped bytes (omega arith)))

pub byte_of_last : (bytes : List ℕ) (skipped low byte n : ℕ) → length bytes ≡ skipped / 8 + 1
    → pixels byte ≡ drop (skipped % 8) (pixels (get_or bytes (skipped / 8) 0)) ++ take (skipped % 8) (pixels low) → skipped + n ≤ 8 * length bytes
    → take n (pixels byte) ≡ take n (drop skipped (all_pixels bytes))
byte_of_last bytes skipped low byte n last known le =
    let at = skipped / 8 in let s = skipped % 8 in let x = get_or bytes at 0 in
    ap (take n) known ∙ take-append-le n (drop s (pixels x)) (take s (pixels low)) (omega (arith, length-drop s (pixels x), length-pixels x))
    ∙ sym (window_in_last bytes at s n last (omega arith)) ∙ ap (take n) (sym (drop_within at s skipped bytes (omega arith)))

-- a run of whole bytes, and some pixels of one byte more
pub run_filled : (from buffer filled : List ℕ) (start count byte : ℕ) → length buffer ≡ (count + 7) / 8 → count / 8 < length (filled ++ drop (count / 8) buffer)
    → length filled ≡ count / 8 → all_pixels filled ≡ take (8 * (count / 8)) (drop start (all_pixels from))
    → take (count % 8) (pixels byte) ≡ take (count % 8) (drop (start + 8 * (count / 8)) (all_pixels from))
    → take count (all_pixels (set (filled ++ drop (count / 8) buffer) (count / 8) byte)) ≡ take count (drop start (all_pixels from))
run_filled from buffer filled start count byte enough lt counted known last =
    let n = count / 8 in let r = count % 8 in let run = drop start (all_pixels from) in
    let sizes : length (filled ++ drop n buffer) ≡ n + 1 = omega (arith, length-append filled (drop n buffer), length-drop n buffer) in
    let stored : set (filled ++ drop n buffer) n byte ≡ filled ++ byte ∷ [] = set_last (filled ++ drop n buffer) n byte sizes
    ∙ ap (λ (l : List ℕ). l ++ byte ∷ []) (take_at filled (drop n buffer) n counted) in
    ap (λ (l : List ℕ). take count (all_pixels l)) stored ∙ take_at_end filled byte count r (omega arith)
    ∙ ap₂ (λ (a b : List ℕ). a ++ b) known (last ∙ ap (take r) (sym (drop-drop (8 * n) start (all_pixels from))))
    ∙ sym (take-add (8 * n) r run) ∙ ap (λ (k : ℕ). take k run) (omega arith)

pub run_of_whole_bytes : (from buffer filled : List ℕ) (start count : ℕ) → length buffer ≡ (count + 7) / 8
    → length (filled ++ drop (count / 8) buffer) ≤ count / 8 → length filled ≡ count / 8
    → all_pixels filled ≡ take (8 * (count / 8)) (drop start (all_pixels from))
    → take count (all_pixels (filled ++ drop (count / 8) buffer)) ≡ take count (drop start (all_pixels from))
run_of_whole_bytes from buffer filled start count enough le counted known =
    let n = count / 8 in
    let none : drop n buffer ≡ [] = drop_all n buffer (omega (arith, length-append filled (drop n buffer), length-drop n buffer)) in
    let whole : 8 * n ≡ count = omega (arith, length-append filled (drop n buffer), length-drop n buffer) in
    let prefix : length (all_pixels filled) ≤ count = omega (arith, length-all_pixels filled) in
    ap (λ (l : List ℕ). take count (all_pixels (filled ++ l))) none ∙ ap (λ (l : List ℕ). take count (all_pixels l)) (append-nil filled)
    ∙ take_all count (all_pixels filled) prefix ∙ known ∙ ap (λ (k : ℕ). take k (drop start (all_pixels from))) whole

-- ---- pixels after those that are held

-- a part up to the end was written
pub written_to_end : (a : ℕ) (xs ys : List ℕ) → put_mid a (length xs - a) xs ys ≡ take a xs ++ ys
written_to_end a xs ys = ap (λ (l : List ℕ). take a xs ++ (ys ++ l)) (drop_all (length xs - a) (drop a xs) (omega (arith, length-drop a xs)))
    ∙ ap (λ (l : List ℕ). take a xs ++ l) (append-nil ys)

-- after whole bytes
pub placed_after_bytes : (buffer from filled : List ℕ) (held start count : ℕ) → held % 8 ≡ 0 → length buffer ≡ (held + count + 7) / 8
    → take count (all_pixels filled) ≡ take count (drop start (all_pixels from))
    → take (held + count) (all_pixels (put_mid (held / 8) (length buffer - held / 8) buffer filled)) ≡ take held (all_pixels buffer) ++ take count
    (drop start (all_pixels from))
placed_after_bytes buffer from filled held start count aligned enough known =
    let n = held / 8 in let prefix = take n buffer in
    let size : length prefix ≡ n = length-take-le n buffer (omega arith) in
    let whole : held + count ≡ length (all_pixels prefix) + count = omega (arith, length-all_pixels prefix) in
    let bytes : 8 * n ≡ held = omega arith in
    ap (λ (l : List ℕ). take (held + count) (all_pixels l)) (written_to_end n buffer filled)
    ∙ ap₂ (λ (k : ℕ) (l : List ℕ). take k l) whole (all_pixels-append prefix filled)
    ∙ take-append-add (all_pixels prefix) (all_pixels filled) count
    ∙ ap₂ (λ (a b : List ℕ). a ++ b) (sym (take-all_pixels n buffer) ∙ ap (λ (k : ℕ). take k (all_pixels buffer)) bytes) known

-- the first pixels of a byte, which were moved to the right
moved_right : (b used : ℕ) → used ≤ 8 → drop (8 - used) (pixels (b / 2 ^ (8 - used))) ≡ take used (pixels b)
moved_right b used le =
    let free = 8 - used in let moved = pixels (b / 2 ^ free) in
    let left_count : length (drop free moved) ≡ used = omega (arith, length-drop free moved, length-pixels (b / 2 ^ free)) in
    let right_count : length (take used (pixels b)) ≡ used = omega (arith, length-take used (pixels b), length-pixels b) in
    ext_get_or 0 (drop free moved) (take used (pixels b)) (left_count ∙ sym right_count) (λ i below.
    let inside : i < used = omega (arith, left_count) in
    let place : free + (7 - (free + i)) ≡ 7 - i = omega arith in
    get_or-drop free moved i 0 ∙ get_or-pixels (b / 2 ^ free) (free + i) (omega arith)
    ∙ ap (λ (n : ℕ). 1 - n) (bit_at-shr b free (7 - (free + i))) ∙ ap (λ (k : ℕ). pixel_at k b) place
    ∙ sym (get_or-pixels b i (omega arith)) ∙ sym (get_or-take used (pixels b) i 0 inside))

-- the byte that isn't full is filled up
pub filled_up : (x y byte used : ℕ) → used < 8 → pixels byte ≡ drop (8 - used) (pixels (x / 2 ^ (8 - used))) ++ take (8 - used) (pixels y)
    → pixels byte ≡ take used (pixels x) ++ take (8 - used) (pixels y)
filled_up x y byte used lt known = known ∙ ap (λ (l : List ℕ). l ++ take (8 - used) (pixels y)) (moved_right x used (omega arith))

-- pixels of bytes with one byte apart
take_across : (prefix rest : List ℕ) (b count more : ℕ) → count ≡ 8 * length prefix + more → take count (all_pixels (prefix ++ b ∷ rest)) ≡ all_pixels prefix
    ++ take more (pixels b ++ all_pixels rest)
take_across prefix rest b count more e =
    let whole : count ≡ length (all_pixels prefix) + more = omega (arith, length-all_pixels prefix) in
    ap₂ (λ (n : ℕ) (l : List ℕ). take n l) whole (all_pixels-append prefix (b ∷ rest)) ∙ take-append-add (all_pixels prefix) (pixels b ++ all_pixels rest) more

-- the pixels that are held, where the last of them lie in one byte
pub held_before : (buffer : List ℕ) (held : ℕ) → held / 8 < length buffer → take held (all_pixels buffer) ≡ all_pixels (take (held / 8) buffer)
    ++ take (held % 8) (pixels (get_or buffer (held / 8) 0))
held_before buffer held lt =
    let n = held / 8 in let r = held % 8 in let prefix = take n buffer in let x = get_or buffer n 0 in let rest = drop (n + 1) buffer in
    let size : length prefix ≡ n = length-take-le n buffer (omega arith) in
    let parts : buffer ≡ prefix ++ x ∷ rest = sym (take-append-drop n buffer) ∙ ap (λ (l : List ℕ). prefix ++ l) (drop_more buffer n 0 lt) in
    ap (λ (l : List ℕ). take held (all_pixels l)) parts ∙ take_across prefix rest x held r (omega arith)
    ∙ ap (λ (l : List ℕ). all_pixels prefix ++ l) (take-append-le r (pixels x) (all_pixels rest) (omega (arith, length-pixels x)))

-- into the byte that isn't full, and beyond it
module _ (buffer from : List ℕ) (held start count byte y : ℕ) (some : 0 < held % 8) (enough : length buffer ≡ (held + count + 7) / 8)
    (lt : held / 8 < length buffer)
    (known : pixels byte ≡ take (held % 8) (pixels (get_or buffer (held / 8) 0)) ++ take (8 - held % 8) (pixels y))
    (first : (n : ℕ) → n ≤ 8 → start + n ≤ 8 * length from → take n (pixels y) ≡ take n (drop start (all_pixels from)))
    (within : start + count ≤ 8 * length from) where
  pub placed_beyond : (filled : List ℕ) → 8 - held % 8 < count → take (count - (8 - held % 8)) (all_pixels filled) ≡ take (count - (8 - held % 8))
      (drop (start + (8 - held % 8)) (all_pixels from))
      → take (held + count) (all_pixels (put_mid (held / 8 + 1) (length (set buffer (held / 8) byte) - (held / 8 + 1)) (set buffer (held / 8) byte) filled))
      ≡ take held (all_pixels buffer) ++ take count (drop start (all_pixels from))
  placed_beyond filled more rest =
      let n = held / 8 in let r = held % 8 in let free = 8 - r in let prefix = take n buffer in let x = get_or buffer n 0 in let run =
      drop start (all_pixels from) in
      let size : length prefix ≡ n = length-take-le n buffer (omega arith) in
      let stored : take (n + 1) (set buffer n byte) ≡ prefix ++ byte ∷ [] = take_more_set buffer n byte lt in
      let over : r + count ≡ length (pixels byte) + (count - free) = omega (arith, length-pixels byte) in
      let whole : free + (count - free) ≡ count = omega arith in
      ap (λ (l : List ℕ). take (held + count) (all_pixels l)) (written_to_end (n + 1) (set buffer n byte) filled ∙ ap (λ (l : List ℕ). l ++ filled) stored
      ∙ append_assoc prefix (byte ∷ []) filled)
      ∙ take_across prefix filled byte (held + count) (r + count) (omega arith)
      ∙ ap (λ (l : List ℕ). all_pixels prefix ++ l)
      (ap (λ (k : ℕ). take k (pixels byte ++ all_pixels filled)) over ∙ take-append-add (pixels byte) (all_pixels filled) (count - free)
      ∙ ap₂ (λ (a b : List ℕ). a ++ b) known rest
      ∙ append_assoc (take r (pixels x)) (take free (pixels y)) (take (count - free) (drop (start + free) (all_pixels from)))
      ∙ ap (λ (l : List ℕ). take r (pixels x) ++ l)
      (ap₂ (λ (a b : List ℕ). a ++ take (count - free) b) (first free (omega arith) (omega arith)) (sym (drop-drop free start (all_pixels from)))
      ∙ sym (take-add free (count - free) run) ∙ ap (λ (k : ℕ). take k run) whole))
      ∙ sym (append_assoc (all_pixels prefix) (take r (pixels x)) (take count run))
      ∙ ap (λ (l : List ℕ). l ++ take count run) (sym (held_before buffer held lt))

  pub placed_in_byte : count ≤ 8 - held % 8 → take (held + count) (all_pixels (set buffer (held / 8) byte)) ≡ take held (all_pixels buffer) ++ take count
      (drop start (all_pixels from))
  placed_in_byte few =
      let n = held / 8 in let r = held % 8 in let free = 8 - r in let prefix = take n buffer in let x = get_or buffer n 0 in let run =
      drop start (all_pixels from) in let tail = drop (suc n) buffer in
      let size : length prefix ≡ n = length-take-le n buffer (omega arith) in
      let fits : r + count ≤ length (pixels byte) = omega (arith, length-pixels byte) in
      let left : length (take r (pixels x)) ≡ r = omega (arith, length-take r (pixels x), length-pixels x) in
      let over : r + count ≡ length (take r (pixels x)) + count = omega arith in
      ap (λ (l : List ℕ). take (held + count) (all_pixels l)) (set_split buffer n byte lt)
      ∙ take_across prefix tail byte (held + count) (r + count) (omega arith)
      ∙ ap (λ (l : List ℕ). all_pixels prefix ++ l)
      (take-append-le (r + count) (pixels byte) (all_pixels tail) fits ∙ ap₂ (λ (k : ℕ) (l : List ℕ). take k l) over known
      ∙ take-append-add (take r (pixels x)) (take free (pixels y)) count
      ∙ ap (λ (l : List ℕ). take r (pixels x) ++ l) (take-take count free (pixels y) few ∙ first count (omega arith) within))
      ∙ sym (append_assoc (all_pixels prefix) (take r (pixels x)) (take count run))
      ∙ ap (λ (l : List ℕ). l ++ take count run) (sym (held_before buffer held lt))
