-- Pixels in the other order.
use Rattle.pnm_samples.proofs.Words.{◌≡◌, ℕ, zero, suc, ◌+◌, ◌-◌, ◌*◌, ◌%◌, ◌<◌, ◌≤◌, Bool, true, false, ◌&&◌, List, [], ◌∷◌, ◌++◌, length, get_or, set, take}
use Rattle.pnm_samples.proofs.Words.{drop, map, replicate, reverse, eqb, refl, sym, ap, ap₂, ◌∙◌, arith, w8, reverse_bits, agree_below_at, eqb-true, and_parts}
use Rattle.pnm_samples.proofs.Words.{map-append, reverse-append, append-nil, append_assoc, drop_all, take_at, drop_at, drop-drop, drop_more, drop-set-lt}
use Rattle.pnm_samples.proofs.Words.{take-append-drop, take-replicate, length-replicate, length-reverse, replicate-append-replicate, get_or-drop, all_pixels}
use Rattle.pnm_samples.proofs.Words.{ArePacked, AreBytes}
use Rattle.std.proofs.Common.{length-append}
use Rattle.std.specs.Int.{reverse_bits_onto}
use Rattle.pnm_samples.specs.Pixels.{pixels}
use Rattle.pnm_samples.proofs.PixelLaws.{length-all_pixels, all_pixels-push, all_pixels-single, drop_within, set_last, shift_step}
use Rattle.pnm_samples.proofs.PixelRowLaws.{length_of_packed}

-- a test whether two lists are one
abbrev pub same_list : List ℕ → List ℕ → Bool
same_list [] [] = true
same_list [] (y ∷ ys) = false
same_list (x ∷ xs) [] = false
same_list (x ∷ xs) (y ∷ ys) = eqb x y && same_list xs ys

pub same_from_test : (xs ys : List ℕ) → same_list xs ys ≡ true → xs ≡ ys
same_from_test [] [] t = refl
same_from_test [] (y ∷ ys) t = absurd cc
same_from_test (x ∷ xs) [] t = absurd cc
same_from_test (x ∷ xs) (y ∷ ys) t =
    let both = and_parts (eqb x y) (same_list xs ys) t in
    ap₂ (λ (a : ℕ) (l : List ℕ). a ∷ l) (eqb-true x y both.0) (same_from_test xs ys both.1)

-- the bits of a byte in the other order
pub reversed_pixels : (b : ℕ) → b < 256 → pixels (reverse_bits w8 b) ≡ reverse (pixels b)
unfolding pixels reverse_bits_onto
reversed_pixels b lt =
    same_from_test (pixels (reverse_bits w8 b)) (reverse (pixels b))
    (agree_below_at (λ n. same_list (pixels (reverse_bits w8 n)) (reverse (pixels n))) (λ _. true) 256 b refl lt)

-- bytes in the other order, and in each its bits
pub turned_round : (bytes : List ℕ) → AreBytes bytes → all_pixels (map (λ b. reverse_bits w8 b) (reverse bytes)) ≡ reverse (all_pixels bytes)
turned_round [] fit = refl
turned_round (b ∷ bytes) fit =
    let here : b < 256 = omega (arith, fit 0) in
    let rest = map (λ b. reverse_bits w8 b) (reverse bytes) in
    ap (λ (l : List ℕ). all_pixels (map (λ b. reverse_bits w8 b) l)) (reverse-append (b ∷ []) bytes)
    ∙ ap all_pixels (map-append (λ b. reverse_bits w8 b) (reverse bytes) (b ∷ []))
    ∙ all_pixels-push rest (reverse_bits w8 b)
    ∙ ap₂ (λ (l r : List ℕ). l ++ r) (turned_round bytes (λ k. fit (suc k))) (reversed_pixels b here)
    ∙ sym (reverse-append (pixels b) (all_pixels bytes))

-- ---- pixels moved to the left in place

-- lists with one end have one element in a place there
same_at : (xs ys : List ℕ) (n k m : ℕ) → drop n xs ≡ drop n ys → m ≡ n + k → get_or xs m 0 ≡ get_or ys m 0
same_at xs ys n k m e is =
    ap (λ (j : ℕ). get_or xs j 0) is ∙ sym (get_or-drop n xs k 0) ∙ ap (λ (l : List ℕ). get_or l k 0) e ∙ get_or-drop n ys k 0
    ∙ ap (λ (j : ℕ). get_or ys j 0) (sym is)

-- one byte more
pub moved_step : (buffer old : List ℕ) (i s byte : ℕ) → i < length buffer → i + 1 < length old → s < 8
    → all_pixels (take i buffer) ≡ take (8 * i) (drop s (all_pixels old)) → drop i buffer ≡ drop i old
    → pixels byte ≡ drop s (pixels (get_or buffer i 0)) ++ take s (pixels (get_or buffer (i + 1) 0))
    → all_pixels (take (i + 1) (set buffer i byte)) ≡ take (8 * (i + 1)) (drop s (all_pixels old))
moved_step buffer old i s byte lt within below known same e =
    let high = same_at buffer old i 0 i same (omega arith) in
    let low = same_at buffer old i 1 (i + 1) same refl in
    shift_step buffer old i s byte lt within below known (e ∙ ap₂ (λ (x y : ℕ). drop s (pixels x) ++ take s (pixels y)) high low)

-- what comes after the byte that was stored is as it was
pub kept_after : (buffer old : List ℕ) (i byte : ℕ) → drop i buffer ≡ drop i old → drop (i + 1) (set buffer i byte) ≡ drop (i + 1) old
kept_after buffer old i byte same =
    let after : i < i + 1 = omega arith in
    drop-set-lt (i + 1) buffer i byte after ∙ sym (drop-drop 1 i buffer) ∙ ap (drop 1) same ∙ drop-drop 1 i old

white_byte : (s : ℕ) → s ≤ 8 → take s (pixels 0) ≡ replicate s 1
unfolding pixels
white_byte s le = take-replicate s 8 1 le

-- the last byte gets white pixels
pub moved_last : (buffer old : List ℕ) (last i s byte : ℕ) → i ≡ last → s < 8 → length buffer ≡ last + 1 → length old ≡ last + 1
    → all_pixels (take i buffer) ≡ take (8 * i) (drop s (all_pixels old)) → drop i buffer ≡ drop i old
    → pixels byte ≡ drop s (pixels (get_or buffer last 0)) ++ take s (pixels 0) → (rest : List ℕ) → all_pixels old ≡ replicate s 1 ++ rest
    → all_pixels (set buffer last byte) ≡ rest ++ replicate s 1
moved_last buffer old last i s byte there lt size whole passed left e rest is =
    let known : all_pixels (take last buffer) ≡ take (8 * last) (drop s (all_pixels old)) = ap (λ (k : ℕ). all_pixels (take k buffer)) (sym there) ∙ passed
    ∙ ap (λ (k : ℕ). take (8 * k) (drop s (all_pixels old))) there in
    let same : drop last buffer ≡ drop last old = ap (λ (k : ℕ). drop k buffer) (sym there) ∙ left ∙ ap (λ (k : ℕ). drop k old) there in
    let p = all_pixels old in let x = get_or old last 0 in
    let end : drop last old ≡ x ∷ [] = drop_more old last 0 (omega arith) ∙ ap (λ (l : List ℕ). x ∷ l) (drop_all (last + 1) old (omega arith)) in
    let back : drop (8 * last) (drop s p) ≡ drop s (pixels x) = drop-drop (8 * last) s p ∙ drop_within last s (s + 8 * last) old (omega arith)
    ∙ ap (λ (l : List ℕ). drop s (all_pixels l)) end ∙ ap (drop s) (all_pixels-single x) in
    let stored : pixels byte ≡ drop (8 * last) (drop s p) ++ replicate s 1 = e
    ∙ ap₂ (λ (l r : List ℕ). l ++ r) (ap (λ (b : ℕ). drop s (pixels b)) (same_at buffer old last 0 last same (omega arith)) ∙ sym back)
    (white_byte s (omega arith)) in
    ap all_pixels (set_last buffer last byte size) ∙ all_pixels-push (take last buffer) byte ∙ ap₂ (λ (l r : List ℕ). l ++ r) known stored
    ∙ sym (append_assoc (take (8 * last) (drop s p)) (drop (8 * last) (drop s p)) (replicate s 1))
    ∙ ap (λ (l : List ℕ). l ++ replicate s 1) (take-append-drop (8 * last) (drop s p) ∙ ap (drop s) is ∙ drop_at (replicate s 1) rest s (length-replicate s 1))

-- no byte, so no pixel to move
pub moved_none : (old : List ℕ) (s : ℕ) → length old ≤ 0 → (rest : List ℕ) → all_pixels old ≡ replicate s 1 ++ rest → all_pixels old ≡ rest ++ replicate s 1
moved_none old s none rest is =
    let zero : s ≡ 0 = omega (arith, length-all_pixels old, ap length is, length-append (replicate s 1) rest, length-replicate {A = ℕ} s 1) in
    is ∙ ap (λ (k : ℕ). replicate k 1 ++ rest) zero ∙ sym (append-nil rest) ∙ ap (λ (k : ℕ). rest ++ replicate k 1) (sym zero)

-- ---- a row that was turned round

reverse-replicate : (n : ℕ) → reverse {A = ℕ} (replicate n 1) ≡ replicate n 1
reverse-replicate zero = refl
reverse-replicate (suc n) =
    let more : n + 1 ≡ suc n = omega arith in
    reverse-append (1 ∷ []) (replicate n 1) ∙ ap (λ (l : List ℕ). l ++ 1 ∷ []) (reverse-replicate n) ∙ replicate-append-replicate n 1 1
    ∙ ap (λ (k : ℕ). replicate k 1) more

-- the spare pixels come first then
pub turned_parts : {count : ℕ} {bytes value : List ℕ} → ArePacked count bytes → take count (all_pixels bytes) ≡ value
    → reverse (all_pixels bytes) ≡ replicate ((8 - count % 8) % 8) 1 ++ reverse value
turned_parts {count} {bytes} {value} h is =
    let n = 8 * length bytes - count in
    let spare : n ≡ (8 - count % 8) % 8 = omega (arith, h.enough) in
    let parts : all_pixels bytes ≡ value ++ replicate n 1 = sym (take-append-drop count (all_pixels bytes)) ∙ ap₂ (λ (a b : List ℕ). a ++ b) is h.spare in
    ap reverse parts ∙ reverse-append value (replicate n 1)
    ∙ ap (λ (l : List ℕ). l ++ reverse value) (reverse-replicate n ∙ ap (λ (k : ℕ). replicate k 1) spare)

-- a row whose spare pixels were moved to the end again
module _ (count : ℕ) (bytes new value : List ℕ) (h : ArePacked count bytes) (is : take count (all_pixels bytes) ≡ value)
    (known : all_pixels new ≡ reverse value ++ replicate ((8 - count % 8) % 8) 1) where
  counted : length (reverse value) ≡ count
  counted = length-reverse value ∙ ap length (sym is) ∙ length_of_packed count bytes h

  pub reversed_view : take count (all_pixels new) ≡ reverse value
  reversed_view = ap (take count) known ∙ take_at (reverse value) (replicate ((8 - count % 8) % 8) 1) count counted

  pub reversed_is_packed : ArePacked count new
  reversed_is_packed =
      let spare = (8 - count % 8) % 8 in
      let size : 8 * length new ≡ count + spare = sym (length-all_pixels new) ∙ ap length known ∙ length-append (reverse value) (replicate spare 1)
      ∙ ap₂ (λ (a b : ℕ). a + b) counted (length-replicate spare 1) in
      let left : spare ≡ 8 * length new - count = omega (arith, size) in
      record {
        enough = omega (arith, size);
        spare = ap (drop count) known ∙ drop_at (reverse value) (replicate spare 1) count counted ∙ ap (λ (k : ℕ). replicate k 1) left;
      }
