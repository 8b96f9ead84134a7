-- Pixels that stand several times, of the halves of a byte.
use Rattle.pnm_samples.proofs.Words.{◌≡◌, ℕ, zero, suc, ◌+◌, ◌-◌, ◌*◌, ◌/◌, ◌%◌, ◌<◌, ◌≤◌, true, List, [], ◌∷◌, ◌++◌, length, get_or, set, min, inl, inr, take}
use Rattle.pnm_samples.proofs.Words.{drop, replicate, refl, sym, ap, ap₂, subst, ◌∙◌, arith, take-add, bit_or, agree_below_at, cases_lt, bit_at_or}
use Rattle.pnm_samples.proofs.Words.{flat_map-append, append_assoc, take_at, drop_at, take_more, take_more_set, take-take, take-append-le, drop-append-le}
use Rattle.pnm_samples.proofs.Words.{length-set, length-replicate, length-take-le, length-drop, replicate-append-replicate, take-replicate, drop-replicate}
use Rattle.pnm_samples.proofs.Words.{mul-le-mul_right, take-append-add, length-zip2, put_mid, zip2, pixel_at, all_pixels, AreStretched, stride}
use Rattle.std.proofs.Common.{length-append}
use Rattle.pnm_samples.specs.Pixels.{pixels}
use Rattle.pnm_samples.proofs.MirrorLaws.{same_list, same_from_test}
use Rattle.pnm_samples.proofs.PixelLaws.{length-pixels, length-all_pixels, take-all_pixels, all_pixels-append, all_pixels-push, held_before}
use Rattle.pnm_samples.proofs.PixelLaws.{written_to_end}
use Rattle.pnm_samples.proofs.RepeatLaws.{repeated, plain, repeated_step, repeated_view, white_byte}

-- ---- the colour of the pixels after so many

pub painted_bytes : (buffer : List ℕ) (kept byte s : ℕ) → kept ≤ 8 * length buffer → kept % 8 ≡ 0 → pixels byte ≡ replicate 8 s
    → all_pixels (put_mid (kept / 8) (length buffer - kept / 8) buffer (replicate (length buffer - kept / 8) byte)) ≡ take kept (all_pixels buffer) ++ replicate
    (8 * length buffer - kept) s
painted_bytes buffer kept byte s within aligned is =
    let n = kept / 8 in let rest = length buffer - n in
    let bytes : 8 * n ≡ kept = omega arith in
    let left : 8 * rest ≡ 8 * length buffer - kept = omega arith in
    ap all_pixels (written_to_end n buffer (replicate rest byte)) ∙ all_pixels-append (take n buffer) (replicate rest byte)
    ∙ ap₂ (λ (a b : List ℕ). a ++ b) (sym (take-all_pixels n buffer) ∙ ap (λ (k : ℕ). take k (all_pixels buffer)) bytes)
    (plain rest byte s is ∙ ap (λ (k : ℕ). replicate k s) left)

pub painted_within : (buffer : List ℕ) (kept byte border s : ℕ) → kept ≤ 8 * length buffer → 0 < kept % 8 → pixels byte ≡ replicate 8 s
    → pixels border ≡ take (kept % 8) (pixels (get_or buffer (kept / 8) 0)) ++ take (8 - kept % 8) (pixels byte)
    → all_pixels (put_mid (kept / 8 + 1) (length (set buffer (kept / 8) border) - (kept / 8 + 1)) (set buffer (kept / 8) border)
    (replicate (length (set buffer (kept / 8) border) - (kept / 8 + 1)) byte)) ≡ take kept (all_pixels buffer) ++ replicate (8 * length buffer - kept) s
painted_within buffer kept byte border s within some is known =
    let n = kept / 8 in let r = kept % 8 in let free = 8 - r in let prefix = take n buffer in let x = get_or buffer n 0 in let stored = set buffer n border in
    let rest = length stored - (n + 1) in
    let lt : n < length buffer = omega arith in
    let more : free + 8 * rest ≡ 8 * length buffer - kept = omega (arith, length-set buffer n border) in
    let border_is : pixels border ≡ take r (pixels x) ++ replicate free s = known
    ∙ ap (λ (l : List ℕ). take r (pixels x) ++ l) (ap (take free) is ∙ take-replicate free 8 s (omega arith)) in
    ap all_pixels (written_to_end (n + 1) stored (replicate rest byte) ∙ ap (λ (l : List ℕ). l ++ replicate rest byte) (take_more_set buffer n border lt))
    ∙ all_pixels-append (prefix ++ border ∷ []) (replicate rest byte)
    ∙ ap₂ (λ (a b : List ℕ). a ++ b) (all_pixels-push prefix border ∙ ap (λ (l : List ℕ). all_pixels prefix ++ l) border_is
    ∙ sym (append_assoc (all_pixels prefix) (take r (pixels x)) (replicate free s)))
    (plain rest byte s is)
    ∙ append_assoc (all_pixels prefix ++ take r (pixels x)) (replicate free s) (replicate (8 * rest) s)
    ∙ ap₂ (λ (a b : List ℕ). a ++ b) (sym (held_before buffer kept lt)) (replicate-append-replicate free (8 * rest) s ∙ ap (λ (k : ℕ). replicate k s) more)

-- ---- one pixel after the other

-- so many pixels, the last one up to the end
abbrev pub IsPainted : ℕ → ℕ → List ℕ → List ℕ → Type 0
IsPainted kept s old new = new ≡ take kept old ++ replicate (length old - kept) s

-- white bytes, before the first pixel
pub white_pixels : {kept : ℕ} {buffer : List ℕ} → kept ≡ 0 → buffer ≡ replicate (length buffer) 0
    → (take kept (all_pixels buffer) ≡ []) × IsPainted kept 1 (all_pixels buffer) (all_pixels buffer)
white_pixels {buffer} none white =
    let all : 8 * length buffer ≡ length (all_pixels buffer) - 0 = omega (arith, length-all_pixels buffer) in
    let painted : IsPainted 0 1 (all_pixels buffer) (all_pixels buffer) = ap all_pixels white ∙ plain (length buffer) 0 1 white_byte
    ∙ ap (λ (k : ℕ). replicate k 1) all in
    (ap (λ (k : ℕ). take k (all_pixels buffer)) none, subst (λ (k : ℕ). IsPainted k 1 (all_pixels buffer) (all_pixels buffer)) (sym none) painted)

pub stretched_step : (times i : ℕ) {s : ℕ} (old new byte_pixels : List ℕ) → i < 8 → length byte_pixels ≡ 8 → 8 * times ≤ length old
    → get_or byte_pixels i 0 ≡ s → take (i * times) old ≡ repeated times (take i byte_pixels) → IsPainted (i * times) s old new
    → (take ((i + 1) * times) new ≡ repeated times (take (i + 1) byte_pixels)) × IsPainted ((i + 1) * times) s new new
stretched_step times i {s} old new byte_pixels lt eight long at known painted =
    let prefix = take (i * times) old in let left = length old - i * times in
    let within : (i + 1) * times ≤ length old = omega (arith, mul-le-mul_right {m = i + 1} {n = 8} times (omega arith)) in
    let size : length prefix ≡ i * times = length-take-le (i * times) old (omega arith) in
    let more : (i + 1) * times ≡ length prefix + times = omega arith in
    let next : take ((i + 1) * times) new ≡ prefix ++ replicate times s =
    ap₂ (λ (k : ℕ) (l : List ℕ). take k l) more painted ∙ take-append-add prefix (replicate left s) times
    ∙ ap (λ (l : List ℕ). prefix ++ l) (take-replicate times left s (omega arith)) in
    let parts : times + (length new - (i + 1) * times) ≡ left =
    omega (arith, ap length painted, length-append prefix (replicate left s), length-replicate {A = ℕ} left s) in (
      repeated_step byte_pixels i times (omega arith) at known next,
      painted ∙ ap (λ (l : List ℕ). prefix ++ l) (ap (λ (k : ℕ). replicate k s) (sym parts)
          ∙ sym (replicate-append-replicate times (length new - (i + 1) * times) s))
          ∙ sym (append_assoc prefix (replicate times s) (replicate (length new - (i + 1) * times) s))
          ∙ ap (λ (l : List ℕ). l ++ replicate (length new - (i + 1) * times) s) (sym next),
    )

-- ---- the halves of bytes

-- one half more
pub half_more : {times unit v at : ℕ} {before grown now : List ℕ} (part rest : List ℕ) → AreStretched times unit v before → length before ≡ at
    → at ≡ v * stride times → grown ≡ before ++ rest → now ≡ put_mid at (length grown - at) grown part → length part ≡ stride times → take (8 * times)
    (all_pixels part) ≡ repeated times (pixels (v * unit)) → AreStretched times unit (v + 1) now × (length now ≡ (v + 1) * stride times)
half_more {times} {unit} {v} {at} {before} {grown} {now} part rest h long is more written size last =
    let parts : now ≡ before ++ part = written ∙ written_to_end at grown part
    ∙ ap (λ (l : List ℕ). l ++ part) (ap (take at) more ∙ take_at before rest at long) in (
      record {
        enough = omega (arith, ap length parts, length-append before part);
        each = λ w lt. ap (λ (l : List ℕ). take (8 * times) (all_pixels (drop (w * stride times) l))) parts ∙ elim (cases_lt w v) [
          | inl earlier ↦
              let within : (w + 1) * stride times ≤ v * stride times = mul-le-mul_right {m = w + 1} {n = v} (stride times) (omega arith) in
              let prefix = drop (w * stride times) before in
              ap (λ (l : List ℕ). take (8 * times) (all_pixels l)) (drop-append-le (w * stride times) before part (omega arith))
              ∙ ap (take (8 * times)) (all_pixels-append prefix part)
              ∙ take-append-le (8 * times) (all_pixels prefix) (all_pixels part)
              (omega (arith, length-all_pixels prefix, length-drop (w * stride times) before))
              ∙ h.each w earlier
          | inr later ↦
              let same : w ≡ v = omega arith in
              let there : length before ≡ w * stride times = long ∙ is ∙ ap (λ (k : ℕ). k * stride times) (sym same) in
              ap (λ (l : List ℕ). take (8 * times) (all_pixels l)) (drop_at before part (w * stride times) there) ∙ last
              ∙ ap (λ (k : ℕ). repeated times (pixels (k * unit))) (sym same)
        ];
      },
      omega (arith, ap length parts, length-append before part),
    )

-- ---- two pictures, one over the other

abbrev over : List ℕ → List ℕ → List ℕ
over [] ys = []
over (x ∷ xs) [] = []
over (x ∷ xs) (y ∷ ys) = min x y ∷ over xs ys

over-nil : (xs : List ℕ) → over xs [] ≡ []
over-nil [] = refl
over-nil (x ∷ xs) = refl

take_over : (n : ℕ) (xs ys : List ℕ) → take n (over xs ys) ≡ over (take n xs) (take n ys)
take_over zero xs ys = refl
take_over (suc n) [] ys = refl
take_over (suc n) (x ∷ xs) [] = refl
take_over (suc n) (x ∷ xs) (y ∷ ys) = ap (λ (l : List ℕ). min x y ∷ l) (take_over n xs ys)

over-append : (xs ys us vs : List ℕ) → length xs ≡ length ys → over (xs ++ us) (ys ++ vs) ≡ over xs ys ++ over us vs
over-append [] [] us vs e = refl
over-append [] (y ∷ ys) us vs e = absurd (omega arith)
over-append (x ∷ xs) [] us vs e = absurd (omega arith)
over-append (x ∷ xs) (y ∷ ys) us vs e = ap (λ (l : List ℕ). min x y ∷ l) (over-append xs ys us vs (omega arith))

over_plain : (n x y : ℕ) → over (replicate n x) (replicate n y) ≡ replicate n (min x y)
over_plain zero x y = refl
over_plain (suc n) x y = ap (λ (l : List ℕ). min x y ∷ l) (over_plain n x y)

over_repeated : (times : ℕ) (xs ys : List ℕ) → over (repeated times xs) (repeated times ys) ≡ repeated times (over xs ys)
over_repeated times [] ys = refl
over_repeated times (x ∷ xs) [] = over-nil (repeated times (x ∷ xs))
over_repeated times (x ∷ xs) (y ∷ ys) =
    let same : length (replicate times x) ≡ length (replicate times y) = omega (arith, length-replicate times x, length-replicate times y) in
    over-append (replicate times x) (replicate times y) (repeated times xs) (repeated times ys) same
    ∙ ap₂ (λ (a b : List ℕ). a ++ b) (over_plain times x y) (over_repeated times xs ys)

-- a pixel is black where one of the two is
pixel_of_or : (a b i : ℕ) → pixel_at i (bit_or a b) ≡ min (pixel_at i a) (pixel_at i b)
pixel_of_or a b i = omega (arith, bit_at_or a b i)

pixels_of_or : (a b : ℕ) → pixels (bit_or a b) ≡ over (pixels a) (pixels b)
unfolding pixels
pixels_of_or a b =
    let at : (i : ℕ) → pixel_at i (bit_or a b) ≡ min (pixel_at i a) (pixel_at i b) = pixel_of_or a b in
    ap₂ (λ (x : ℕ) (l : List ℕ). x ∷ l) (at 7)
    (ap₂ (λ (x : ℕ) (l : List ℕ). x ∷ l) (at 6) (ap₂ (λ (x : ℕ) (l : List ℕ). x ∷ l) (at 5) (ap₂ (λ (x : ℕ) (l : List ℕ). x ∷ l) (at 4)
    (ap₂ (λ (x : ℕ) (l : List ℕ). x ∷ l) (at 3)
    (ap₂ (λ (x : ℕ) (l : List ℕ). x ∷ l) (at 2) (ap₂ (λ (x : ℕ) (l : List ℕ). x ∷ l) (at 1) (ap₂ (λ (x : ℕ) (l : List ℕ). x ∷ l) (at 0) refl)))))))

all_over : (xs ys : List ℕ) → all_pixels (zip2 bit_or xs ys) ≡ over (all_pixels xs) (all_pixels ys)
all_over [] ys = refl
all_over (x ∷ xs) [] = sym (over-nil (all_pixels (x ∷ xs)))
all_over (x ∷ xs) (y ∷ ys) = ap₂ (λ (a b : List ℕ). a ++ b) (pixels_of_or x y) (all_over xs ys)
    ∙ sym (over-append (pixels x) (pixels y) (all_pixels xs) (all_pixels ys) (length-pixels x ∙ sym (length-pixels y)))

zip2-append : (xs ys us vs : List ℕ) → length xs ≡ length ys → zip2 bit_or (xs ++ us) (ys ++ vs) ≡ zip2 bit_or xs ys ++ zip2 bit_or us vs
zip2-append [] [] us vs e = refl
zip2-append [] (y ∷ ys) us vs e = absurd (omega arith)
zip2-append (x ∷ xs) [] us vs e = absurd (omega arith)
zip2-append (x ∷ xs) (y ∷ ys) us vs e = ap (λ (l : List ℕ). bit_or x y ∷ l) (zip2-append xs ys us vs (omega arith))

-- a part more lies over the other
pub overlaid_more : (at size : ℕ) (buffer : List ℕ) {part : List ℕ} (left right : List ℕ) → at + size ≤ length buffer → length left ≡ length buffer
    → length right ≡ length buffer → take at buffer ≡ zip2 bit_or (take at left) (take at right) → part ≡ zip2 bit_or (take size (drop at left))
    (take size (drop at right)) → take (at + size) (put_mid at size buffer part) ≡ zip2 bit_or (take (at + size) left) (take (at + size) right)
overlaid_more at size buffer {part} left right within left_long right_long known more =
    let prefix = take at buffer in let rest = drop size (drop at buffer) in
    let count : length prefix ≡ at = length-take-le at buffer (omega arith) in
    let left_size : length (take size (drop at left)) ≡ size = length-take-le size (drop at left) (omega (arith, length-drop at left)) in
    let right_size : length (take size (drop at right)) ≡ size = length-take-le size (drop at right) (omega (arith, length-drop at right)) in
    let long : length part ≡ size = ap length more ∙ length-zip2 bit_or (take size (drop at left)) (take size (drop at right)) (left_size ∙ sym right_size)
    ∙ left_size in
    let whole : at + size ≡ length prefix + size = omega arith in
    let prefixes : length (take at left) ≡ length (take at right) = length-take-le at left (omega arith) ∙ sym (length-take-le at right (omega arith)) in
    ap (λ (k : ℕ). take k (put_mid at size buffer part)) whole ∙ take-append-add prefix (part ++ rest) size
    ∙ ap₂ (λ (a b : List ℕ). a ++ b) known (take_at part rest size long ∙ more)
    ∙ sym (zip2-append (take at left) (take at right) (take size (drop at left)) (take size (drop at right)) prefixes)
    ∙ ap₂ (zip2 bit_or) (sym (take-add at size left)) (sym (take-add at size right))

-- the halves of a byte, one over the other, are the byte
halves_over : (b : ℕ) → b < 256 → over (pixels (b / 16 * 16)) (pixels (b % 16 * 1)) ≡ pixels b
unfolding pixels
halves_over b lt = same_from_test (over (pixels (b / 16 * 16)) (pixels (b % 16 * 1))) (pixels b)
    (agree_below_at (λ n. same_list (over (pixels (n / 16 * 16)) (pixels (n % 16 * 1))) (pixels n)) (λ _. true) 256 b refl lt)

-- the stretched halves, one over the other, are the stretched byte
pub overlaid_byte : (times byte : ℕ) {new : List ℕ} (left right : List ℕ) → byte < 256 → new ≡ zip2 bit_or left right → take (8 * times)
    (all_pixels left) ≡ repeated times (pixels (byte / 16 * 16)) → take (8 * times) (all_pixels right) ≡ repeated times (pixels (byte % 16 * 1))
    → take (8 * times) (all_pixels new) ≡ repeated times (pixels byte)
overlaid_byte times byte left right lt is high low =
    ap (λ (l : List ℕ). take (8 * times) (all_pixels l)) is ∙ ap (take (8 * times)) (all_over left right)
    ∙ take_over (8 * times) (all_pixels left) (all_pixels right)
    ∙ ap₂ over high low ∙ over_repeated times (pixels (byte / 16 * 16)) (pixels (byte % 16 * 1)) ∙ ap (repeated times) (halves_over byte lt)

-- a stretched half, cut out of all
pub half_at : {times unit : ℕ} (v : ℕ) {at : ℕ} (size : ℕ) {bytes : List ℕ} → AreStretched times unit 16 bytes → v < 16 → at ≡ v * stride times
    → size ≡ stride times → take (8 * times) (all_pixels (take size (drop at bytes))) ≡ repeated times (pixels (v * unit))
half_at {times} v {at} size {bytes} h lt is held =
    ap (take (8 * times)) (sym (take-all_pixels size (drop at bytes))) ∙ take-take (8 * times) (8 * size) (all_pixels (drop at bytes)) (omega arith)
    ∙ ap (λ (k : ℕ). take (8 * times) (all_pixels (drop k bytes))) is ∙ h.each v lt

-- ---- one byte more

pub stretched_more : (times i : ℕ) {at size : ℕ} (buffer : List ℕ) {new : List ℕ} (part bytes : List ℕ) → i < length bytes → at ≡ i * times → times ≤ size
    → length part ≡ size → at + size ≤ length buffer → new ≡ put_mid at size buffer part → take (8 * (i * times))
    (all_pixels buffer) ≡ repeated times (all_pixels (take i bytes)) → take (8 * times) (all_pixels part) ≡ repeated times (pixels (get_or bytes i 0))
    → take (8 * ((i + 1) * times)) (all_pixels new) ≡ repeated times (all_pixels (take (i + 1) bytes))
stretched_more times i {at} {size} buffer part bytes lt is enough long within written known stretched =
    let prefix = take at buffer in let rest = drop size (drop at buffer) in let b = get_or bytes i 0 in
    let count : length prefix ≡ at = length-take-le at buffer (omega arith) in
    let whole : 8 * ((i + 1) * times) ≡ length (all_pixels prefix) + 8 * times = omega (arith, length-all_pixels prefix) in
    ap₂ (λ (k : ℕ) (l : List ℕ). take k l) whole (ap all_pixels written ∙ all_pixels-append prefix (part ++ rest))
    ∙ take-append-add (all_pixels prefix) (all_pixels (part ++ rest)) (8 * times)
    ∙ ap₂ (λ (a b : List ℕ). a ++ b) (sym (take-all_pixels at buffer) ∙ ap (λ (k : ℕ). take (8 * k) (all_pixels buffer)) is ∙ known)
    (ap (take (8 * times)) (all_pixels-append part rest)
    ∙ take-append-le (8 * times) (all_pixels part) (all_pixels rest) (omega (arith, length-all_pixels part)) ∙ stretched)
    ∙ sym (flat_map-append (λ s. replicate times s) (all_pixels (take i bytes)) (pixels b))
    ∙ ap (repeated times) (sym (all_pixels-push (take i bytes) b) ∙ ap all_pixels (sym (take_more bytes i 0 lt)))

-- behind it the bytes stay white
pub white_behind : (at : ℕ) {size : ℕ} (next : ℕ) (buffer : List ℕ) {new : List ℕ} (part : List ℕ) → at + size ≤ length buffer → length part ≡ size
    → next ≡ at + size → new ≡ take at buffer ++ (part ++ drop size (drop at buffer)) → drop at buffer ≡ replicate (length buffer - at) 0
    → drop next new ≡ replicate (length new - next) 0
white_behind at {size} next buffer {new} part within long is written white =
    let prefix = take at buffer in let rest = drop size (drop at buffer) in
    let count : length prefix ≡ at = length-take-le at buffer (omega arith) in
    let whole : length (prefix ++ part) ≡ next = omega (arith, length-append prefix part) in
    let parts : new ≡ (prefix ++ part) ++ rest = written ∙ sym (append_assoc prefix part rest) in
    let size_of_rest : length rest ≡ length buffer - at - size = omega (arith, length-drop size (drop at buffer), length-drop at buffer) in
    let left : length buffer - at - size ≡ length new - next = omega (arith, ap length parts, length-append (prefix ++ part) rest) in
    ap (drop next) parts ∙ drop_at (prefix ++ part) rest next whole
    ∙ ap (drop size) white ∙ drop-replicate size (length buffer - at) 0 ∙ ap (λ (k : ℕ). replicate k 0) left

-- ---- a row

pub stretched_view : (times count : ℕ) (bytes buffer : List ℕ) {value : List ℕ} → count ≤ 8 * length bytes → take (8 * (length bytes * times))
    (all_pixels buffer) ≡ repeated times (all_pixels bytes) → take count (all_pixels bytes) ≡ value → take (count * times)
    (all_pixels buffer) ≡ repeated times value
stretched_view times count bytes buffer within known is =
    let all : count * times ≤ 8 * (length bytes * times) = omega (arith, mul-le-mul_right {m = count} {n = 8 * length bytes} times within) in
    sym (take-take (count * times) (8 * (length bytes * times)) (all_pixels buffer) all) ∙ ap (take (count * times)) known
    ∙ repeated_view times count bytes is
