-- The pixels of a row that is held as bits.
use Rattle.pnm_samples.proofs.Words.{◌≡◌, ℕ, ◌+◌, ◌-◌, ◌*◌, ◌/◌, ◌%◌, ◌<◌, ◌≤◌, List, ◌++◌, length, get_or, min, take, drop, map, sym, ap, ap₂, ◌∙◌, arith, All}
use Rattle.pnm_samples.proofs.Words.{length-take, get_or_append_left, get_or-drop, get_or-take, take-append-le, drop_more, drop-take, take-take, take-map}
use Rattle.pnm_samples.proofs.Words.{get_or_default, take_min, pixel_at, pixels, all_pixels, ArePacked}
use Rattle.pnm_samples.proofs.PixelLaws.{length-pixels, length-all_pixels, get_or-pixels, all_pixels-append, drop-all_pixels, take-all_pixels}

-- ---- a row

-- the pixels of a row are as many as it says
pub length_of_packed : (count : ℕ) (bytes : List ℕ) → ArePacked count bytes → length (take count (all_pixels bytes)) ≡ count
length_of_packed count bytes h = omega (arith, length-take count (all_pixels bytes), length-all_pixels bytes, h.enough)

-- a row that was inverted
pub inverted_view : (count : ℕ) (bytes complement cleared : List ℕ) {value : List ℕ} → take count (all_pixels cleared) ≡ take count (all_pixels complement)
    → all_pixels complement ≡ map (λ s. 1 - s) (all_pixels bytes) → take count (all_pixels bytes) ≡ value
    → take count (all_pixels cleared) ≡ map (λ s. 1 - s) value
inverted_view count bytes complement cleared kept known is =
    kept ∙ ap (take count) known ∙ take-map (λ s. 1 - s) count (all_pixels bytes) ∙ ap (map (λ s. 1 - s)) is

-- a run of a row
pub run_of_row : (from : List ℕ) {value : List ℕ} (start count held : ℕ) → start + count ≤ held → take held (all_pixels from) ≡ value
    → take count (drop start (all_pixels from)) ≡ take count (drop start value)
run_of_row from start count held within is =
    let rest = held - start in
    let whole : start + rest ≡ held = omega arith in
    sym (take-take count rest (drop start (all_pixels from)) (omega arith))
    ∙ ap (take count) (sym (drop-take start rest (all_pixels from)) ∙ ap (λ (k : ℕ). drop start (take k (all_pixels from))) whole ∙ ap (drop start) is)

-- a row with a run of another one appended
pub appended_view : (held start count other : ℕ) (bytes : List ℕ) {grown : List ℕ} (placed cleared from : List ℕ) {value run : List ℕ} → take (held + count)
    (all_pixels cleared) ≡ take (held + count) (all_pixels placed) → take (held + count)
    (all_pixels placed) ≡ take held (all_pixels grown) ++ take count (drop start (all_pixels from)) → (rest : List ℕ) → grown ≡ bytes ++ rest
    → held ≤ 8 * length bytes → take held (all_pixels bytes) ≡ value → start + count ≤ other → take other (all_pixels from) ≡ run → take (held + count)
    (all_pixels cleared) ≡ value ++ take count (drop start run)
appended_view held start count other bytes {grown} placed cleared from {value} kept known rest more enough is within of =
    let prefix : take held (all_pixels grown) ≡ value = ap (λ (l : List ℕ). take held (all_pixels l)) more ∙ ap (take held) (all_pixels-append bytes rest)
    ∙ take-append-le held (all_pixels bytes) (all_pixels rest) (omega (arith, length-all_pixels bytes)) ∙ is in
    kept ∙ known ∙ ap₂ (λ (a b : List ℕ). a ++ b) prefix (run_of_row from start count other within of)

-- ---- a pixel of a row

-- of bytes
pub pixel_of_bytes : (at : ℕ) (bytes : List ℕ) → at < 8 * length bytes → get_or (all_pixels bytes) at 0 ≡ pixel_at (7 - at % 8) (get_or bytes (at / 8) 0)
pixel_of_bytes at bytes lt =
    let n = at / 8 in let r = at % 8 in let x = get_or bytes n 0 in let rest = all_pixels (drop (n + 1) bytes) in
    let inside : n < length bytes = omega (arith, lt) in
    let place : at ≡ 8 * n + r = omega arith in
    ap (λ (k : ℕ). get_or (all_pixels bytes) k 0) place
    ∙ sym (get_or-drop (8 * n) (all_pixels bytes) r 0)
    ∙ ap (λ (l : List ℕ). get_or l r 0) (drop-all_pixels n bytes ∙ ap all_pixels (drop_more bytes n 0 inside))
    ∙ get_or_append_left (pixels x) rest 0 r (omega (arith, length-pixels x)) ∙ get_or-pixels x r (omega arith)

pub pixel_of_row : {count : ℕ} (at : ℕ) {bytes value : List ℕ} → at < count → ArePacked count bytes → take count (all_pixels bytes) ≡ value
    → get_or value at 0 ≡ pixel_at (7 - at % 8) (get_or bytes (at / 8) 0)
pixel_of_row {count} at {bytes} lt h is =
    ap (λ (l : List ℕ). get_or l at 0) (sym is) ∙ get_or-take count (all_pixels bytes) at 0 lt ∙ pixel_of_bytes at bytes (omega (arith, lt, h.enough))

-- the first so many pixels are black, as all that were looked at are
pub black_from_looks : (count seen : ℕ) (bytes : List ℕ) → length (take count (all_pixels bytes)) ≤ seen
    → ((k : ℕ) → k < seen → get_or (all_pixels bytes) k 0 ≤ 0)
    → All (λ sample. sample ≤ 0) (take count (all_pixels bytes))
black_from_looks count seen bytes all known k d lt =
    let within : k < count = omega (arith, lt, length-take count (all_pixels bytes)) in
    let small : get_or (take count (all_pixels bytes)) k 0 ≤ 0 =
    omega (arith, known k (omega (arith, lt, all)), get_or-take count (all_pixels bytes) k 0 within) in
    rw (get_or_default (take count (all_pixels bytes)) k d 0 lt) small

-- one isn't
pub not_black : (count at : ℕ) {pixel : ℕ} (bytes : List ℕ) → at < count → at < 8 * length bytes → pixel ≡ get_or (all_pixels bytes) at 0 → 0 < pixel
    → All (λ sample. sample ≤ 0) (take count (all_pixels bytes)) → ⊥
not_black count at bytes lt inside is above all =
    let within : at < length (take count (all_pixels bytes)) = omega (arith, lt, inside, length-take count (all_pixels bytes), length-all_pixels bytes) in
    omega (arith, all at 0 within, get_or-take count (all_pixels bytes) at 0 lt, is, above)

-- no pixel is above 1
pub pixels_within : {count : ℕ} {bytes value : List ℕ} (most : ℕ) → 0 < most → ArePacked count bytes → take count (all_pixels bytes) ≡ value
    → All (λ sample. sample ≤ most) value
pixels_within {count} {bytes} {value} most some h is k d lt =
    let size : length value ≡ count = ap length (sym is) ∙ length_of_packed count bytes h in
    let at = pixel_of_row k (omega arith) h is in
    let small : get_or value k 0 ≤ most = omega (arith, at) in
    rw (get_or_default value k d 0 lt) small

-- so many pixels of the bytes that they take
pub prefix_of_bytes : (bytes cleared : List ℕ) (count : ℕ) {kept : ℕ} (m : ℕ) → kept ≡ min count (8 * length bytes) → kept ≤ 8 * m
    → take kept (all_pixels cleared) ≡ take kept (all_pixels (take m bytes)) → take kept (all_pixels cleared) ≡ take count (all_pixels bytes)
prefix_of_bytes bytes cleared count {kept} m e enough known =
    let size : min count (8 * length bytes) ≡ min count (length (all_pixels bytes)) = ap (min count) (sym (length-all_pixels bytes)) in
    known ∙ ap (take kept) (sym (take-all_pixels m bytes)) ∙ take-take kept (8 * m) (all_pixels bytes) enough
    ∙ ap (λ (k : ℕ). take k (all_pixels bytes)) (e ∙ size) ∙ take_min count (all_pixels bytes)

-- no pixel of bytes is above 1
pub byte_pixels_within : (count most : ℕ) (bytes : List ℕ) → 0 < most → All (λ sample. sample ≤ most) (take count (all_pixels bytes))
byte_pixels_within count most bytes some k d lt =
    let within : k < count = omega (arith, lt, length-take count (all_pixels bytes)) in
    let inside : k < 8 * length bytes = omega (arith, lt, length-take count (all_pixels bytes), length-all_pixels bytes) in
    let small : get_or (take count (all_pixels bytes)) k 0 ≤ most =
    omega (arith, get_or-take count (all_pixels bytes) k 0 within, pixel_of_bytes k bytes inside) in
    rw (get_or_default (take count (all_pixels bytes)) k d 0 lt) small
