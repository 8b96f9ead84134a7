-- Rows of packed pixels that are held one after another.
use Rattle.pnm_samples.proofs.Words.{◌≡◌, ℕ, zero, suc, ◌+◌, ◌-◌, ◌*◌, ◌%◌, ◌<◌, ◌≤◌, List, [], ◌∷◌, ◌++◌, length, get_or, take, drop, refl, sym, ap, ap₂}
use Rattle.pnm_samples.proofs.Words.{subst, ◌∙◌, arith, suc-mul, zero-mul, mul-le-mul, Bool, true, false, if◌then◌else◌, drop-append-le, drop-drop, get_or-drop}
use Rattle.pnm_samples.proofs.Words.{length-drop, length-reverse, length-take, length-take-le, nil_from_length, get_or-reverse, take-append-drop}
use Rattle.pnm_samples.proofs.Words.{take-append-le, take_all, HoldsFrom, cut_rows, bytes_for, rows_of_bytes, ordered_rows, pixel_at, all_pixels}
use Rattle.pnm_samples.proofs.ColumnLaws.{byte_holds}
use Rattle.pnm_samples.proofs.PixelLaws.{all_pixels-append, drop-all_pixels, length-all_pixels}

-- ---- the rows of bytes

pub length_of_rows : (n each : ℕ) (bytes : List ℕ) → length (rows_of_bytes n each bytes) ≡ n
length_of_rows zero each bytes = refl
length_of_rows (suc n) each bytes = ap suc (length_of_rows n each (drop (bytes_for each) bytes))

pub length_of_ordered : (b : Bool) (n each : ℕ) (bytes : List ℕ) → length (ordered_rows b n each bytes) ≡ n
length_of_ordered true n each bytes = length-reverse (rows_of_bytes n each bytes) ∙ length_of_rows n each bytes
length_of_ordered false n each bytes = length_of_rows n each bytes

-- rows behind others
pub rows_behind : (n more each : ℕ) (bytes rest : List ℕ) → length bytes ≡ n * bytes_for each
    → rows_of_bytes (n + more) each (bytes ++ rest) ≡ rows_of_bytes n each bytes ++ rows_of_bytes more each rest
rows_behind zero more each bytes rest long =
    let none : length bytes ≡ 0 = omega (arith, long, zero-mul (bytes_for each)) in
    let same : 0 + more ≡ more = omega arith in
    ap (λ (l : List ℕ). rows_of_bytes (0 + more) each (l ++ rest)) (nil_from_length bytes none) ∙ ap (λ (k : ℕ). rows_of_bytes k each rest) same
rows_behind (suc n) more each bytes rest long =
    let size : suc n * bytes_for each ≡ bytes_for each + n * bytes_for each = omega (arith, suc-mul n (bytes_for each)) in
    let count : suc n + more ≡ suc (n + more) = omega arith in
    let first : take each (all_pixels (bytes ++ rest)) ≡ take each (all_pixels bytes) = ap (take each) (all_pixels-append bytes rest)
    ∙ take-append-le each (all_pixels bytes) (all_pixels rest) (omega (arith, length-all_pixels bytes, long, size)) in
    let behind : drop (bytes_for each) (bytes ++ rest) ≡ drop (bytes_for each) bytes ++ rest =
    drop-append-le (bytes_for each) bytes rest (omega (arith, long, size)) in
    let left : length (drop (bytes_for each) bytes) ≡ n * bytes_for each = omega (arith, length-drop (bytes_for each) bytes, long, size) in
    ap (λ (k : ℕ). rows_of_bytes k each (bytes ++ rest)) count
    ∙ ap (λ (l : List ℕ). l ∷ rows_of_bytes (n + more) each (drop (bytes_for each) (bytes ++ rest))) first
    ∙ ap (λ (l : List ℕ). take each (all_pixels bytes) ∷ rows_of_bytes (n + more) each l) behind
    ∙ ap (λ (l : List (List ℕ)). take each (all_pixels bytes) ∷ l) (rows_behind n more each (drop (bytes_for each) bytes) rest left)

-- rows that were added to others, which are of the same length where there are some
pub rows_added : (n held more each : ℕ) {bytes : List ℕ} (new : List ℕ) {cut : List (List ℕ)} → length bytes ≡ n * bytes_for held → (0 < n → held ≡ each)
    → take (length bytes) new ≡ bytes → rows_of_bytes more each (drop (length bytes) new) ≡ cut
    → rows_of_bytes (n + more) each new ≡ rows_of_bytes n held bytes ++ cut
rows_added zero held more each {bytes} new long same before added =
    let none : length bytes ≡ 0 = omega (arith, long, zero-mul (bytes_for held)) in
    let count : 0 + more ≡ more = omega arith in
    ap (λ (k : ℕ). rows_of_bytes k each new) count ∙ sym (ap (λ (k : ℕ). rows_of_bytes more each (drop k new)) none) ∙ added
rows_added (suc n) held more each {bytes} new long same before added =
    let lengths : held ≡ each = same (omega arith) in
    let parts : new ≡ bytes ++ drop (length bytes) new = sym (take-append-drop (length bytes) new)
    ∙ ap (λ (l : List ℕ). l ++ drop (length bytes) new) before in
    ap (rows_of_bytes (suc n + more) each) parts
    ∙ rows_behind (suc n) more each bytes (drop (length bytes) new) (long ∙ ap (λ (k : ℕ). suc n * bytes_for k) lengths)
    ∙ ap (λ (k : ℕ). rows_of_bytes (suc n) k bytes ++ rows_of_bytes more each (drop (length bytes) new)) (sym lengths)
    ∙ ap (λ (l : List (List ℕ)). rows_of_bytes (suc n) held bytes ++ l) added

-- where they are in order
pub rows_pushed : {b : Bool} (n held more each : ℕ) {bytes : List ℕ} (new : List ℕ) {old cut : List (List ℕ)} → b ≡ false → ordered_rows b n held bytes ≡ old
    → length bytes ≡ n * bytes_for held → (0 < n → held ≡ each) → take (length bytes) new ≡ bytes → rows_of_bytes more each (drop (length bytes) new) ≡ cut
    → ordered_rows b (n + more) each new ≡ old ++ cut
rows_pushed n held more each {bytes} new {cut} order is long same before added =
    ap (λ (c : Bool). ordered_rows c (n + more) each new) order ∙ rows_added n held more each new long same before added
    ∙ ap (λ (l : List (List ℕ)). l ++ cut) (sym (ap (λ (c : Bool). ordered_rows c n held bytes) order) ∙ is)

-- how many bytes they are then
pub bytes_added : (n held more each : ℕ) {size : ℕ} → size ≡ n * bytes_for held → (0 < n → held ≡ each)
    → size + more * bytes_for each ≡ (n + more) * bytes_for each
bytes_added zero held more each long same = omega (arith, long, zero-mul (bytes_for held))
bytes_added (suc n) held more each long same =
    ap (λ (k : ℕ). k + more * bytes_for each) (long ∙ ap (λ (k : ℕ). suc n * bytes_for k) (same (omega arith))) ∙ omega arith

-- ---- rows that begin at a byte where they come

aligned : (count each : ℕ) (bytes : List ℕ) → each % 8 ≡ 0 → rows_of_bytes count each bytes ≡ cut_rows count each (all_pixels bytes)
aligned zero each bytes whole = refl
aligned (suc count) each bytes whole =
    let size : each ≡ 8 * bytes_for each = omega (arith, whole) in
    let next : all_pixels (drop (bytes_for each) bytes) ≡ drop each (all_pixels bytes) =
    sym (ap (λ (k : ℕ). drop k (all_pixels bytes)) size ∙ drop-all_pixels (bytes_for each) bytes) in
    ap (λ (l : List (List ℕ)). take each (all_pixels bytes) ∷ l)
    (aligned count each (drop (bytes_for each) bytes) whole ∙ ap (cut_rows count each) next)

-- ---- rows that are brought to a byte's start one by one

-- what has been added of rows
pub record HasAdded (held count each : ℕ) (old bytes pixels : List ℕ) : Type 0 where
  pub before : take held bytes ≡ old
  pub many : length bytes ≡ held + count * bytes_for each
  pub rows : rows_of_bytes count each (drop held bytes) ≡ cut_rows count each pixels

-- ---- the bytes of a row

-- where a row lies
pub row_lies : (n each r : ℕ) (bytes : List ℕ) → r < n → get_or (rows_of_bytes n each bytes) r [] ≡ take each (all_pixels (drop (r * bytes_for each) bytes))
row_lies zero each r bytes lt = absurd (omega arith)
row_lies (suc n) each zero bytes lt =
    let none : 0 * bytes_for each ≡ 0 = omega (arith, zero-mul (bytes_for each)) in
    sym (ap (λ (k : ℕ). take each (all_pixels (drop k bytes))) none)
row_lies (suc n) each (suc r) bytes lt =
    let place : suc r * bytes_for each ≡ bytes_for each + r * bytes_for each = omega (arith, suc-mul r (bytes_for each)) in
    row_lies n each r (drop (bytes_for each) bytes) (omega arith)
    ∙ ap (λ (l : List ℕ). take each (all_pixels l)) (drop-drop (r * bytes_for each) (bytes_for each) bytes ∙ ap (λ (k : ℕ). drop k bytes) (sym place))

-- the number of a row where they lie
abbrev pub place_of : Bool → ℕ → ℕ → ℕ
place_of b n r = if b then n - 1 - r else r

ordered_lies : (b : Bool) (n each r : ℕ) (bytes : List ℕ) → r < n
    → get_or (ordered_rows b n each bytes) r [] ≡ take each (all_pixels (drop (place_of b n r * bytes_for each) bytes))
ordered_lies true n each r bytes lt =
    let many : length (rows_of_bytes n each bytes) ≡ n = length_of_rows n each bytes in
    get_or-reverse (rows_of_bytes n each bytes) r [] (omega (arith, many))
    ∙ ap (λ (k : ℕ). get_or (rows_of_bytes n each bytes) (k - 1 - r) []) many ∙ row_lies n each (n - 1 - r) bytes (omega arith)
ordered_lies false n each r bytes lt = row_lies n each r bytes lt

-- a row's place has all its bytes
pub place_within : (n each place : ℕ) {size : ℕ} → size ≡ n * bytes_for each → place < n → place * bytes_for each + bytes_for each ≤ size
place_within n each place is lt =
    let within : (place + 1) * bytes_for each ≤ n * bytes_for each =
    mul-le-mul {n₁ = place + 1} {m₁ = bytes_for each} {n₂ = n} {m₂ = bytes_for each} (omega arith) (omega arith) in
    omega (arith, is, within)

pub place_below : (b : Bool) (n r : ℕ) → r < n → place_of b n r < n
place_below true n r lt = omega arith
place_below false n r lt = lt

-- the pixels of a row
pub length_of_row : (b : Bool) (n each r : ℕ) (bytes : List ℕ) → length bytes ≡ n * bytes_for each → r < n
    → length (get_or (ordered_rows b n each bytes) r []) ≡ each
length_of_row b n each r bytes size lt =
    let p : ℕ = place_of b n r * bytes_for each in
    let within : p + bytes_for each ≤ length bytes = place_within n each (place_of b n r) size (place_below b n r lt) in
    ap length (ordered_lies b n each r bytes lt)
    ∙ length-take-le each (all_pixels (drop p bytes)) (omega (arith, length-all_pixels (drop p bytes), length-drop p bytes))

-- what they hold from one on
pub row_holds : (b : Bool) (n each r byte : ℕ) {from : ℕ} (bytes : List ℕ) → length bytes ≡ n * bytes_for each → r < n
    → from ≡ place_of b n r * bytes_for each + byte → HoldsFrom byte (get_or (ordered_rows b n each bytes) r [])
    (take (length bytes - from) (drop from bytes))
row_holds b n each r byte {from} bytes size lt is k j below within =
    let p : ℕ = place_of b n r * bytes_for each in
    let row : List ℕ = get_or (ordered_rows b n each bytes) r [] in
    let here : List ℕ = drop p bytes in
    let long : length row ≡ each = length_of_row b n each r bytes size lt in
    let room : p + bytes_for each ≤ length bytes = place_within n each (place_of b n r) size (place_below b n r lt) in
    let lies : row ≡ take (length row) (all_pixels here) = ordered_lies b n each r bytes lt ∙ ap (λ (m : ℕ). take m (all_pixels here)) (sym long) in
    let inside : byte + k < length here = omega (arith, long, length-drop p bytes) in
    let whole : take (length bytes - from) (drop from bytes) ≡ drop byte here =
    take_all (length bytes - from) (drop from bytes) (omega (arith, length-drop from bytes)) ∙ ap (λ (m : ℕ). drop m bytes) is
    ∙ sym (drop-drop byte p bytes) in
    ap (λ (l : List ℕ). pixel_at (7 - j) (get_or l k 0)) whole ∙ ap (pixel_at (7 - j)) (get_or-drop byte here k 0)
    ∙ byte_holds here (byte + k) inside lies j below within

-- ---- the bytes of a row of those that are held

module _ (b : Bool) (n each r byte stride : ℕ) {place : ℕ} {rows : List (List ℕ)} where
  -- there are so many bytes from a row's on
  pub row_room : (bytes : List ℕ) → ordered_rows b n each bytes ≡ rows → length bytes ≡ n * bytes_for each → r < length rows
      → byte ≤ bytes_for (length (get_or rows r [])) → stride ≡ bytes_for each → place ≡ place_of b n r
      → (place * stride + bytes_for (length (get_or rows r [])) ≤ length bytes) × (byte ≤ bytes_for (length (get_or rows r [])))
  row_room bytes is size lt within wide at =
      let below : r < n = omega (arith, length_of_ordered b n each bytes, ap length is) in
      let long : length (get_or rows r []) ≡ each = ap (λ (l : List (List ℕ)). length (get_or l r [])) (sym is) ∙ length_of_row b n each r bytes size below in
      let room : place_of b n r * bytes_for each + bytes_for each ≤ length bytes =
      place_within n each (place_of b n r) size (place_below b n r below) in
      let start : place * stride ≡ place_of b n r * bytes_for each = ap₂ (λ (p q : ℕ). p * q) at wide in (
        omega (arith, room, start, ap bytes_for long),
        within,
      )

  pub row_enough : {bytes lent : List ℕ} → ordered_rows b n each bytes ≡ rows → length bytes ≡ n * bytes_for each → r < length rows
      → byte ≤ bytes_for (length (get_or rows r [])) → stride ≡ bytes_for each → place ≡ place_of b n r → lent ≡ bytes
      → bytes_for (length (get_or rows r [])) ≤ byte + length (take (length lent - (place * stride + byte)) (drop (place * stride + byte) lent))
  row_enough {bytes} {lent} is size lt within wide at same =
      let room = row_room bytes is size lt within wide at in
      let from : ℕ = place * stride + byte in
      omega (arith, room.0, room.1, ap length same, length-take (length lent - from) (drop from lent), length-drop from lent)

  pub row_held : {bytes lent : List ℕ} → ordered_rows b n each bytes ≡ rows → length bytes ≡ n * bytes_for each → r < length rows → stride ≡ bytes_for each
      → place ≡ place_of b n r → lent ≡ bytes → HoldsFrom byte (get_or rows r [])
      (take (length lent - (place * stride + byte)) (drop (place * stride + byte) lent))
  row_held {bytes} is size lt wide at same =
      let below : r < n = omega (arith, length_of_ordered b n each bytes, ap length is) in
      let start : place * stride ≡ place_of b n r * bytes_for each = ap₂ (λ (p q : ℕ). p * q) at wide in
      let from : ℕ = place * stride + byte in
      subst (λ (l : List ℕ). HoldsFrom byte (get_or rows r []) (take (length l - from) (drop from l))) (sym same)
      (subst (λ (l : List (List ℕ)). HoldsFrom byte (get_or l r []) (take (length bytes - from) (drop from bytes))) is
      (row_holds b n each r byte bytes size below (ap (λ (k : ℕ). k + byte) start)))
