-- A sample that is stored so many times, several at once.
use Rattle.pnm_repeat_tools.proofs.Words.{◌≡◌, ℕ, ◌+◌, ◌-◌, ◌*◌, ◌≤◌, ◌<◌, List, [], ◌∷◌, ◌++◌, length, take, drop, get_or, set, replicate, refl, sym, ap, ◌∙◌}
use Rattle.pnm_repeat_tools.proofs.Words.{arith, put_mid, take-append-add, append_assoc, length-append, length-drop, length-replicate, length-take-le}
use Rattle.pnm_repeat_tools.proofs.Words.{replicate-append-replicate, take_at, take_more_set, take-replicate, take-take, take-put_mid, copies_of, color_of}
use Rattle.pnm_repeat_tools.proofs.Words.{pixel_of_one, length_of_equals, pieces_alike_from, pieces_in_parts, replicated}
use Rattle.pnm_repeat_tools.proofs.EnlargeRowLaws.{column_more, columns_repeated}

-- several more
pub copies_more : {X : Type 0} (buffer prefix : List X) {copies : List X} (place k m : ℕ) {next : ℕ} (v : X) → take place buffer ≡ prefix ++ replicate k v
    → copies ≡ replicate m v → place ≤ length buffer → next ≡ place + m → take next (put_mid place m buffer copies) ≡ prefix ++ replicate (k + m) v
copies_more {X = X} buffer prefix {copies} place k m {next} v was is within on =
    let size : length copies ≡ m = ap length is ∙ length-replicate m v in
    take-put_mid place m buffer copies next (omega arith) within ∙ ap (λ (l : List X). l ++ copies) was ∙ append_assoc prefix (replicate k v) copies
    ∙ ap (λ (l : List X). prefix ++ (replicate k v ++ l)) is ∙ ap (λ (l : List X). prefix ++ l) (replicate-append-replicate k m v)

-- the buffer keeps its length
pub length_with : {X : Type 0} (buffer copies : List X) (place : ℕ) {m : ℕ} → length copies ≡ m → place + m ≤ length buffer
    → length (put_mid place m buffer copies) ≡ length buffer
length_with {X = X} buffer copies place {m} size fits =
    let rest : List X = drop m (drop place buffer) in
    omega (
      arith,
      length-append (take place buffer) (copies ++ rest),
      length-append copies rest,
      length-take-le place buffer (omega arith),
      length-drop place buffer,
      length-drop m (drop place buffer),
    )

-- one more
pub copy_more : {X : Type 0} (buffer prefix : List X) (place k : ℕ) (v : X) → take place buffer ≡ prefix ++ replicate k v → place < length buffer
    → take (place + 1) (set buffer place v) ≡ prefix ++ replicate (k + 1) v
copy_more {X = X} buffer prefix place k v was within =
    take_more_set buffer place v within ∙ ap (λ (l : List X). l ++ v ∷ []) was ∙ append_assoc prefix (replicate k v) (v ∷ [])
    ∙ ap (λ (l : List X). prefix ++ l) (replicate-append-replicate k 1 v)

-- those that are wanted, of as many or more
pub copies_stored : {X : Type 0} (buffer old : List X) (at count place : ℕ) (v : X) → at ≤ length old → at + count ≤ place
    → take place buffer ≡ take at old ++ replicate (place - at) v
    → take (at + count) buffer ≡ take at old ++ replicate count v
copies_stored {X = X} buffer old at count place v within enough was =
    let prefix : List X = take at old in
    let long : length prefix ≡ at = length-take-le at old within in
    let place_of : at + count ≡ length prefix + count = omega arith in
    sym (take-take (at + count) place buffer enough) ∙ ap (take (at + count)) was ∙ ap (λ (n : ℕ). take n (prefix ++ replicate (place - at) v)) place_of
    ∙ take-append-add prefix (replicate (place - at) v) count ∙ ap (λ (l : List X). prefix ++ l) (take-replicate count (place - at) v (omega arith))

-- a sample of the row more, so many times
pub sample_repeated : {X : Type 0} (across i : ℕ) (row buffer new : List X) {v : X} → take (i * across) buffer ≡ columns_repeated across 1 row i
    → i < length row → v ≡ get_or row i v → take (i * across + across) new ≡ take (i * across) buffer ++ replicate across v
    → take ((i + 1) * across) new ≡ columns_repeated across 1 row (i + 1)
sample_repeated {X = X} across i row buffer new {v} was below is stored =
    let place : (i + 1) * across ≡ i * across + across = omega arith in
    column_more 1 row i (i * 1) 1 was (ap (λ (n : ℕ). take n new) place ∙ stored
    ∙ ap (λ (l : List X). take (i * across) buffer ++ l) (sym (ap (copies_of across) (pixel_of_one row i v below is) ∙ replicated v 0 across))) refl refl refl

-- ---- three samples

-- so many times, and so many times more
repeated_add : {X : Type 0} (k m : ℕ) (pixel : List X) → copies_of (k + m) pixel ≡ copies_of k pixel ++ copies_of m pixel
repeated_add {X = X} k m pixel =
    pieces_in_parts (λ _. pixel) 0 k m ∙ ap (λ (l : List X). copies_of k pixel ++ l) (pieces_alike_from (λ _. pixel) (λ _. pixel) (0 + k) 0 m (λ i lt. refl))

-- several more
pub colors_more : {X : Type 0} (buffer new prefix : List X) {copies : List X} (pixel : List X) (place k m next : ℕ)
    → take place buffer ≡ prefix ++ copies_of k pixel → take (place + length copies) new ≡ take place buffer ++ copies → copies ≡ copies_of m pixel
    → next ≡ place + length copies → take next new ≡ prefix ++ copies_of (k + m) pixel
colors_more {X = X} buffer new prefix {copies} pixel place k m next was stored is on =
    ap (λ (n : ℕ). take n new) on ∙ stored ∙ ap (λ (l : List X). l ++ copies) was ∙ append_assoc prefix (copies_of k pixel) copies
    ∙ ap (λ (l : List X). prefix ++ (copies_of k pixel ++ l)) is ∙ ap (λ (l : List X). prefix ++ l) (sym (repeated_add k m pixel))

-- those that are wanted, of as many or more
pub colors_stored : {X : Type 0} (buffer old pixel : List X) (at count k : ℕ) → length pixel ≡ 3 → at ≤ length old → count ≤ k
    → take (at + 3 * k) buffer ≡ take at old ++ copies_of k pixel
    → take (at + 3 * count) buffer ≡ take at old ++ copies_of count pixel
colors_stored {X = X} buffer old pixel at count k three within enough was =
    let prefix : List X = take at old in
    let rest : List X = copies_of (k - count) pixel in
    let long : length prefix ≡ at = length-take-le at old within in
    let all : k ≡ count + (k - count) = omega arith in
    let size : length (copies_of count pixel) ≡ count * 3 = length_of_equals (λ _. pixel) 3 0 count (λ x. three) in
    let place_of : at + 3 * count ≡ length prefix + count * 3 = omega arith in
    sym (take-take (at + 3 * count) (at + 3 * k) buffer (omega arith)) ∙ ap (take (at + 3 * count)) was
    ∙ ap (λ (n : ℕ). take n (prefix ++ copies_of k pixel)) place_of
    ∙ take-append-add prefix (copies_of k pixel) (count * 3)
    ∙ ap (λ (n : ℕ). prefix ++ take (count * 3) (copies_of n pixel)) all
    ∙ ap (λ (l : List X). prefix ++ take (count * 3) l) (repeated_add count (k - count) pixel)
    ∙ ap (λ (l : List X). prefix ++ l) (take_at (copies_of count pixel) rest (count * 3) size)

-- a pixel of the row more, so many times
pub color_repeated : {X : Type 0} (across x : ℕ) {n : ℕ} (row buffer new : List X) {color : List X}
    → take (3 * x * across) buffer ≡ columns_repeated across 3 row x → color ≡ take 3 (drop n row) → n ≡ 3 * x
    → take (3 * x * across + 3 * across) new ≡ take (3 * x * across) buffer ++ copies_of across color
    → take (3 * (x + 1) * across) new ≡ columns_repeated across 3 row (x + 1)
color_repeated {X = X} across x {n} row buffer new {color} was is at stored =
    let place : 3 * (x + 1) * across ≡ 3 * x * across + 3 * across = omega arith in
    column_more 3 row x (x * 3) 3 was
    (ap (λ (k : ℕ). take k new) place ∙ stored ∙ ap (λ (l : List X). take (3 * x * across) buffer ++ copies_of across l) (color_of row color n x is at))
    refl refl refl
