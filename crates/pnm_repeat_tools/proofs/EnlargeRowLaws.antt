-- A row whose pixels are repeated.
use Rattle.pnm_repeat_tools.proofs.Words.{◌≡◌, ℕ, zero, suc, ◌+◌, ◌-◌, ◌*◌, ◌≤◌, ◌<◌, List, [], ◌∷◌, ◌++◌, length, take, drop, get_or, set, All, refl, sym, ap}
use Rattle.pnm_repeat_tools.proofs.Words.{subst, ◌∙◌, arith, mul-le-mul, put_mid, flat_map, range_with_len, length-set, append_assoc, append-nil, take_all}
use Rattle.pnm_repeat_tools.proofs.Words.{take_more, take_more_set, length-take, length-drop, drop-drop, drop-take, take-take, All-take, All-drop, All-append}
use Rattle.pnm_repeat_tools.proofs.Words.{take-add, take-put_mid, Shape, row_length, enlarged_row, copies_of, pixel_of, color_of, pixel_of_one, pieces_in_parts}
use Rattle.pnm_repeat_tools.proofs.Words.{pieces_alike_from}

-- there is room for the pixel
pub place_there : (width across depth x n : ℕ) {at start count : ℕ} (size : ℕ) → x < width → n < across → at ≡ start + n * depth → start ≡ x * across * depth
    → count ≡ width * depth → size ≡ count * across → at + depth ≤ size
place_there width across depth x n size column time is first long all =
    let times : suc x * across ≤ width * across = mul-le-mul {n₁ = suc x} {m₁ = across} {n₂ = width} {m₂ = across} (omega arith) (omega arith) in
    let samples : suc (x * across + n) * depth ≤ (width * across) * depth =
    mul-le-mul {n₁ = suc (x * across + n)} {m₁ = depth} {n₂ = width * across} {m₂ = depth} (omega arith) (omega arith) in
    omega (arith, ap (λ (k : ℕ). k * across) long)

module _ {X : Type 0} where
  -- the first columns, each pixel so many times
  abbrev pub columns_repeated : ℕ → ℕ → List X → ℕ → List X
  columns_repeated across depth row n = flat_map (λ x. copies_of across (pixel_of depth row x)) (range_with_len 0 n)

  -- one number more
  one_more : (f : ℕ → List X) (n : ℕ) → flat_map f (range_with_len 0 (n + 1)) ≡ flat_map f (range_with_len 0 n) ++ f n
  one_more f n =
      let on : 0 + n ≡ n = omega arith in
      pieces_in_parts f 0 n 1 ∙ ap (λ (k : ℕ). flat_map f (range_with_len 0 n) ++ flat_map f (range_with_len k 1)) on
      ∙ ap (λ (l : List X). flat_map f (range_with_len 0 n) ++ l) (append-nil (f n))

  -- one column more
  pub one_more_column : (across depth : ℕ) (row : List X) (n : ℕ)
      → columns_repeated across depth row (n + 1) ≡ columns_repeated across depth row n ++ copies_of across (pixel_of depth row n)
  one_more_column across depth row n = one_more (λ x. copies_of across (pixel_of depth row x)) n

  -- ---- stores behind the front of a buffer

  -- one sample more
  stored : (buffer prefix more : List X) (n : ℕ) {next : ℕ} (v : X) → take n buffer ≡ prefix ++ more → n < length buffer → next ≡ n + 1
      → take next (set buffer n v) ≡ prefix ++ (more ++ v ∷ [])
  stored buffer prefix more n v was lt on =
      ap (λ (k : ℕ). take k (set buffer n v)) on ∙ take_more_set buffer n v lt ∙ ap (λ (l : List X). l ++ v ∷ []) was ∙ append_assoc prefix more (v ∷ [])

  -- two samples more
  stored_twice : (buffer : List X) {prefix : List X} {n a b : ℕ} (v w : X) → take n buffer ≡ prefix → n + 2 ≤ length buffer → a ≡ n → b ≡ n + 1
      → take (n + 2) (set (set buffer a v) b w) ≡ prefix ++ (v ∷ w ∷ [])
  stored_twice buffer {prefix} {n} {b} v w was fits first second =
      let one : List X = set buffer n v in
      let long : length one ≡ length buffer = length-set buffer n v in
      let two : n + 2 ≡ (n + 1) + 1 = omega arith in
      ap (λ (k : ℕ). take (n + 2) (set (set buffer k v) b w)) first ∙ ap (λ (k : ℕ). take (n + 2) (set one k w)) second
      ∙ stored one prefix (v ∷ []) (n + 1) w (stored buffer prefix [] n v (was ∙ sym (append-nil prefix)) (omega arith) refl) (omega arith) two

  -- ---- each pixel twice

  -- one sample more, twice
  pub doubled_more : (row buffer : List X) (i a b : ℕ) {v : X} → take (2 * i) buffer ≡ columns_repeated 2 1 row i → i < length row
      → length buffer ≡ length row * 2 → a ≡ 2 * i → b ≡ 2 * i + 1 → v ≡ get_or row i v → take (2 * (i + 1))
      (set (set buffer a v) b v) ≡ columns_repeated 2 1 row (i + 1)
  doubled_more row buffer i a b {v} was lt size first second is =
      let n : ℕ = 2 * i in
      let next : 2 * (i + 1) ≡ n + 2 = omega arith in
      ap (λ (k : ℕ). take k (set (set buffer a v) b v)) next
      ∙ stored_twice buffer v v was (omega arith) first second
      ∙ ap (λ (l : List X). columns_repeated 2 1 row i ++ (l ++ (l ++ []))) (sym (pixel_of_one row i v lt is))
      ∙ sym (one_more_column 2 1 row i)

  -- one pixel more, twice
  pub color_doubled : (row buffer new : List X) {color : List X} (x at : ℕ) {n : ℕ} → take at buffer ≡ columns_repeated 2 3 row x
      → take (at + 6) new ≡ take at buffer ++ copies_of 2 color → color ≡ take 3 (drop n row) → n ≡ 3 * x
      → take (at + 6) new ≡ columns_repeated 2 3 row (x + 1)
  color_doubled row buffer new {color} x at {n} was stored is place =
      stored ∙ ap (λ (l : List X). l ++ copies_of 2 color) was
      ∙ ap (λ (l : List X). columns_repeated 2 3 row x ++ copies_of 2 l) (color_of row color n x is place) ∙ sym (one_more_column 2 3 row x)

  -- four pixels, each twice
  pub four_colors : (row buffer r₁ r₂ r₃ r₄ : List X) {p q r s : List X} → length r₄ ≡ 24 → p ≡ take 3 (drop 0 row) → q ≡ take 3 (drop 3 row)
      → r ≡ take 3 (drop 6 row) → s ≡ take 3 (drop 9 row) → take 6 r₁ ≡ take 0 buffer ++ copies_of 2 p → take 12 r₂ ≡ take 6 r₁ ++ copies_of 2 q
      → take 18 r₃ ≡ take 12 r₂ ++ copies_of 2 r → take 24 r₄ ≡ take 18 r₃ ++ copies_of 2 s → r₄ ≡ columns_repeated 2 3 row 4
  four_colors row buffer r₁ r₂ r₃ r₄ long ip iq ir is e₁ e₂ e₃ e₄ =
      let s₁ : take 6 r₁ ≡ columns_repeated 2 3 row 1 = color_doubled row buffer r₁ 0 0 refl e₁ ip refl in
      let s₂ : take 12 r₂ ≡ columns_repeated 2 3 row 2 = color_doubled row r₁ r₂ 1 6 s₁ e₂ iq refl in
      let s₃ : take 18 r₃ ≡ columns_repeated 2 3 row 3 = color_doubled row r₂ r₃ 2 12 s₂ e₃ ir refl in
      let s₄ : take 24 r₄ ≡ columns_repeated 2 3 row 4 = color_doubled row r₃ r₄ 3 18 s₃ e₄ is refl in
      sym (take_all 24 r₄ (omega arith)) ∙ s₄

  -- a pixel of four that stand side by side
  pixel_of_four : (row : List X) (x : ℕ) {m : ℕ} (i : ℕ) → m ≡ 12 → i < 4 → pixel_of 3 (take m (drop (12 * x) row)) i ≡ pixel_of 3 row (4 * x + i)
  pixel_of_four row x i twelve below =
      let back : List X = drop (12 * x) row in
      let place : i * 3 + 12 * x ≡ (4 * x + i) * 3 = omega arith in
      let split : 12 ≡ i * 3 + (12 - i * 3) = omega arith in
      ap (λ (n : ℕ). take 3 (drop (i * 3) (take n back))) (twelve ∙ split)
      ∙ ap (take 3) (drop-take (i * 3) (12 - i * 3) back)
      ∙ take-take 3 (12 - i * 3) (drop (i * 3) back) (omega arith)
      ∙ ap (take 3) (drop-drop (i * 3) (12 * x) row) ∙ ap (λ (n : ℕ). take 3 (drop n row)) (omega (arith, place))

  -- four pixels in their part of the row, each twice
  pub four_more : (row buffer : List X) {part : List X} (x k m : ℕ) → take (6 * (4 * x)) buffer ≡ columns_repeated 2 3 row (4 * x)
      → 24 * x + 24 ≤ length buffer → k ≡ 12 → length part ≡ 24 → part ≡ columns_repeated 2 3 (take k (drop (12 * x) row)) 4 → take (6 * (4 * (x + 1)))
      (put_mid (24 * x) m buffer part) ≡ columns_repeated 2 3 row (4 * (x + 1))
  four_more row buffer {part} x k m was fits twelve long is =
      let f : ℕ → List X = λ n. copies_of 2 (pixel_of 3 row n) in
      let g : ℕ → List X = λ n. copies_of 2 (pixel_of 3 (take k (drop (12 * x) row)) n) in
      let same : (i : ℕ) → i < 4 → g (0 + i) ≡ f (0 + 4 * x + i) = λ i below.
      let from : 0 + i ≡ i = omega arith in
      let to : 4 * x + i ≡ 0 + 4 * x + i = omega arith in
      ap g from ∙ ap (copies_of 2) (pixel_of_four row x i twelve below) ∙ ap f to in
      let next : 6 * (4 * (x + 1)) ≡ 24 * x + length part = omega arith in
      let start : 24 * x ≡ 6 * (4 * x) = omega arith in
      let more : 4 * (x + 1) ≡ 4 * x + 4 = omega arith in
      ap (λ (n : ℕ). take n (put_mid (24 * x) m buffer part)) next ∙ take-put_mid (24 * x) m buffer part (24 * x + length part) refl (omega arith)
      ∙ ap (λ (l : List X). l ++ part) (ap (λ (n : ℕ). take n buffer) start ∙ was)
      ∙ ap (λ (l : List X). columns_repeated 2 3 row (4 * x) ++ l) (is ∙ pieces_alike_from g f 0 (0 + 4 * x) 4 (λ i below. same i below))
      ∙ sym (ap (columns_repeated 2 3 row) more ∙ pieces_in_parts f 0 (4 * x) 4)

  -- ---- each pixel so many times

  -- one sample more of the pixel
  pub sample_more : (prefix pixel buffer : List X) (at p : ℕ) {v : X} → take (at + p) buffer ≡ prefix ++ take p pixel → at + p < length buffer
      → p < length pixel → v ≡ get_or pixel p v → take (at + (p + 1)) (set buffer (at + p) v) ≡ prefix ++ take (p + 1) pixel
  sample_more prefix pixel buffer at p {v} was lt below is =
      let next : at + (p + 1) ≡ (at + p) + 1 = omega arith in
      stored buffer prefix (take p pixel) (at + p) v was lt next
      ∙ ap (λ (x : X). prefix ++ (take p pixel ++ x ∷ [])) is ∙ ap (λ (l : List X). prefix ++ l) (sym (take_more pixel p v below))

  -- the pixel once more
  pub pixel_more : (start : List X) {before now : List X} (pixel : List X) (count : ℕ) → before ≡ start ++ copies_of count pixel → now ≡ before ++ pixel
      → now ≡ start ++ copies_of (count + 1) pixel
  pixel_more start pixel count was is =
      is ∙ ap (λ (l : List X). l ++ pixel) was ∙ append_assoc start (copies_of count pixel) pixel
      ∙ ap (λ (l : List X). start ++ l) (sym (one_more (λ _. pixel) count))

  -- one column more
  pub column_more : {across : ℕ} (depth : ℕ) (row : List X) {before now : List X} (x : ℕ) {n : ℕ} (k m : ℕ) → before ≡ columns_repeated across depth row x
      → now ≡ before ++ copies_of n (take m (drop k row)) → n ≡ across → k ≡ x * depth → m ≡ depth → now ≡ columns_repeated across depth row (x + 1)
  column_more {across} depth row {before} x k m was is times at size =
      is ∙ ap (λ (j : ℕ). before ++ copies_of j (take m (drop k row))) times
      ∙ ap (λ (j : ℕ). before ++ copies_of across (take m (drop j row))) at
      ∙ ap (λ (k : ℕ). before ++ copies_of across (take k (drop (x * depth) row))) size
      ∙ ap (λ (l : List X). l ++ copies_of across (pixel_of depth row x)) was ∙ sym (one_more_column across depth row x)

  -- a pixel has all its samples
  pub pixel_there : (row : List X) (width depth x k m p : ℕ) → length row ≡ width * depth → x < width → k ≡ x * depth → m ≡ depth → p < depth
      → p < length (take m (drop k row))
  pixel_there row width depth x k m p long column at size below =
      let within : suc x * depth ≤ width * depth = mul-le-mul {n₁ = suc x} {m₁ = depth} {n₂ = width} {m₂ = depth} (omega arith) (omega arith) in
      omega (arith, length-take m (drop k row), length-drop k row)

  -- so long is a pixel of many samples
  wide_pixel : (row : List X) (width : ℕ) {depth : ℕ} (x : ℕ) {k m : ℕ} → length row ≡ width * depth → x < width → k ≡ x * depth → m ≡ depth
      → length (take m (drop k row)) ≡ depth
  wide_pixel row width {depth} x {k} {m} long column at size =
      let within : suc x * depth ≤ width * depth = mul-le-mul {n₁ = suc x} {m₁ = depth} {n₂ = width} {m₂ = depth} (omega arith) (omega arith) in
      omega (arith, length-take m (drop k row), length-drop k row)

  -- there is room for it
  pub wide_there : (row : List X) (width across depth x n k m : ℕ) {at start count size : ℕ} → x < width → n < across → at ≡ start + n * depth
      → start ≡ x * across * depth → count ≡ width * depth → size ≡ count * across → length row ≡ width * depth → k ≡ x * depth → m ≡ depth
      → at + length (take m (drop k row)) ≤ size
  wide_there row width across depth x n k m {size} column time is first long all have from many =
      omega (
        arith,
        place_there width across depth x n size column time is first long all,
        wide_pixel row width x have column from many,
      )

  -- it stands once more
  pub wide_more : (start buffer new row : List X) (width depth x k m at count : ℕ) → length row ≡ width * depth → x < width → k ≡ x * depth → m ≡ depth
      → take at buffer ≡ start ++ copies_of count (take m (drop k row))
      → take (at + length (take m (drop k row))) new ≡ take at buffer ++ take m (drop k row) → take (at + depth) new ≡ start ++ copies_of (count + 1)
      (take m (drop k row))
  wide_more start buffer new row width depth x k m at count long column from size was is =
      ap (λ (n : ℕ). take (at + n) new) (sym (wide_pixel row width x long column from size))
      ∙ pixel_more start (take m (drop k row)) count was is

  -- nothing of the pixel yet
  pub none_stored : (buffer pixel : List X) (at : ℕ) → take (at + 0) buffer ≡ take at buffer ++ take 0 pixel
  none_stored buffer pixel at =
      let on : at + 0 ≡ at = omega arith in
      ap (λ (k : ℕ). take k buffer) on ∙ sym (append-nil (take at buffer))

  -- all of the pixel
  pub pixel_stored : (prefix buffer rest : List X) (at : ℕ) {p : ℕ} (m : ℕ) {depth : ℕ} → take (at + p) buffer ≡ prefix ++ take p (take m rest) → p ≡ depth
      → m ≡ depth → take (at + depth) buffer ≡ prefix ++ take m rest
  pixel_stored prefix buffer rest at {p} m is all size =
      ap (λ (k : ℕ). take (at + k) buffer) (sym all) ∙ is ∙ ap (λ (l : List X). prefix ++ l) (take_all p (take m rest) (omega (arith, length-take m rest)))

-- the place behind a column
pub next_place : {across : ℕ} (depth x : ℕ) {n at start : ℕ} → at ≡ start + n * depth → start ≡ x * across * depth → n ≡ across
    → at ≡ (x + 1) * across * depth
next_place depth x is first all = omega (arith, ap (λ (k : ℕ). k * depth) all)

-- ---- samples of the result

-- what holds of each sample of the row holds of each of a pixel's copies
within_copies : (P : ℕ → Type 0) (pixel : List ℕ) (a n : ℕ) → All P pixel → All P (flat_map (λ _. pixel) (range_with_len a n))
within_copies P pixel a zero h = All-take P 0 pixel h
within_copies P pixel a (suc n) h = All-append P pixel (flat_map (λ _. pixel) (range_with_len (a + 1) n)) h (within_copies P pixel (a + 1) n h)

within_columns : (P : ℕ → Type 0) (across depth : ℕ) (row : List ℕ) (a n : ℕ) → All P row
    → All P (flat_map (λ x. copies_of across (pixel_of depth row x)) (range_with_len a n))
within_columns P across depth row a zero h = All-take P 0 row h
within_columns P across depth row a (suc n) h =
    All-append P (copies_of across (pixel_of depth row a)) (flat_map (λ x. copies_of across (pixel_of depth row x)) (range_with_len (a + 1) n))
    (within_copies P (pixel_of depth row a) 0 across (All-take P depth (drop (a * depth) row) (All-drop P (a * depth) row h)))
    (within_columns P across depth row (a + 1) n h)

-- the samples of the result are within what those of the row are
pub enlarged_within : (maxval across : ℕ) (s : Shape) {held row made : List ℕ} → made ≡ enlarged_row across s held → held ≡ row
    → All (λ sample. sample ≤ maxval) row → All (λ sample. sample ≤ maxval) made
enlarged_within maxval across s {row} is same h =
    let P : ℕ → Type 0 = λ sample. sample ≤ maxval in
    subst (All P) (sym (is ∙ ap (enlarged_row across s) same)) (within_columns P across s.depth row 0 s.width h)

-- ---- the rows that are given

-- the first columns, each pixel once
columns_once : (depth : ℕ) (row : List ℕ) (n : ℕ) → columns_repeated 1 depth row n ≡ take (n * depth) row
columns_once depth row zero = let none : 0 ≡ 0 * depth = omega arith in ap (λ (k : ℕ). take k row) none
columns_once depth row (suc n) =
    let more : suc n ≡ n + 1 = omega arith in
    let size : n * depth + depth ≡ (n + 1) * depth = omega arith in
    ap (columns_repeated 1 depth row) more ∙ one_more_column 1 depth row n
    ∙ ap (λ (l : List ℕ). l ++ copies_of 1 (pixel_of depth row n)) (columns_once depth row n)
    ∙ ap (λ (l : List ℕ). take (n * depth) row ++ l) (append-nil (pixel_of depth row n))
    ∙ sym (take-add (n * depth) depth row) ∙ ap (λ (k : ℕ). take k row) size ∙ ap (λ (k : ℕ). take (k * depth) row) (sym more)

-- a row whose pixels stand once is the row
pub unchanged_row : {across : ℕ} (s : Shape) (row : List ℕ) → across ≡ 1 → length row ≡ row_length s → row ≡ enlarged_row across s row
unchanged_row s row once count =
    sym (ap (λ (k : ℕ). enlarged_row k s row) once ∙ columns_once s.depth row s.width ∙ take_all (s.width * s.depth) row (omega (arith, count)))
