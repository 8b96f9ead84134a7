-- The head and the rows of a tiled image, and what a tiler has still to give.
use Rattle.pnm_repeat_tools.proofs.Words.{◌≡◌, ◌⊎◌, inl, inr, ℕ, ◌*◌, ◌%◌, ◌<◌, ◌≤◌, Bool, false, List, [], map, length, slice_index_or, ◌==◌, if◌then◌else◌}
use Rattle.pnm_repeat_tools.proofs.Words.{OnOk, IfOk, Result, Ok, Err, sym, ap, ap₂, refl, ◌∙◌, arith, min, zero, suc, ◌+◌, ◌-◌, ◌/◌, ◌++◌, take, drop, suc-mul}
use Rattle.pnm_repeat_tools.proofs.Words.{zero-mul, mul-le-mul, mul-le-mul_right, lt_of_mul-lt-mul_right, get_or, All, subst, range_with_len, flat_map, ne_eqb}
use Rattle.pnm_repeat_tools.proofs.Words.{cases_eq, cases_lt, Shape, HeadValue, head_value, row_length, is_too_large, ToolFault, OutOfOrder, Tile}
use Rattle.pnm_repeat_tools.proofs.Words.{within_limits, Tiled, tiled_due, tiled, AreWithin, IsTiling, row_of_tiles, shown_row, HasTiles, tiled_head}
use Rattle.pnm_repeat_tools.proofs.Words.{tiled_head_value, tiled_row, tiled_at_end, small_row, mod_self, mod-eq_of_lt, mod-lt, div-add-mod}
use Rattle.pnm_repeat_tools.proofs.Words.{add-mul-mod_self_left, zero-mod, take_at, take_all, get_or-map, length-map, length-append, length-take}
use Rattle.pnm_repeat_tools.proofs.Words.{length-take-le, length-drop, drop-append-le, drop-drop, get_or-take, append_assoc, take-take, take-add, pixel_of}
use Rattle.pnm_repeat_tools.proofs.Words.{pieces_alike_from, pieces_in_parts, length_of_equals, All-take, All-map, All-drop, All-append, range_alike}
use Rattle.pnm_repeat_tools.proofs.Words.{MAX_ROW_LENGTH}
use Rattle.pnm_tools.specs.Tools.{result_head, row_answer}

-- ---- the head, and what is answered before the end

-- the head of a tiled image is made by its own rule
head_of_tile : (across down : ℕ) (head : HeadValue) → result_head (Tile across down) head ≡ tiled_head across down head
unfolding result_head
head_of_tile across down head = refl

-- a tiler answers no row before the image has ended
pub row_of_tile : (across down : ℕ) (s : Shape) (y : ℕ) (row : List ℕ) → row_answer (Tile across down) s y row ≡ []
unfolding row_answer
row_of_tile across down s y row = refl

-- the head, where it was seen whether there are no rows
abbrev tiled_by : ℕ → ℕ → HeadValue → Bool → Result HeadValue ToolFault
tiled_by across down head b = if b then Err OutOfOrder else within_limits (tiled_head_value across down head)

-- an image without rows is refused
pub tiled_without_rows : (across down : ℕ) (head : HeadValue) → head.shape.height ≡ 0 → result_head (Tile across down) head ≡ Err OutOfOrder
tiled_without_rows across down head e = head_of_tile across down head ∙ ap (λ (n : ℕ). tiled_by across down head (n == 0)) e

-- the head of an image that has rows, from its parts
pub tiled_head_made : (across down : ℕ) (head : HeadValue) {s : Shape} {t : List ℕ} → s ≡ head.shape → t ≡ head.tuple_type → (s.height ≡ 0 → ⊥)
    → result_head (Tile across down) head ≡ within_limits (head_value (record s { width = across; height = down }) t)
tiled_head_made across down head {s} {t} shape type some =
    let height : (head.shape.height == 0) ≡ false = ne_eqb head.shape.height 0 (λ e. some (ap (λ (z : Shape). z.height) shape ∙ e)) in
    let whole : tiled_head_value across down head ≡ head_value (record s { width = across; height = down }) t =
    ap (λ (z : Shape). head_value (record z { width = across; height = down }) head.tuple_type) (sym shape)
    ∙ ap (head_value (record s { width = across; height = down })) (sym type) in
    head_of_tile across down head ∙ ap (tiled_by across down head) height ∙ ap within_limits whole

-- a row of the result is within the limits where its head is made
pub tiled_row_small : (across down : ℕ) {s t : Shape} (x : HeadValue) (r : Result HeadValue ToolFault) → s ≡ t
    → x.shape ≡ record s { width = across; height = down } → IfOk r (λ made. (made ≡ x) × (is_too_large x.shape ≡ false))
    → OnOk r (across * t.depth ≤ MAX_ROW_LENGTH)
tiled_row_small across down {t} x (Ok made) same shape h =
    let small : row_length x.shape ≤ MAX_ROW_LENGTH = small_row x.shape h.1 in
    let width : x.shape.width ≡ across = ap (λ (z : Shape). z.width) shape in
    let depth : x.shape.depth ≡ t.depth = ap (λ (z : Shape). z.depth) (shape) ∙ ap (λ (z : Shape). z.depth) same in
    omega (arith, small, ap (λ (n : ℕ). n * x.shape.depth) width, ap (λ (n : ℕ). across * n) depth)
tiled_row_small across down x (Err fault) same shape h = tt

-- nothing is due before the image has ended
pub none_due : (w : Tiled) → w.left ≡ 0 → tiled_due w ≡ []
none_due w e = ap (λ (n : ℕ). map (row_of_tiles w.width w.image_width w.depth w.rows) (range_with_len (w.height - w.left) n)) e

-- an image whose tiled head is made has rows
pub tiled_has_rows : (across down : ℕ) (head : HeadValue) {made : HeadValue} → result_head (Tile across down) head ≡ Ok made
    → (head.shape.height ≡ 0) ⊎ (head.shape.height ≡ 0 → ⊥) → 0 < head.shape.height
tiled_has_rows across down head e (inl none) = let refused = tiled_without_rows across down head none in absurd cc
tiled_has_rows across down head e (inr some) = omega arith

-- ---- lists made number by number

-- ---- pixels of a row

-- so many pixels from one on are the samples from its first on
pub pixels_are_samples : {X : Type 0} (depth : ℕ) (row : List X) (a n : ℕ)
    → flat_map (pixel_of depth row) (range_with_len a n) ≡ take (n * depth) (drop (a * depth) row)
pixels_are_samples depth row a zero = ap (λ (k : ℕ). take k (drop (a * depth) row)) (sym (zero-mul depth))
pixels_are_samples {X = X} depth row a (suc n) =
    let rest : List X = drop (a * depth) row in
    let each : suc n * depth ≡ depth + n * depth = omega (arith, suc-mul n depth) in
    let more : a + 1 ≡ suc a = omega arith in
    let next : (a + 1) * depth ≡ depth + a * depth = ap (λ (k : ℕ). k * depth) more ∙ omega (arith, suc-mul a depth) in
    let on : depth + a * depth ≡ a * depth + depth = omega arith in
    ap (λ (l : List X). take depth rest ++ l) (pixels_are_samples depth row (a + 1) n ∙ ap (λ (k : ℕ). take (n * depth) (drop k row)) (next ∙ on)
    ∙ ap (take (n * depth)) (sym (drop-drop depth (a * depth) row)))
    ∙ sym (take-add depth (n * depth) rest) ∙ ap (λ (k : ℕ). take k rest) (sym each)

-- ---- the row side by side

-- within its width it is a prefix of the row
pub tiled_prefix : {X : Type 0} (n width depth : ℕ) (row : List X) → n ≤ width → tiled_row n width depth row ≡ take (n * depth) row
tiled_prefix n width depth row le =
    pieces_alike_from (λ x. pixel_of depth row (x % width)) (pixel_of depth row) 0 0 n (λ i lt. let below : 0 + i < width = omega arith in
    ap (pixel_of depth row) (mod-eq_of_lt below))
    ∙ pixels_are_samples depth row 0 n ∙ ap (λ (k : ℕ). take (n * depth) (drop k row)) (zero-mul depth)

-- each pixel of a row has all its samples
pixel_is_whole : {X : Type 0} (width depth : ℕ) (row : List X) (x : ℕ) → x < width → length row ≡ width * depth → length (pixel_of depth row x) ≡ depth
pixel_is_whole width depth row x lt long =
    let below : suc x * depth ≤ width * depth = mul-le-mul {n₁ = suc x} {m₁ = depth} {n₂ = width} {m₂ = depth} (omega arith) (omega arith) in
    length-take-le depth (drop (x * depth) row) (omega (arith, length-drop (x * depth) row, below, suc-mul x depth))

-- each pixel has all its samples
pub length_tiled : {X : Type 0} (n width depth : ℕ) (row : List X) → 0 < width → length row ≡ width * depth → length (tiled_row n width depth row) ≡ n * depth
length_tiled n width depth row some long =
    length_of_equals (λ x. pixel_of depth row (x % width)) depth 0 n (λ x. pixel_is_whole width depth row (x % width) (mod-lt x some) long)

-- behind whole copies columns begin again
same_column : (k i width : ℕ) → k % width ≡ 0 → (k + i) % width ≡ i % width
same_column k i width whole =
    let copies : i + width * (k / width) ≡ k + i = omega (arith, div-add-mod k width) in
    ap (λ (n : ℕ). n % width) (sym copies) ∙ add-mul-mod_self_left i width (k / width)

-- behind whole copies the row goes on as it begins
pub tiled_more : {X : Type 0} (k j width depth : ℕ) (row : List X) → k % width ≡ 0 → tiled_row (k + j) width depth row ≡ tiled_row k width depth row
    ++ tiled_row j width depth row
tiled_more {X = X} k j width depth row whole =
    let f : ℕ → List X = λ x. pixel_of depth row (x % width) in
    pieces_in_parts f 0 k j ∙ ap (λ (l : List X). tiled_row k width depth row ++ l) (pieces_alike_from f f (0 + k) 0 j (λ i lt.
    let at : (0 + k) + i ≡ k + i = omega arith in
    let to : i ≡ 0 + i = omega arith in
    ap (pixel_of depth row) (ap (λ (n : ℕ). n % width) at ∙ same_column k i width whole ∙ ap (λ (n : ℕ). n % width) to)))

-- a prefix of the prefix
pub tiled_shorter : {X : Type 0} (k j width depth : ℕ) (row : List X) → 0 < width → length row ≡ width * depth → j ≤ k
    → take (j * depth) (tiled_row k width depth row) ≡ tiled_row j width depth row
tiled_shorter {X = X} k j width depth row some long le =
    let f : ℕ → List X = λ x. pixel_of depth row (x % width) in
    let parts : k ≡ j + (k - j) = omega arith in
    ap (λ (n : ℕ). take (j * depth) (tiled_row n width depth row)) parts ∙ ap (take (j * depth)) (pieces_in_parts f 0 j (k - j))
    ∙ take_at (tiled_row j width depth row) (flat_map f (range_with_len (0 + j) (k - j))) (j * depth) (length_tiled j width depth row some long)

-- ---- what stands of it

-- so many columns stand, all of them or whole copies
pub record IsTiledPrefix {X : Type 0} (across width depth : ℕ) (row items : List X) : Type 0 where
  pub count : ℕ
  pub is : items ≡ tiled_row count width depth row
  pub within : count ≤ across
  pub whole : count < across → count % width ≡ 0
  pub some : 0 < across → 0 < count

-- the fewer pixels have the fewer samples
min_scaled : (a b d : ℕ) → (b < a) ⊎ (a ≤ b) → min (a * d) (b * d) ≡ min a b * d
min_scaled a b d (inr le) =
    let below : a * d ≤ b * d = mul-le-mul_right d le in
    let least : min a b ≡ a = omega arith in
    omega (arith, below, ap (λ (n : ℕ). n * d) least)
min_scaled a b d (inl lt) =
    let below : b * d ≤ a * d = mul-le-mul_right {m = b} {n = a} d (omega arith) in
    let least : min a b ≡ b = omega arith in
    omega (arith, below, ap (λ (n : ℕ). n * d) least)

-- the prefix of the row, or all of it, where it is the narrower one
pub prefix_begins : {X : Type 0} (across width depth n : ℕ) (row items : List X) → 0 < width → length row ≡ width * depth
    → n ≡ min (across * depth) (length row) → items ≡ take n row → IsTiledPrefix across width depth row items
prefix_begins across width depth n row items some long least made = record {
  count = min across width;
  is = made ∙ ap (λ (k : ℕ). take k row) (least ∙ ap (min (across * depth)) long ∙ min_scaled across width depth (cases_lt width across))
      ∙ sym (tiled_prefix (min across width) width depth row (omega arith));
  within = omega arith;
  whole = λ lt. let all : min across width ≡ width = omega arith in ap (λ (k : ℕ). k % width) all ∙ mod_self width;
  some = λ there. omega arith;
}

-- where a sample is missing a pixel has samples
depth_there : (across depth n : ℕ) → n < across * depth → (depth ≡ 0) ⊎ (depth ≡ 0 → ⊥) → 0 < depth
depth_there across depth n lt (inl none) = absurd (omega (arith, ap (λ (d : ℕ). across * d) none))
depth_there across depth n lt (inr some) = omega arith

module _ {X : Type 0} {across width depth : ℕ} {row items : List X} where
  -- as many columns again as stand, or as are missing
  pub prefix_grows : {more : ℕ} {new : List X} → 0 < width → length row ≡ width * depth → IsTiledPrefix across width depth row items
      → length items < across * depth → more ≡ min (length items) (across * depth - length items) → new ≡ items ++ take more items
      → IsTiledPrefix across width depth row new
  prefix_grows {more} some long prefix lt least made =
      let k : ℕ = prefix.count in
      let size : length items ≡ k * depth = ap length prefix.is ∙ length_tiled k width depth row some long in
      let fewer : k < across = lt_of_mul-lt-mul_right depth {m = k} {n = across} (omega arith) in
      let whole : k % width ≡ 0 = prefix.whole fewer in
      let parts : across ≡ k + (across - k) = omega arith in
      let rest : across * depth - k * depth ≡ (across - k) * depth = omega (arith, ap (λ (n : ℕ). n * depth) parts) in
      let j : ℕ = min k (across - k) in
      let samples : more ≡ j * depth = least ∙ ap (λ (n : ℕ). min n (across * depth - n)) size ∙ ap (min (k * depth)) rest
      ∙ min_scaled k (across - k) depth (cases_lt (across - k) k) in
      record {
        count = k + j;
        is = made ∙ ap (λ (l : List X). l ++ take more l) prefix.is
            ∙ ap (λ (n : ℕ). tiled_row k width depth row ++ take n (tiled_row k width depth row)) samples
            ∙ ap (λ (l : List X). tiled_row k width depth row ++ l) (tiled_shorter k j width depth row some long (omega arith))
            ∙ sym (tiled_more k j width depth row whole);
        within = omega arith;
        whole = λ less. let twice : k + j ≡ k + k = omega arith in ap (λ (n : ℕ). n % width) twice ∙ same_column k k width whole ∙ whole;
        some = λ there. omega arith;
      }

  -- there is something to copy
  pub prefix_stands : 0 < width → length row ≡ width * depth → IsTiledPrefix across width depth row items → length items < across * depth → 0 < length items
  prefix_stands some long prefix lt =
      let k : ℕ = prefix.count in
      let size : length items ≡ k * depth = ap length prefix.is ∙ length_tiled k width depth row some long in
      let fewer : k < across = lt_of_mul-lt-mul_right depth {m = k} {n = across} (omega arith) in
      let there : 0 < k = prefix.some (omega arith) in
      omega (arith, mul-le-mul_right {m = 1} {n = k} depth there, depth_there across depth (length items) lt (cases_eq depth 0))

  -- where all samples stand, all columns do
  pub prefix_is_all : 0 < width → length row ≡ width * depth → IsTiledPrefix across width depth row items → across * depth ≤ length items
      → items ≡ tiled_row across width depth row
  prefix_is_all some long prefix le =
      let k : ℕ = prefix.count in
      let size : length items ≡ k * depth = ap length prefix.is ∙ length_tiled k width depth row some long in
      let short : length (tiled_row across width depth row) ≤ k * depth = omega (arith, length_tiled across width depth row some long) in
      prefix.is ∙ sym (tiled_shorter across k width depth row some long prefix.within) ∙ take_all (k * depth) (tiled_row across width depth row) short

-- what is appended stands behind what stood behind a place
pub behind_more : {X : Type 0} (start more : ℕ) (items : List X) {new : List X} → start ≤ length items → new ≡ items ++ take more (drop start items)
    → drop start new ≡ drop start items ++ take more (drop start items)
behind_more start more items within is = ap (drop start) is ∙ drop-append-le start items (take more (drop start items)) within

-- less is missing behind the place then
pub longer_piece : {X : Type 0} (start : ℕ) {more : ℕ} (filled : ℕ) (items : List X) {new : List X} → start ≤ length items → 0 < length (drop start items)
    → length (drop start items) < filled → more ≡ min (length (drop start items)) (filled - length (drop start items))
    → new ≡ items ++ take more (drop start items) → start + filled - length new < start + filled - length items
longer_piece start {more} filled items within some short least made =
    omega (
      arith,
      within,
      some,
      short,
      least,
      ap length made,
      length-append items (take more (drop start items)),
      length-take more (drop start items),
      length-drop start items,
    )

-- ---- whole rows, and a part of one

-- so many whole rows of an image
many_rows : (k width : ℕ) → (k * width) % width ≡ 0
many_rows k width =
    let copies : 0 + width * k ≡ k * width = omega arith in
    ap (λ (n : ℕ). n % width) (sym copies) ∙ add-mul-mod_self_left 0 width k ∙ zero-mod width

-- one row more, behind what stands
pub row_more : (each k : ℕ) (old from : List ℕ) {before now : List ℕ} → each ≤ length from → before ≡ old ++ tiled_row (k * each) each 1 (take each from)
    → now ≡ before ++ take each from → now ≡ old ++ tiled_row ((k + 1) * each) each 1 (take each from)
row_more each k old from long was is =
    let row : List ℕ = take each from in
    let next : k * each + each ≡ (k + 1) * each = omega arith in
    let whole : each * 1 ≡ each = omega arith in
    let all : tiled_row each each 1 row ≡ row = tiled_prefix each each 1 row (omega arith) ∙ ap (λ (n : ℕ). take n row) whole
    ∙ take_all each row (omega (arith, length-take each from)) in
    is ∙ ap (λ (l : List ℕ). l ++ row) was ∙ append_assoc old (tiled_row (k * each) each 1 row) row
    ∙ ap (λ (l : List ℕ). old ++ (tiled_row (k * each) each 1 row ++ l)) (sym all)
    ∙ ap (λ (l : List ℕ). old ++ l) (sym (tiled_more (k * each) each each 1 row (many_rows k each)))
    ∙ ap (λ (m : ℕ). old ++ tiled_row m each 1 row) next

-- whole rows and a part of one are all columns
pub rows_and_part : (across each : ℕ) {k n : ℕ} (old from : List ℕ) {before now : List ℕ} → 0 < each
    → before ≡ old ++ tiled_row (k * each) each 1 (take each from) → now ≡ before ++ take n from → k ≡ across / each → n ≡ across % each
    → now ≡ old ++ tiled_row across each 1 (take each from)
rows_and_part across each {k} {n} old from some was is rows part =
    let row : List ℕ = take each from in
    let rest : ℕ = across % each in
    let fewer : rest < each = mod-lt across some in
    let one : rest * 1 ≡ rest = omega arith in
    let cut : take n from ≡ take rest row = ap (λ (m : ℕ). take m from) part ∙ sym (take-take rest each from (omega arith)) in
    let again : take rest row ≡ tiled_row rest each 1 row = sym (tiled_prefix rest each 1 row (omega arith) ∙ ap (λ (m : ℕ). take m row) one) in
    let all : k * each + rest ≡ across = omega (arith, div-add-mod across each, ap (λ (m : ℕ). m * each) rows) in
    is ∙ ap (λ (l : List ℕ). l ++ take n from) was ∙ append_assoc old (tiled_row (k * each) each 1 row) (take n from)
    ∙ ap (λ (l : List ℕ). old ++ (tiled_row (k * each) each 1 row ++ l)) (cut ∙ again)
    ∙ ap (λ (l : List ℕ). old ++ l) (sym (tiled_more (k * each) rest each 1 row (many_rows k each)))
    ∙ ap (λ (m : ℕ). old ++ tiled_row m each 1 row) all

-- ---- samples of the result

within_pieces : (P : ℕ → Type 0) (width depth : ℕ) (row : List ℕ) (a n : ℕ) → All P row
    → All P (flat_map (λ x. pixel_of depth row (x % width)) (range_with_len a n))
within_pieces P width depth row a zero h = All-take P 0 row h
within_pieces P width depth row a (suc n) h =
    All-append P (pixel_of depth row (a % width)) (flat_map (λ x. pixel_of depth row (x % width)) (range_with_len (a + 1) n))
    (All-take P depth (drop (a % width * depth) row) (All-drop P (a % width * depth) row h)) (within_pieces P width depth row (a + 1) n h)

-- the samples of the result are within what those of the row are
pub tiled_within : (maxval across width depth : ℕ) {held row made : List ℕ} → made ≡ tiled_row across width depth held → held ≡ row
    → All (λ sample. sample ≤ maxval) row → All (λ sample. sample ≤ maxval) made
tiled_within maxval across width depth {row} is same h =
    let P : ℕ → Type 0 = λ sample. sample ≤ maxval in
    subst (All P) (sym (is ∙ ap (tiled_row across width depth) same)) (within_pieces P width depth row 0 across h)

-- ---- the rows that are due

-- among the rows that are kept each row of the result finds its own
kept_row : (down : ℕ) {height : ℕ} (y : ℕ) {rows : List (List ℕ)} (come : List (List ℕ)) → rows ≡ take down come → length come ≡ height → y < down
    → (down < height) ⊎ (height ≤ down) → slice_index_or rows (y % length rows) [] ≡ slice_index_or come (y % height) []
kept_row down {height} y {rows} come kept count lt (inl below) =
    let long : length rows ≡ down = ap length kept ∙ length-take-le down come (omega arith) in
    let fits : y < height = omega arith in
    ap (λ (n : ℕ). get_or rows (y % n) []) long ∙ ap (λ (n : ℕ). get_or rows n []) (mod-eq_of_lt lt) ∙ ap (λ (l : List (List ℕ)). get_or l y []) kept
    ∙ get_or-take down come y [] lt ∙ ap (λ (n : ℕ). get_or come n []) (sym (mod-eq_of_lt fits))
kept_row down y {rows} come kept count lt (inr all) =
    let same : rows ≡ come = kept ∙ take_all down come (omega arith) in
    ap (λ (l : List (List ℕ)). get_or l (y % length l) []) same ∙ ap (λ (n : ℕ). get_or come (y % n) []) count

-- what is shown of a row is tiled as the row is
shown_tiled : (across : ℕ) (s : Shape) (row : List ℕ) → length row ≡ row_length s → (across < s.width) ⊎ (s.width ≤ across)
    → tiled_row across (min across s.width) s.depth (shown_row across s row) ≡ tiled_row across s.width s.depth row
shown_tiled across s row long (inl narrow) =
    let least : min across s.width ≡ across = omega arith in
    let prefix = take (across * s.depth) row in
    let all : length prefix ≤ across * s.depth = omega (arith, length-take (across * s.depth) row) in
    ap (λ (n : ℕ). tiled_row across n s.depth (take (n * s.depth) row)) least ∙ tiled_prefix across across s.depth prefix (omega arith)
    ∙ take_all (across * s.depth) prefix all ∙ sym (tiled_prefix across s.width s.depth row (omega arith))
shown_tiled across s row long (inr wide) =
    let least : min across s.width ≡ s.width = omega arith in
    ap (λ (n : ℕ). tiled_row across n s.depth (take (n * s.depth) row)) least
    ∙ ap (tiled_row across s.width s.depth) (take_all (s.width * s.depth) row (omega arith))

-- a row that is kept is what is shown of the row that came
shown_at : (across : ℕ) (s : Shape) (rows : List (List ℕ)) (k : ℕ) → k < length rows → slice_index_or (map (shown_row across s) rows) k [] ≡ shown_row across s
    (slice_index_or rows k [])
shown_at across s rows k lt = get_or-map (shown_row across s) rows k [] [] lt

-- the rows that are due once the image has ended
pub due_at_end : (across down : ℕ) (s : Shape) {rows : List (List ℕ)} (come : List (List ℕ)) → rows ≡ map (shown_row across s) (take down come)
    → length come ≡ s.height → 0 < s.height → All (λ row. length row ≡ row_length s) come
    → tiled_due (tiled across down (min across s.width) s.depth rows down) ≡ tiled_at_end across down s come
due_at_end across down s {rows} come kept count some lengths =
    let shown = take down come in
    let many : length rows ≡ length shown = ap length kept ∙ length-map shown (shown_row across s) in
    let from : down - down ≡ 0 = omega arith in
    ap (λ (n : ℕ). map (row_of_tiles across (min across s.width) s.depth rows) (range_with_len n down)) from
    ∙ range_alike (λ y. tiled_row across (min across s.width) s.depth (get_or rows (y % length rows) []))
    (λ y. tiled_row across s.width s.depth (get_or come (y % s.height) [])) 0 down (λ y lt.
    let there : 0 < length shown = omega (arith, length-take down come) in
    let row = get_or come (y % s.height) [] in
    let below : y % length shown < length shown = mod-lt y there in
    let within : y % s.height < length come = omega (arith, mod-lt y some) in
    let is : get_or rows (y % length rows) [] ≡ shown_row across s row =
    ap₂ (λ (l : List (List ℕ)) (n : ℕ). get_or l (y % n) []) kept many ∙ shown_at across s shown (y % length shown) below
    ∙ ap (shown_row across s) (kept_row down y come refl count (omega arith) (cases_lt down s.height)) in
    ap (tiled_row across (min across s.width) s.depth) is ∙ shown_tiled across s row (lengths (y % s.height) [] within) (cases_lt across s.width))

-- what is shown of a row has its columns
length_shown : (across : ℕ) (s : Shape) (row : List ℕ) → length row ≡ row_length s → length (shown_row across s row) ≡ min across s.width * s.depth
length_shown across s row long =
    let fewer : min across s.width * s.depth ≤ s.width * s.depth = mul-le-mul_right {m = min across s.width} {n = s.width} s.depth (omega arith) in
    length-take-le (min across s.width * s.depth) row (omega arith)

-- once an image that has rows has ended there are rows to give
pub tiles_at_end : {w : Tiled} {s : Shape} {come : List (List ℕ)} → IsTiling w s come → length come ≡ s.height → 0 < s.height → 0 < w.width → 0 < w.height
    → HasTiles (tiled w.width w.height (min w.width s.width) s.depth w.rows w.height)
tiles_at_end {w} {s} {come} ready count some wide wanted =
    let shown = take w.height come in
    let P : List ℕ → Type 0 = λ row. length row ≡ min w.width s.width * s.depth in
    let low = ready.limits.width_low in
    record {
      some = omega (arith, ap length ready.rows, length-map shown (shown_row w.width s), length-take w.height come);
      lengths = subst (All P) (sym ready.rows) (All-map P (shown_row w.width s) shown
          (λ k d lt. length_shown w.width s (get_or shown k d) (All-take (λ row. length row ≡ row_length s) w.height come ready.lengths k d lt)));
      width = omega arith;
      narrow = omega arith;
      planes = ready.limits.depth_low;
      filled = ready.filled;
    }

-- those rows are within the maxval
pub rows_within_at_end : {w : Tiled} {s : Shape} {come : List (List ℕ)} → IsTiling w s come → AreWithin s.maxval w.rows
rows_within_at_end {w} {s} {come} ready =
    let shown = take w.height come in
    let P : ℕ → Type 0 = λ sample. sample ≤ s.maxval in
    subst (AreWithin s.maxval) (sym ready.rows) (All-map (All P) (shown_row w.width s) shown
    (λ k d lt. All-take P (min w.width s.width * s.depth) (get_or shown k d) (All-take (All P) w.height come ready.range k d lt)))

-- what is shown of the rows that come has its columns
pub lengths_shown : {w : Tiled} {s : Shape} {come : List (List ℕ)} → IsTiling w s come → All (λ row. length row ≡ min w.width s.width * s.depth) w.rows
lengths_shown {w} {s} {come} ready =
    let shown = take w.height come in
    let P : List ℕ → Type 0 = λ row. length row ≡ min w.width s.width * s.depth in
    subst (All P) (sym ready.rows) (All-map P (shown_row w.width s) shown
    (λ k d lt. length_shown w.width s (get_or shown k d) (All-take (λ row. length row ≡ row_length s) w.height come ready.lengths k d lt)))
