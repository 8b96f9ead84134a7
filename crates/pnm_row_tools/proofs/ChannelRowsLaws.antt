-- Planes that are picked of rows that are held one after another.
use Rattle.pnm_row_tools.proofs.Words.{◌≡◌, ℕ, zero, suc, ◌+◌, ◌*◌, ◌<◌, ◌≤◌, List, [], ◌∷◌, ◌++◌, length, map, take, drop, get_or, slice_index, All, refl, sym}
use Rattle.pnm_row_tools.proofs.Words.{ap, ap₂, ◌∙◌, arith, add-mul, mul_assoc, mul-le-mul, set, slice_index_or, suc-mul, zero-mul, flat_map, range_with_len}
use Rattle.pnm_row_tools.proofs.Words.{get_or-drop, get_or-take, get_or_default, length-map, take_all, take_at, take_more_set, map-range_with_len_more}
use Rattle.pnm_row_tools.proofs.Words.{All-head, All-map, All-tail, Shape, row_length, AreRowsWithin, cut_rows, rows_answer, Picks, picked_row, picked_samples}
use Rattle.pnm_row_tools.proofs.Words.{picked_or, Channel, picked_within, plane_there, length_of_equals, pieces_alike, pieces_alike_from, pieces_in_parts}
use Rattle.pnm_row_tools.proofs.Words.{row_of_channel, changed, as_wide}
use Rattle.pnm_row_tools.proofs.EachRowLaws.{cut_again, each_answered}

-- ---- one plane by itself

-- the samples of the pixels that have passed stand in the buffer
abbrev pub HasPlane : {X : Type 0} → ℕ → ℕ → List X → ℕ → List X → Type 0
HasPlane {X = X} number depth samples i buffer =
    (past : X) → take i buffer ≡ map (λ x. slice_index_or samples (x * depth + number) past) (range_with_len 0 i)

pub one_pixel_more : {X : Type 0} (number depth : ℕ) (samples : List X) (i : ℕ) (buffer : List X) {v : X} → i < length buffer
    → v ≡ slice_index_or samples (i * depth + number) v → i * depth + number < length samples → HasPlane number depth samples i buffer
    → HasPlane number depth samples (i + 1) (set buffer i v)
one_pixel_more {X = X} number depth samples i buffer {v} below is inside known past =
    let f : ℕ → X = λ x. slice_index_or samples (x * depth + number) past in
    take_more_set buffer i v below ∙ ap (λ (l : List X). l ++ v ∷ []) (known past)
    ∙ ap (λ (y : X). map f (range_with_len 0 i) ++ y ∷ []) (is ∙ get_or_default samples (i * depth + number) v past inside)
    ∙ sym (map-range_with_len_more f 0 i i (omega arith))

-- all of them do
pub all_pixels : {X : Type 0} (number depth : ℕ) (samples : List X) (i many : ℕ) (buffer : List X) → i ≡ many → length buffer ≡ many
    → HasPlane number depth samples i buffer → (past : X) → buffer ≡ map (λ x. slice_index_or samples (x * depth + number) past) (range_with_len 0 many)
all_pixels {X = X} number depth samples i many buffer all long known past =
    sym (take_all i buffer (omega (arith, all, long))) ∙ known past
    ∙ ap (λ (n : ℕ). map (λ x. slice_index_or samples (x * depth + number) past) (range_with_len 0 n)) all

-- a sample of a plane lies in the samples
pub plane_lies : (depth number x many : ℕ) {long : ℕ} → number < depth → long ≡ many * depth → x < many → x * depth + number < long
plane_lies depth number x many below is lt =
    let within = mul-le-mul {n₁ = x + 1} {m₁ = depth} {n₂ = many} {m₂ = depth} (omega (arith, lt)) (omega arith) in
    omega (arith, within, is, below)

only_number : (numbers : List ℕ) {n : ℕ} → length numbers ≡ 1 → n ≡ slice_index numbers 0 → numbers ≡ n ∷ []
only_number [] one is = absurd (omega (arith, one))
only_number (number ∷ []) one is = ap (λ (k : ℕ). k ∷ []) (sym is)
only_number (number ∷ next ∷ numbers) one is = absurd (omega (arith, one))

single_samples : {X : Type 0} (f : ℕ → X) (a n : ℕ) → map f (range_with_len a n) ≡ flat_map (λ x. f x ∷ []) (range_with_len a n)
single_samples f a zero = refl
single_samples {X = X} f a (suc n) = ap (λ (l : List X). f a ∷ l) (single_samples f (a + 1) n)

-- so they are what is picked, which is given back
pub plane_picked : {X : Type 0} (past : X) (numbers : List ℕ) {n pixels len : ℕ} (s : Shape) (samples : List X) {buffer : List X} (items : List X)
    → length numbers ≡ 1 → n ≡ slice_index numbers 0 → length buffer ≡ len → len ≡ pixels → buffer ≡ map (λ x. slice_index_or samples (x * s.depth + n) past)
    (range_with_len 0 pixels) → take len (buffer ++ drop (length buffer) items) ≡ picked_or past numbers (as_wide pixels s) samples
plane_picked {X = X} past numbers {n} {pixels} {len} s samples {buffer} items one is long all known =
    let f : ℕ → X = λ x. slice_index_or samples (x * s.depth + n) past in
    take_at buffer (drop (length buffer) items) len long ∙ known ∙ single_samples f 0 pixels
    ∙ ap (λ (l : List ℕ). picked_or past l (as_wide pixels s) samples) (sym (only_number numbers one is))

-- ---- rows of pixels

-- what is made of numbers of which something holds
alike_where : (P : ℕ → Type 0) (f g : ℕ → ℕ) (xs : List ℕ) → All P xs → ((x : ℕ) → P x → f x ≡ g x) → map f xs ≡ map g xs
alike_where P f g [] all same = refl
alike_where P f g (x ∷ xs) all same =
    ap₂ (λ (y : ℕ) (ys : List ℕ). y ∷ ys) (same x (All-head P x xs all)) (alike_where P f g xs (All-tail P x xs all) same)

-- the planes of a pixel
abbrev planes_at : List ℕ → Shape → List ℕ → ℕ → List ℕ
planes_at numbers s samples x = map (λ number. slice_index samples (x * s.depth + number)) numbers

module _ (numbers : List ℕ) (s : Shape) where
  -- the pixels of the first row
  first_row : {each : ℕ} (samples : List ℕ) → All (λ number. number < s.depth) numbers → each ≡ row_length s → flat_map (planes_at numbers s samples)
      (range_with_len 0 s.width) ≡ picked_samples numbers s (take each samples)
  first_row {each} samples below is =
      pieces_alike (planes_at numbers s samples) (planes_at numbers s (take each samples)) 0 s.width (λ x column.
      alike_where (λ number. number < s.depth) (λ number. slice_index samples (x * s.depth + number))
      (λ number. slice_index (take each samples) (x * s.depth + number)) numbers below (λ number plane.
      sym (get_or-take each samples (x * s.depth + number) 0 (plane_there s.width s.depth x number each (omega (arith, column)) plane is))))

  -- the pixels of the others
  other_rows : (count : ℕ) {each : ℕ} (samples : List ℕ) → each ≡ row_length s → flat_map (planes_at numbers s samples)
      (range_with_len s.width count) ≡ picked_samples numbers (as_wide count s) (drop each samples)
  other_rows count {each} samples is =
      pieces_alike_from (planes_at numbers s samples) (planes_at numbers s (drop each samples)) s.width 0 count (λ i lt.
      alike_where (λ number. number ≤ number) (λ number. slice_index samples ((s.width + i) * s.depth + number))
      (λ number. slice_index (drop each samples) (i * s.depth + number)) numbers (λ k d below. omega arith) (λ number any.
      let place : (s.width + i) * s.depth + number ≡ each + (i * s.depth + number) = omega (arith, add-mul s.width i s.depth, is) in
      ap (λ (n : ℕ). get_or samples n 0) place ∙ sym (get_or-drop each samples (i * s.depth + number) 0))
      ∙ (let from : i ≡ 0 + i = omega arith in ap (planes_at numbers s (drop each samples)) from))

  -- the planes of all pixels are those of each row, one after another
  pub rows_picked : (count : ℕ) {each : ℕ} (samples : List ℕ) → All (λ number. number < s.depth) numbers → each ≡ row_length s
      → picked_samples numbers (as_wide (count * s.width) s) samples ≡ changed (picked_samples numbers s) count each samples
  rows_picked zero samples below is = ap (λ (n : ℕ). picked_samples numbers (as_wide n s) samples) (zero-mul s.width)
  rows_picked (suc count) {each} samples below is =
      let f : ℕ → List ℕ = planes_at numbers s samples in
      let all : suc count * s.width ≡ s.width + count * s.width = omega (arith, suc-mul count s.width) in
      let start : 0 + s.width ≡ s.width = omega arith in
      ap (λ (n : ℕ). flat_map f (range_with_len 0 n)) all ∙ pieces_in_parts f 0 s.width (count * s.width)
      ∙ ap (λ (from : ℕ). flat_map f (range_with_len 0 s.width) ++ flat_map f (range_with_len from (count * s.width))) start
      ∙ ap (λ (l : List ℕ). l ++ flat_map f (range_with_len s.width (count * s.width))) (first_row samples below is)
      ∙ ap (λ (l : List ℕ). picked_samples numbers s (take each samples) ++ l)
      (other_rows (count * s.width) samples is ∙ rows_picked count (drop each samples) below is)

  -- a row of them has so many samples
  picked_long : (row : List ℕ) → length (picked_samples numbers s row) ≡ s.width * length numbers
  picked_long row =
      length_of_equals (planes_at numbers s row) (length numbers) 0 s.width (λ x. length-map numbers (λ number. slice_index row (x * s.depth + number)))

  -- all of them are as many as their rows' samples
  pub all_picked_long : (count : ℕ) {size : ℕ} (samples : List ℕ) {made : List ℕ} → size ≡ s.width * length numbers
      → made ≡ picked_samples numbers (as_wide (count * s.width) s) samples → length made ≡ count * size
  all_picked_long count samples is made_is =
      ap length made_is ∙ Rattle.pnm_row_tools.proofs.ChannelRowsLaws.picked_long numbers (as_wide (count * s.width) s) samples
      ∙ omega (arith, mul_assoc count s.width (length numbers), ap (λ (n : ℕ). count * n) is)

  -- cut again they are the planes of each row
  pub picked_cut : (count : ℕ) (samples : List ℕ) {made : List ℕ} {rows : List (List ℕ)} → All (λ number. number < s.depth) numbers
      → length samples ≡ count * row_length s → cut_rows count (row_length s) samples ≡ rows
      → made ≡ picked_samples numbers (as_wide (count * s.width) s) samples
      → (length made ≡ count * (s.width * length numbers)) × (cut_rows count (s.width * length numbers) made ≡ map (picked_samples numbers s) rows)
  picked_cut count samples below long cut is =
      let f : List ℕ → List ℕ = picked_samples numbers s in
      let size : ℕ = s.width * length numbers in (
        all_picked_long count samples refl is,
        ap (cut_rows count size) (is ∙ rows_picked count samples below refl)
            ∙ cut_again f (row_length s) size (λ row whole. picked_long row) count samples (omega (arith, long)) ∙ ap (map f) cut,
      )

  -- none of them is above the maxval
  pub picked_rows_within : (rows : List (List ℕ)) → AreRowsWithin s.maxval rows → AreRowsWithin s.maxval (map (picked_samples numbers s) rows)
  picked_rows_within rows within =
      All-map (λ (row : List ℕ). All (λ sample. sample ≤ s.maxval) row) (picked_samples numbers s) rows (λ k d lt.
      picked_within numbers s (get_or rows k d) (picked_samples numbers s (get_or rows k d)) refl (within k d lt))

-- they answer the rows
pub picked_answer : (planes : Picks) (s : Shape) (y : ℕ) (rows : List (List ℕ)) {made : List (List ℕ)} → made ≡ map (picked_row planes s) rows
    → rows_answer (Channel planes) s y rows ≡ made
picked_answer planes s y rows is =
    each_answered (Channel planes) s (picked_samples planes.numbers s) y rows (λ k row from to. row_of_channel planes s k row) ∙ sym is
