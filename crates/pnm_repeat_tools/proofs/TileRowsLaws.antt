-- Rows of an image that come together to be tiled, and rows of the result that are given together.
use Rattle.pnm_repeat_tools.proofs.Words.{◌≡◌, ℕ, zero, suc, ◌+◌, ◌-◌, ◌*◌, ◌%◌, ◌<◌, ◌≤◌, List, [], ◌∷◌, ◌++◌, length, map, take, drop, min, All, refl, sym}
use Rattle.pnm_repeat_tools.proofs.Words.{ap, ◌∙◌, arith, get_or, subst, suc-mul, zero-mul, AllByRecursion, flat_map, range_with_len, slice_range, take_all}
use Rattle.pnm_repeat_tools.proofs.Words.{take_at, take_min, take-append-le, take-take, map-append, drop_at, drop-drop, length-drop, length-map, append_assoc}
use Rattle.pnm_repeat_tools.proofs.Words.{length-append, length-take, All-append, All-from_recursion, All-map, get_or-map-range_with_len}
use Rattle.pnm_repeat_tools.proofs.Words.{length-map-range_with_len, mod-lt, take-append-add, Shape, row_length, IsRowOf, Tile, rows_answer, pixel_of}
use Rattle.pnm_repeat_tools.proofs.Words.{tiled_row, length_of_equals, map_in_parts, pieces_alike, pieces_in_parts, length-cut_rows, Tiled, IsTiling, AreWithin}
use Rattle.pnm_repeat_tools.proofs.Words.{tiled, tiled_due, shown_row, row_of_tiles, HasTiles, fronts_in, row_of_samples, cut_rows}
use Rattle.std.proofs.Common.{append-nil}
use Rattle.pnm_repeat_tools.proofs.TileRowLaws.{row_of_tile, length_tiled, tiled_within}
use Rattle.pnm_repeat_tools.proofs.CutRowsLaws.{lengths_of}

-- no row is answered before the image has ended
pub none_answer : (across down : ℕ) (s : Shape) (y : ℕ) (rows : List (List ℕ)) → rows_answer (Tile across down) s y rows ≡ []
none_answer across down s y [] = refl
none_answer across down s y (row ∷ rows) =
    ap (λ (l : List (List ℕ)). l ++ rows_answer (Tile across down) s (y + 1) rows) (row_of_tile across down s y row) ∙ none_answer across down s (y + 1) rows

-- rows of which some are kept
pub kept_rows : (across down : ℕ) {y count : ℕ} (s : Shape) {held new : List (List ℕ)} (before come rows : List (List ℕ)) → held ≡ map (shown_row across s)
    (take down before) → length before ≡ y → y < down → count ≡ min (down - y) (length rows) → held ≡ map (shown_row across s) (take down come)
    → new ≡ held ++ map (shown_row across s) (take count rows) → new ≡ map (shown_row across s) (take down (come ++ rows))
kept_rows across down {y} {count} s before come rows was many below most known is =
    let f : List ℕ → List ℕ = shown_row across s in
    let alike : length (take down come) ≡ length (take down before) = sym (length-map (take down come) f) ∙ ap length (sym known ∙ was)
    ∙ length-map (take down before) f in
    let few : length come ≡ y = omega (arith, alike, length-take down come, length-take down before) in
    let all : down ≡ length come + (down - y) = omega arith in
    let first : take count rows ≡ take (down - y) rows = ap (λ (n : ℕ). take n rows) most ∙ take_min (down - y) rows in
    is ∙ ap (λ (l : List (List ℕ)). l ++ map f (take count rows)) (known ∙ ap (map f) (take_all down come (omega arith)))
    ∙ ap (λ (l : List (List ℕ)). map f come ++ map f l) first
    ∙ sym (ap (λ (n : ℕ). map f (take n (come ++ rows))) all ∙ ap (map f) (take-append-add come rows (down - y)) ∙ map-append f come (take (down - y) rows))

-- rows of which none is kept
pub rows_beyond : (across down : ℕ) {y : ℕ} (s : Shape) {held : List (List ℕ)} (before come rows : List (List ℕ)) → held ≡ map (shown_row across s)
    (take down before) → length before ≡ y → down ≤ y → held ≡ map (shown_row across s) (take down come) → held ≡ map (shown_row across s)
    (take down (come ++ rows))
rows_beyond across down s before come rows was many beyond known =
    let f : List ℕ → List ℕ = shown_row across s in
    let alike : length (take down come) ≡ length (take down before) = sym (length-map (take down come) f) ∙ ap length (sym known ∙ was)
    ∙ length-map (take down before) f in
    known ∙ ap (map f) (sym (take-append-le down come rows (omega (arith, alike, length-take down come, length-take down before))))

-- each row of a shape is within its maxval
within_each : (s : Shape) (rows : List (List ℕ)) → AllByRecursion (IsRowOf s) rows → AllByRecursion (λ row. All (λ sample. sample ≤ s.maxval) row) rows
within_each s [] are = tt
within_each s (row ∷ rows) are = (are.0.range, within_each s rows are.1)

-- a tiler is ready behind rows where it keeps what is shown of them
pub tiling_behind : (w v : Tiled) (s : Shape) (come rows : List (List ℕ)) → v.width ≡ w.width → v.left ≡ 0
    → v.rows ≡ map (shown_row v.width s) (take v.height (come ++ rows)) → AllByRecursion (IsRowOf s) rows → IsTiling w s come → IsTiling v s (come ++ rows)
tiling_behind w v s come rows same none kept are ready = record {
  limits = ready.limits;
  some = ready.some;
  filled = rw same ready.filled;
  rows = kept;
  lengths = All-append (λ (row : List ℕ). length row ≡ row_length s) come rows ready.lengths (lengths_of s rows are);
  range = All-append (λ (row : List ℕ). All (λ sample. sample ≤ s.maxval) row) come rows ready.range
      (All-from_recursion (λ (row : List ℕ). All (λ sample. sample ≤ s.maxval) row) rows (within_each s rows are));
  none_given = none;
}

-- ---- rows of the result that are given together

-- pieces of one length are cut again
cut_of_pieces : (f : ℕ → List ℕ) (each a n : ℕ) → ((x : ℕ) → length (f x) ≡ each)
    → cut_rows n each (flat_map f (range_with_len a n)) ≡ map f (range_with_len a n)
cut_of_pieces f each a zero long = refl
cut_of_pieces f each a (suc n) long =
    let rest : List ℕ = flat_map f (range_with_len (a + 1) n) in
    ap (λ (l : List ℕ). l ∷ cut_rows n each (drop each (f a ++ rest))) (take_at (f a) rest each (long a))
    ∙ ap (λ (l : List ℕ). f a ∷ cut_rows n each l) (drop_at (f a) rest each (long a))
    ∙ ap (λ (l : List (List ℕ)). f a ∷ l) (cut_of_pieces f each (a + 1) n long)

-- a row of the result has all its columns, and its samples are within the maxval
row_long : (across width depth : ℕ) (rows : List (List ℕ)) → HasTiles (tiled across 0 width depth rows 0) → (y : ℕ)
    → length (row_of_tiles across width depth rows y) ≡ across * depth
row_long across width depth rows h y =
    length_tiled across width depth (get_or rows (y % length rows) []) h.width (h.lengths (y % length rows) [] (mod-lt y h.some))

row_within : (maxval across width depth : ℕ) (rows : List (List ℕ)) → HasTiles (tiled across 0 width depth rows 0) → AreWithin maxval rows → (y : ℕ)
    → All (λ sample. sample ≤ maxval) (row_of_tiles across width depth rows y)
row_within maxval across width depth rows h within y =
    let row : List ℕ = get_or rows (y % length rows) [] in
    tiled_within maxval across width depth refl refl (within (y % length rows) [] (mod-lt y h.some))

pub rows_within : (maxval across width depth y n : ℕ) (rows : List (List ℕ)) {made : List (List ℕ)} → HasTiles (tiled across 0 width depth rows 0)
    → AreWithin maxval rows → made ≡ map (row_of_tiles across width depth rows) (range_with_len y n) → AreWithin maxval made
rows_within maxval across width depth y n rows h within is =
    let P : List ℕ → Type 0 = λ row. All (λ sample. sample ≤ maxval) row in
    let numbers : List ℕ = range_with_len y n in
    subst (All P) (sym is)
    (All-map P (row_of_tiles across width depth rows) numbers (λ k d lt. row_within maxval across width depth rows h within (get_or numbers k d)))

-- those that are given, and those that are left
pub due_in_parts : (w : Tiled) (n : ℕ) {y left : ℕ} {made : List (List ℕ)} → n ≤ w.left → w.left ≤ w.height → y ≡ w.height - w.left → left ≡ w.left - n
    → made ≡ map (row_of_tiles w.width w.image_width w.depth w.rows) (range_with_len y n)
    → tiled_due w ≡ made ++ tiled_due (tiled w.width w.height w.image_width w.depth w.rows left)
due_in_parts w n {y} {left} {made} few within from rest is =
    let f : ℕ → List ℕ = row_of_tiles w.width w.image_width w.depth w.rows in
    let parts : w.left ≡ n + left = omega arith in
    let next : y + n ≡ w.height - left = omega arith in
    ap (λ (a : ℕ). map f (range_with_len a w.left)) (sym from) ∙ ap (λ (m : ℕ). map f (range_with_len y m)) parts ∙ map_in_parts f y n left
    ∙ ap (λ (l : List (List ℕ)). l ++ map f (range_with_len (y + n) left)) (sym is)
    ∙ ap (λ (a : ℕ). made ++ map f (range_with_len a left)) next

-- there are rows to give, however many are left
pub tiles_same : (across down down' width depth left left' : ℕ) (rows : List (List ℕ)) → HasTiles (tiled across down width depth rows left)
    → HasTiles (tiled across down' width depth rows left')
tiles_same across down down' width depth left left' rows h =
    record { some = h.some; lengths = h.lengths; width = h.width; narrow = h.narrow; planes = h.planes; filled = h.filled }

-- a piece more
pub piece_more : {X : Type 0} (f : ℕ → List X) (y at : ℕ) {held now : List X} → y ≤ at → held ≡ flat_map f (range_with_len y (at - y)) → now ≡ held ++ f at
    → now ≡ flat_map f (range_with_len y (at + 1 - y))
piece_more {X = X} f y at from were is =
    let place : y + (at - y) ≡ at = omega arith in
    let parts : at + 1 - y ≡ (at - y) + 1 = omega arith in
    is ∙ ap (λ (l : List X). l ++ f at) were
    ∙ ap (λ (l : List X). flat_map f (range_with_len y (at - y)) ++ l) (sym (append-nil (f at)))
    ∙ ap (λ (n : ℕ). flat_map f (range_with_len y (at - y)) ++ flat_map f (range_with_len n 1)) (sym place)
    ∙ sym (pieces_in_parts f y (at - y) 1) ∙ ap (λ (n : ℕ). flat_map f (range_with_len y n)) (sym parts)

-- ---- rows that are held one after another

-- the rows from one on
rows_from : (each : ℕ) (samples : List ℕ) (a n : ℕ) → map (pixel_of each samples) (range_with_len a n) ≡ cut_rows n each (drop (a * each) samples)
rows_from each samples a zero = refl
rows_from each samples a (suc n) =
    let next : drop ((a + 1) * each) samples ≡ drop each (drop (a * each) samples) =
    sym (drop-drop each (a * each) samples ∙ ap (λ (k : ℕ). drop k samples) (sym (suc-mul a each) ∙ ap (λ (k : ℕ). k * each) (omega arith))) in
    ap (λ (l : List (List ℕ)). take each (drop (a * each) samples) ∷ l) (rows_from each samples (a + 1) n ∙ ap (cut_rows n each) next)

-- one after the other they are all rows
cut_each : (count each : ℕ) (samples : List ℕ) → map (pixel_of each samples) (range_with_len 0 count) ≡ cut_rows count each samples
cut_each count each samples =
    let none : 0 * each ≡ 0 = omega arith in
    rows_from each samples 0 count ∙ ap (λ (k : ℕ). cut_rows count each (drop k samples)) none

-- a row is a slice
pub row_of_slice : {X : Type 0} (samples : List X) (i each : ℕ) → slice_range samples (i * each) (i * each + each) ≡ pixel_of each samples i
row_of_slice {X = X} samples i each =
    let size : (i * each + each) - i * each ≡ each = omega arith in
    ap (λ (n : ℕ). take n (drop (i * each) samples)) size

-- a row of them
row_at : (count each k : ℕ) (samples : List ℕ) → k < count → get_or (cut_rows count each samples) k [] ≡ pixel_of each samples k
row_at count each k samples below =
    ap (λ (l : List (List ℕ)). get_or l k []) (sym (cut_each count each samples))
    ∙ get_or-map-range_with_len (pixel_of each samples) 0 count k k [] below (omega arith)

module _ (across width depth y n : ℕ) where
  -- so have and are so many of them, and cut again they are these rows
  rows_long : (rows : List (List ℕ)) {made : List ℕ} → HasTiles (tiled across 0 width depth rows 0) → made ≡ flat_map (row_of_tiles across width depth rows)
      (range_with_len y n) → length made ≡ n * (across * depth)
  rows_long rows h is = ap length is ∙ length_of_equals (row_of_tiles across width depth rows) (across * depth) y n (row_long across width depth rows h)

  rows_cut : (rows : List (List ℕ)) {made : List ℕ} → HasTiles (tiled across 0 width depth rows 0) → made ≡ flat_map (row_of_tiles across width depth rows)
      (range_with_len y n) → cut_rows n (across * depth) made ≡ map (row_of_tiles across width depth rows) (range_with_len y n)
  rows_cut rows h is =
      ap (cut_rows n (across * depth)) is ∙ cut_of_pieces (row_of_tiles across width depth rows) (across * depth) y n (row_long across width depth rows h)

  pub rows_alike : (rows : List (List ℕ)) {made : List (List ℕ)} → HasTiles (tiled across 0 width depth rows 0)
      → made ≡ map (row_of_tiles across width depth rows) (range_with_len y n) → (length made ≡ n) × All (λ row. length row ≡ across * depth) made
  rows_alike rows h is =
      let P : List ℕ → Type 0 = λ row. length row ≡ across * depth in
      let f : ℕ → List ℕ = row_of_tiles across width depth rows in
      let numbers : List ℕ = range_with_len y n in (
        ap length is ∙ length-map-range_with_len f y n,
        subst (All P) (sym is) (All-map P f numbers (λ k d lt. row_long across width depth rows h (get_or numbers k d))),
      )

  -- rows of the result are made of them
  made_of_samples : (count : ℕ) {rows : List (List ℕ)} (samples : List ℕ) {made : List ℕ} → rows ≡ cut_rows count (width * depth) samples → 0 < count
      → made ≡ flat_map (row_of_samples across width depth count samples) (range_with_len y n) → made ≡ flat_map (row_of_tiles across width depth rows)
      (range_with_len y n)
  made_of_samples count samples are some is =
      let cut : List (List ℕ) = cut_rows count (width * depth) samples in
      let many : length cut ≡ count = length-cut_rows count (width * depth) samples in
      is ∙ pieces_alike (row_of_samples across width depth count samples) (row_of_tiles across width depth cut) y n (λ x lt.
      ap (tiled_row across width depth) (sym (row_at count (width * depth) (x % count) samples (mod-lt x some))
      ∙ ap (λ (m : ℕ). get_or cut (x % m) []) (sym many)))
      ∙ ap (λ (l : List (List ℕ)). flat_map (row_of_tiles across width depth l) (range_with_len y n)) (sym are)

  pub tiles_of_samples : {count : ℕ} {rows : List (List ℕ)} (samples : List ℕ) {made : List ℕ} → HasTiles (tiled across 0 width depth rows 0)
      → cut_rows count (width * depth) samples ≡ rows → count ≡ length rows → made ≡ flat_map (row_of_samples across width depth count samples)
      (range_with_len y n)
      → (length made ≡ n * (across * depth)) × (cut_rows n (across * depth) made ≡ map (row_of_tiles across width depth rows) (range_with_len y n))
  tiles_of_samples {count} {rows} samples {made} h are many is =
      let of_tiles : made ≡ flat_map (row_of_tiles across width depth rows) (range_with_len y n) =
      made_of_samples count samples (sym are) (omega (arith, many, h.some)) is in
      (rows_long rows h of_tiles, rows_cut rows h of_tiles)

-- ---- fronts of rows

-- a front behind those before it
front_behind : {X : Type 0} (shown each i : ℕ) (samples : List X)
    → fronts_in shown (suc i) each samples ≡ fronts_in shown i each samples ++ take shown (drop (i * each) samples)
front_behind {X = X} shown each zero samples =
    append-nil (take shown samples) ∙ ap (λ (n : ℕ). take shown (drop n samples)) (sym (zero-mul each))
front_behind {X = X} shown each (suc i) samples =
    let first : List X = take shown samples in
    let later : List X = fronts_in shown i each (drop each samples) in
    let place : each + i * each ≡ suc i * each = omega (arith, suc-mul i each) in
    let start : drop (i * each) (drop each samples) ≡ drop (suc i * each) samples = drop-drop (i * each) each samples ∙ ap (λ (n : ℕ). drop n samples) place in
    ap (λ (l : List X). first ++ l) (front_behind shown each i (drop each samples))
    ∙ sym (append_assoc first later (take shown (drop (i * each) (drop each samples))))
    ∙ ap (λ (l : List X). (first ++ later) ++ take shown l) start

-- a front more
pub front_more : {X : Type 0} (shown each i : ℕ) (samples : List X) {fronts now : List X} → fronts ≡ fronts_in shown i each samples
    → now ≡ fronts ++ take shown (drop (i * each) samples) → now ≡ fronts_in shown (i + 1) each samples
front_more {X = X} shown each i samples were is =
    let next : suc i ≡ i + 1 = omega arith in
    is ∙ ap (λ (l : List X). l ++ take shown (drop (i * each) samples)) were ∙ sym (front_behind shown each i samples)
    ∙ ap (λ (n : ℕ). fronts_in shown n each samples) next

-- they have so many samples each, and cut again they are the fronts of the rows
pub fronts_long : (shown each count : ℕ) (samples : List ℕ) → count * each ≤ length samples → shown ≤ each
    → length (fronts_in shown count each samples) ≡ count * shown
fronts_long shown each zero samples enough within = sym (zero-mul shown)
fronts_long shown each (suc count) samples enough within =
    let rest : count * each ≤ length (drop each samples) = omega (arith, enough, suc-mul count each, length-drop each samples) in
    omega (
      arith,
      length-append (take shown samples) (fronts_in shown count each (drop each samples)),
      length-take shown samples,
      fronts_long shown each count (drop each samples) rest within,
      suc-mul count shown,
      suc-mul count each,
    )

pub fronts_cut : (shown each count : ℕ) (samples : List ℕ) → count * each ≤ length samples → shown ≤ each
    → cut_rows count shown (fronts_in shown count each samples) ≡ map (take shown) (cut_rows count each samples)
fronts_cut shown each zero samples enough within = refl
fronts_cut shown each (suc count) samples enough within =
    let rest : count * each ≤ length (drop each samples) = omega (arith, enough, suc-mul count each, length-drop each samples) in
    let first : List ℕ = take shown samples in
    let later : List ℕ = fronts_in shown count each (drop each samples) in
    let long : length first ≡ shown = omega (arith, length-take shown samples, enough, suc-mul count each) in
    let whole : first ≡ take shown (take each samples) = sym (take-take shown each samples within) in
    ap (λ (l : List ℕ). l ∷ cut_rows count shown (drop shown (first ++ later))) (take_at first later shown long ∙ whole)
    ∙ ap (λ (l : List ℕ). take shown (take each samples) ∷ cut_rows count shown l) (drop_at first later shown long)
    ∙ ap (λ (l : List (List ℕ)). take shown (take each samples) ∷ l) (fronts_cut shown each count (drop each samples) rest within)

-- the first of the rows
pub cut_of_more : (n more each : ℕ) (samples : List ℕ) → take n (cut_rows (n + more) each samples) ≡ cut_rows n each samples
cut_of_more zero more each samples = refl
cut_of_more (suc n) more each samples =
    let count : suc n + more ≡ suc (n + more) = omega arith in
    ap (λ (k : ℕ). take (suc n) (cut_rows k each samples)) count
    ∙ ap (λ (l : List (List ℕ)). take each samples ∷ l) (cut_of_more n more each (drop each samples))
