-- Rows that are held one after another, each turned the last pixel first.
use Rattle.pnm_row_tools.proofs.Words.{◌≡◌, ℕ, zero, suc, ◌+◌, ◌-◌, ◌*◌, ◌<◌, ◌≤◌, Bool, true, false, if◌then◌else◌, Option, Some, List, [], ◌∷◌, ◌++◌, length}
use Rattle.pnm_row_tools.proofs.Words.{map, take, drop, All, refl, sym, ap, ap₂, subst, ◌∙◌, arith, mul-le-mul, append-nil, append_assoc, add-mul, get_or}
use Rattle.pnm_row_tools.proofs.Words.{length-take-le, length-drop, mul_assoc, reverse, suc-mul, zero-mul, AllByRecursion, flat_map, range_with_len, put_mid}
use Rattle.pnm_row_tools.proofs.Words.{drop-append-le, drop_all, drop_at, drop-drop, drop-take, map-append, nil_from_length, reverse-append, take-append-le}
use Rattle.pnm_row_tools.proofs.Words.{length-map, length-reverse, take-take, take_all, take_at, flat_map-append, All-append, All-drop, All-head, All-map}
use Rattle.pnm_row_tools.proofs.Words.{All-tail, All-take, Shape, lengths_of_cut_rows, row_length, AreRows, AreRowsWithin, row_lists, RowVec, Bits, cut_rows}
use Rattle.pnm_row_tools.proofs.Words.{IsRowOf, rows_answer, mirrored_row, moves_rows, transform_of, transformed_row, pixel_of, FlipWay, Transform, Flip}
use Rattle.pnm_row_tools.proofs.Words.{columns_end, length_of_equals, pieces_alike, pieces_alike_from, pieces_in_parts, row_moved, row_stays, last_first}
use Rattle.pnm_row_tools.proofs.Words.{last_first_long, HoldsRows, changed, held_samples, IsReversingRows, Reversed, flattened, reversed, reversed_due}
use Rattle.pnm_row_tools.proofs.Words.{AreRowsOf}
use Rattle.pnm_row_tools.proofs.EachRowLaws.{cut_again, each_answered, length-changed, one_row_more}
use Rattle.pnm_row_tools.proofs.HeldRowsLaws.{held_cut, held_long, reversed_all}
use Rattle.pnm_row_tools.proofs.FlipRowLaws.{mirrored_within, one_plane}

-- a pixel of a row has a sample of each plane
pixel_long : {X : Type 0} (width depth x : ℕ) (row : List X) → x < width → length row ≡ width * depth → length (pixel_of depth row x) ≡ depth
pixel_long width depth x row below count =
    length-take-le depth (drop (x * depth) row) (omega (arith, columns_end width depth x below, length-drop (x * depth) row, count))

-- the mirrored row is as long
pub mirrored_long : {X : Type 0} (s : Shape) → 0 < s.width → (row : List X) → length row ≡ row_length s → length (mirrored_row s row) ≡ row_length s
mirrored_long s some row count =
    length_of_equals (λ x. pixel_of s.depth row (s.width - 1 - x)) s.depth 0 s.width
    (λ x. pixel_long s.width s.depth (s.width - 1 - x) row (omega (arith, some)) count)

-- the rows that have passed are mirrored, and those behind them as they were
pub record AreMirrored {X : Type 0} (s : Shape) (each i : ℕ) (old now : List X) : Type 0 where
  pub is : now ≡ changed (mirrored_row s) i each old ++ drop (i * each) old

-- before the first
pub none_mirrored : {X : Type 0} {s : Shape} {each : ℕ} {old : List X} → AreMirrored s each 0 old old
none_mirrored {each} {old} = record { is = ap (λ (n : ℕ). drop n old) (sym (zero-mul each)) }

-- one row more
pub row_mirrored : {X : Type 0} {s : Shape} {each i : ℕ} (count m : ℕ) {old now turned : List X} → 0 < s.width → each ≡ row_length s → i < count
    → length old ≡ count * each → AreMirrored s each i old now → m ≡ each → turned ≡ mirrored_row s (take m (drop (i * each) now))
    → AreMirrored s each (i + 1) old (put_mid (i * each) m now turned)
row_mirrored {X = X} {s} {each} {i} count m {old} {now} {turned} some is_each below count_is mirrored size made =
    let f : List X → List X = mirrored_row s in
    let at : ℕ = i * each in
    let prefix : List X = changed f i each old in
    let back : List X = drop at old in
    let keeps : (row : List X) → length row ≡ each → length (f row) ≡ each = λ row long. mirrored_long s some row (long ∙ is_each) ∙ sym is_each in
    let reach : at ≤ count * each = mul-le-mul {n₁ = i} {m₁ = each} {n₂ = count} {m₂ = each} (omega (arith, below)) (omega arith) in
    let long : length prefix ≡ at = length-changed f each each keeps i old (omega (arith, reach, count_is)) in
    let before : take at now ≡ prefix = ap (take at) mirrored.is ∙ take_at prefix back at long in
    let rest : drop at now ≡ back = ap (drop at) mirrored.is ∙ drop_at prefix back at long in
    let row : List X = f (take each back) in
    let turned_is : turned ≡ row = made ∙ ap (λ (l : List X). f (take m l)) rest ∙ ap (λ (n : ℕ). f (take n back)) size in
    let next_at : at + each ≡ (i + 1) * each = omega arith in
    let next : suc i ≡ i + 1 = omega arith in
    let behind : drop m (drop at now) ≡ drop ((i + 1) * each) old =
    ap (drop m) rest ∙ ap (λ (n : ℕ). drop n back) size ∙ drop-drop each at old ∙ ap (λ (n : ℕ). drop n old) next_at in
    record {
      is = ap (λ (l : List X). l ++ (turned ++ drop m (drop at now))) before
          ∙ ap (λ (l : List X). prefix ++ (l ++ drop m (drop at now))) turned_is
          ∙ ap (λ (l : List X). prefix ++ (row ++ l)) behind
          ∙ sym (append_assoc prefix row (drop ((i + 1) * each) old))
          ∙ ap (λ (l : List X). l ++ drop ((i + 1) * each) old) (sym (one_row_more f each i old))
          ∙ ap (λ (n : ℕ). changed f n each old ++ drop ((i + 1) * each) old) next;
    }

-- once all rows have passed
pub all_mirrored : {X : Type 0} {s : Shape} {each i : ℕ} (count : ℕ) {old now : List X} → i ≡ count → length old ≡ count * each
    → AreMirrored s each i old now → now ≡ changed (mirrored_row s) count each old
all_mirrored {X = X} {s} {each} count {old} all long mirrored =
    let none : drop (count * each) old ≡ [] = drop_all (count * each) old (omega (arith, long)) in
    mirrored.is ∙ ap (λ (n : ℕ). changed (mirrored_row s) n each old ++ drop (n * each) old) all
    ∙ ap (λ (l : List X). changed (mirrored_row s) count each old ++ l) none ∙ append-nil (changed (mirrored_row s) count each old)

-- a mirrored row has no sample above the maxval
each_within : {s : Shape} {row : List ℕ} → IsRowOf s row → All (λ sample. sample ≤ s.maxval) (mirrored_row s row)
each_within {s} {row} is = mirrored_within s.maxval s.width s.depth row refl is.range

-- rows that are mirrored in place
pub rows_in_place : (s : Shape) (count each : ℕ) {len : ℕ} {samples items lent new : List ℕ} → new ≡ changed (mirrored_row s) count each lent
    → length new ≡ length lent → lent ≡ items → items ≡ samples → len ≡ length items
    → take len (new ++ drop (length new) items) ≡ changed (mirrored_row s) count each samples
rows_in_place s count each {len} {items} {new} made long same given counted =
    let size : length new ≡ len = long ∙ ap length same ∙ sym counted in
    take_at new (drop (length new) items) len size ∙ made ∙ ap (λ (l : List ℕ). changed (mirrored_row s) count each l) (same ∙ given)

-- they are as many samples
pub rows_long : (s : Shape) (count : ℕ) {each : ℕ} (samples : List ℕ) → 0 < s.width → each ≡ row_length s → length samples ≡ count * each
    → length (changed (mirrored_row s) count each samples) ≡ count * each
rows_long s count {each} samples some is long =
    length-changed (mirrored_row s) each each (λ row whole. mirrored_long s some row (whole ∙ is) ∙ sym is) count samples (omega (arith, long))

-- cut again they are the mirrored rows
pub rows_cut_again : (s : Shape) (count : ℕ) {each : ℕ} (samples : List ℕ) → 0 < s.width → each ≡ row_length s → length samples ≡ count * each
    → cut_rows count each (changed (mirrored_row s) count each samples) ≡ map (mirrored_row s) (cut_rows count each samples)
rows_cut_again s count {each} samples some is long =
    cut_again (mirrored_row s) each each (λ row whole. mirrored_long s some row (whole ∙ is) ∙ sym is) count samples (omega (arith, long))

-- each row is answered by what the way makes of it
pub rows_turned : (way : FlipWay) (s : Shape) (y : ℕ) (rows : List (List ℕ)) {made : List (List ℕ)} → moves_rows (transform_of way) ≡ false
    → (transform_of way).columns_reversed ≡ true → made ≡ map (mirrored_row s) rows → rows_answer (Flip way) s y rows ≡ made
rows_turned way s y rows stays reversed is =
    each_answered (Flip way) s (mirrored_row s) y rows (λ k row from to.
    row_stays way s k row stays ∙ ap (λ (b : Bool). (if b then mirrored_row s row else row) ∷ []) reversed) ∙ sym is

-- ---- rows that are reversed, as pixels of one long row or as they are

-- rows and one row behind them, cut again
cut_behind : (count : ℕ) {each : ℕ} (before row : List ℕ) → length before ≡ count * each → length row ≡ each
    → cut_rows (suc count) each (before ++ row) ≡ cut_rows count each before ++ row ∷ []
cut_behind zero {each} before row long whole =
    let none : before ≡ [] = nil_from_length before (long ∙ zero-mul each) in
    ap (λ (l : List ℕ). take each (l ++ row) ∷ []) none ∙ ap (λ (l : List ℕ). l ∷ []) (take_all each row (omega (arith, whole)))
cut_behind (suc count) {each} before row long whole =
    let enough : each ≤ length before = omega (arith, long, suc-mul count each) in
    let rest : length (drop each before) ≡ count * each = omega (arith, length-drop each before, long, suc-mul count each) in
    ap (λ (l : List ℕ). l ∷ cut_rows (suc count) each (drop each (before ++ row))) (take-append-le each before row enough)
    ∙ ap (λ (l : List ℕ). take each before ∷ cut_rows (suc count) each l) (drop-append-le each before row enough)
    ∙ ap (λ (l : List (List ℕ)). take each before ∷ l) (cut_behind count (drop each before) row rest whole)

-- pixels behind a row are those of the rest
pixels_behind : (pixels size : ℕ) (samples : List ℕ) (y : ℕ) → pixel_of size samples (pixels + y) ≡ pixel_of size (drop (pixels * size) samples) y
pixels_behind pixels size samples y =
    ap (λ (n : ℕ). take size (drop n samples)) (add-mul pixels y size) ∙ ap (take size) (sym (drop-drop (y * size) (pixels * size) samples))

-- pixels of a row are those of the samples
pixels_ahead : (pixels size : ℕ) (samples : List ℕ) (y : ℕ) → y < pixels → pixel_of size (take (pixels * size) samples) y ≡ pixel_of size samples y
pixels_ahead pixels size samples y below =
    let start : ℕ = y * size in
    let left : ℕ = pixels * size - start in
    let fits : (y + 1) * size ≤ pixels * size = columns_end pixels size y below in
    let parts : pixels * size ≡ start + left = omega (arith, fits) in
    ap (λ (n : ℕ). take size (drop start (take n samples))) parts ∙ ap (take size) (drop-take start left samples)
    ∙ take-take size left (drop start samples) (omega (arith, fits))

-- the last pixel of one row more first
one_row_turned : (count pixels size : ℕ) (samples : List ℕ)
    → last_first (suc count * pixels) size samples
    ≡ last_first (count * pixels) size (drop (pixels * size) samples) ++ last_first pixels size (take (pixels * size) samples)
one_row_turned count pixels size samples =
    let m : ℕ = count * pixels in
    let all : suc count * pixels ≡ m + pixels = omega (arith, suc-mul count pixels) in
    let start : 0 + m ≡ m = omega arith in
    let f : ℕ → List ℕ = λ x. pixel_of size samples (m + pixels - 1 - x) in
    let later : ℕ → List ℕ = λ x. pixel_of size (drop (pixels * size) samples) (m - 1 - x) in
    let first : ℕ → List ℕ = λ x. pixel_of size (take (pixels * size) samples) (pixels - 1 - x) in
    ap (λ (n : ℕ). last_first n size samples) all ∙ pieces_in_parts f 0 m pixels
    ∙ ap (λ (from : ℕ). flat_map f (range_with_len 0 m) ++ flat_map f (range_with_len from pixels)) start
    ∙ ap (λ (l : List ℕ). l ++ flat_map f (range_with_len m pixels))
    (pieces_alike f later 0 m (λ x lt.
    ap (pixel_of size samples) (omega (arith, lt)) ∙ pixels_behind pixels size samples (m - 1 - x)))
    ∙ ap (λ (l : List ℕ). flat_map later (range_with_len 0 m) ++ l)
    (pieces_alike_from f first m 0 pixels (λ i lt.
    ap (pixel_of size samples) (omega (arith, lt)) ∙ sym (pixels_ahead pixels size samples (pixels - 1 - (0 + i)) (omega (arith, lt)))))

reverse_cons : {X : Type 0} (x : X) (xs : List X) → reverse (x ∷ xs) ≡ reverse xs ++ x ∷ []
reverse_cons x xs = reverse-append (x ∷ []) xs

-- all pixels, the last one first, cut again, are the rows, the last one first, each so
pub all_turned : (count pixels size : ℕ) (samples : List ℕ) → length samples ≡ count * (pixels * size)
    → cut_rows count (pixels * size) (last_first (count * pixels) size samples) ≡ reverse (map (last_first pixels size) (cut_rows count (pixels *
    size) samples))
all_turned zero pixels size samples long = refl
all_turned (suc count) pixels size samples long =
    let each : ℕ = pixels * size in
    let rest : List ℕ = drop each samples in
    let row : List ℕ = last_first pixels size (take each samples) in
    let enough : each ≤ length samples = omega (arith, long, suc-mul count each) in
    let left : length rest ≡ count * each = omega (arith, length-drop each samples, long, suc-mul count each) in
    let whole : length row ≡ each = last_first_long pixels size (take each samples) (length-take-le each samples enough) in
    let before : length (last_first (count * pixels) size rest) ≡ count * each =
    last_first_long (count * pixels) size rest (left ∙ sym (mul_assoc count pixels size)) ∙ mul_assoc count pixels size in
    ap (cut_rows (suc count) each) (one_row_turned count pixels size samples)
    ∙ cut_behind count (last_first (count * pixels) size rest) row before whole
    ∙ ap (λ (l : List (List ℕ)). l ++ row ∷ []) (all_turned count pixels size rest left)
    ∙ sym (reverse_cons row (map (last_first pixels size) (cut_rows count each rest)))

map_reversed : (f : List ℕ → List ℕ) (rows : List (List ℕ)) → map f (reverse rows) ≡ reverse (map f rows)
map_reversed f [] = refl
map_reversed f (row ∷ rows) =
    ap (map f) (reverse_cons row rows) ∙ map-append f (reverse rows) (row ∷ []) ∙ ap (λ (l : List (List ℕ)). l ++ f row ∷ []) (map_reversed f rows)
    ∙ sym (reverse_cons (f row) (map f rows))

-- a row that is one piece stays as it is
one_piece : {size : ℕ} (row : List ℕ) → length row ≡ size → last_first 1 size row ≡ row
one_piece {size} row long =
    append-nil (take size (drop (0 * size) row)) ∙ ap (λ (n : ℕ). take size (drop n row)) (zero-mul size) ∙ take_all size row (omega (arith, long))

pieces_stay : (size : ℕ) (rows : List (List ℕ)) → AllByRecursion (λ row. length row ≡ size) rows → map (last_first 1 size) rows ≡ rows
pieces_stay size [] long = refl
pieces_stay size (row ∷ rows) long = ap₂ (λ (r : List ℕ) (l : List (List ℕ)). r ∷ l) (one_piece row long.0) (pieces_stay size rows long.1)

-- rows, the last one first
rows_reversed : (count each : ℕ) (samples : List ℕ) → length samples ≡ count * each
    → cut_rows count each (last_first count each samples) ≡ reverse (cut_rows count each samples)
rows_reversed count each samples long =
    let one : 1 * each ≡ each = omega arith in
    let all : count * 1 ≡ count = omega arith in
    ap (λ (n : ℕ). cut_rows count n (last_first count each samples)) (sym one)
    ∙ ap (λ (n : ℕ). cut_rows count (1 * each) (last_first n each samples)) (sym all)
    ∙ all_turned count 1 each samples (long ∙ ap (λ (n : ℕ). count * n) (sym one))
    ∙ ap (λ (n : ℕ). reverse (map (last_first 1 each) (cut_rows count n samples))) one
    ∙ ap (λ (l : List (List ℕ)). reverse l) (pieces_stay each (cut_rows count each samples) (lengths_of_cut_rows count each samples long))

-- they are as many samples
pub turned_long : (count each pixels size : ℕ) (samples : List ℕ) {made : List ℕ} → length samples ≡ count * each → count * each ≡ pixels * size
    → made ≡ last_first pixels size samples → length made ≡ count * each
turned_long count each pixels size samples long same made_is = ap length made_is ∙ last_first_long pixels size samples (long ∙ same) ∙ sym same

-- ---- rows as they are held, each the last pixel first

-- rows of one plane
lists_mirrored : (s : Shape) (rows : List (List ℕ)) → s.depth ≡ 1 → All (λ row. length row ≡ row_length s) rows → map reverse rows ≡ map (mirrored_row s) rows
lists_mirrored s [] plane long = refl
lists_mirrored s (row ∷ rows) plane long =
    let Long : List ℕ → Type 0 = λ (row : List ℕ). length row ≡ row_length s in
    ap₂ (λ (r : List ℕ) (l : List (List ℕ)). r ∷ l)
    (one_plane s.width s.depth row (omega (arith, plane)) (omega (arith, plane)) (All-head Long row rows long) refl)
    (lists_mirrored s rows plane (All-tail Long row rows long))

lists_long : (each : ℕ) (rows : List (List ℕ)) → All (λ row. length row ≡ each) rows → All (λ row. length row ≡ each) (map reverse rows)
lists_long each rows long =
    All-map (λ (row : List ℕ). length row ≡ each) reverse rows (λ k d lt. length-reverse (get_or rows k d) ∙ long k d lt)

pub bits_mirrored : (s : Shape) (count : ℕ) {old : RowVec} {rows new : List (List ℕ)} → s.depth ≡ 1 → old ≡ Bits rows → new ≡ map reverse rows
    → AreRows count (row_length s) old
    → ((length new ≡ count) × All (λ row. length row ≡ row_length s) new) × (new ≡ map (mirrored_row s) (row_lists count (row_length s) old))
bits_mirrored s count {rows} plane held is whole =
    let known = subst (AreRows count (row_length s)) held whole in (
      (
        ap length is ∙ length-map rows reverse ∙ known.0,
        subst (All (λ (row : List ℕ). length row ≡ row_length s)) (sym is) (lists_long (row_length s) rows known.1),
      ),
      is ∙ lists_mirrored s rows plane known.1 ∙ ap (λ (h : RowVec). map (mirrored_row s) (row_lists count (row_length s) h)) (sym held),
    )

-- rows that are held one after another
pub items_mirrored : (s : Shape) (count : ℕ) (old : RowVec) {new : List ℕ} → 0 < s.width → new ≡ changed (mirrored_row s) count (row_length s)
    (held_samples old) → AreRows count (row_length s) old
    → (length new ≡ count * row_length s) × (cut_rows count (row_length s) new ≡ map (mirrored_row s) (row_lists count (row_length s) old))
items_mirrored s count old some is whole =
    let long = held_long count (row_length s) old whole in (
      ap length is ∙ rows_long s count (held_samples old) some refl long,
      ap (cut_rows count (row_length s)) is ∙ rows_cut_again s count (held_samples old) some refl long
          ∙ ap (map (mirrored_row s)) (held_cut count (row_length s) old whole),
    )

-- what is made of rows of an image of this shape, which are as long as it says
pub as_long : (f : List (List ℕ) → List (List ℕ)) (s : Shape) (count : ℕ) {each : ℕ} (old new : RowVec) → each ≡ row_length s
    → HoldsRows count (row_length s) new (f (row_lists count (row_length s) old)) → HoldsRows count each new (f (row_lists count each old))
as_long f s count old new is known = subst (λ (n : ℕ). HoldsRows count n new (f (row_lists count n old))) (sym is) known

-- no sample of them is above the maxval
pub mirrored_rows_within : (s : Shape) (rows : List (List ℕ)) → All (IsRowOf s) rows → AreRowsWithin s.maxval (map (mirrored_row s) rows)
mirrored_rows_within s rows are = All-map (λ (row : List ℕ). All (λ sample. sample ≤ s.maxval) row) (mirrored_row s) rows (λ k d lt. each_within (are k d lt))

-- ---- and the last row first

pub bits_turned : (s : Shape) (count : ℕ) {old : RowVec} {rows new : List (List ℕ)} → s.depth ≡ 1 → old ≡ Bits rows → new ≡ reverse (map reverse rows)
    → AreRows count (row_length s) old
    → ((length new ≡ count) × All (λ row. length row ≡ row_length s) new) × (new ≡ map (mirrored_row s) (reverse (row_lists count (row_length s) old)))
bits_turned s count {rows} plane held is whole =
    let Long : List ℕ → Type 0 = λ (row : List ℕ). length row ≡ row_length s in
    let known = subst (AreRows count (row_length s)) held whole in (
      (
        ap length is ∙ length-reverse (map reverse rows) ∙ length-map rows reverse ∙ known.0,
        subst (All Long) (sym is) (reversed_all Long (map reverse rows) (lists_long (row_length s) rows known.1)),
      ),
      is ∙ ap (λ (l : List (List ℕ)). reverse l) (lists_mirrored s rows plane known.1) ∙ sym (map_reversed (mirrored_row s) rows)
          ∙ ap (λ (h : RowVec). map (mirrored_row s) (reverse (row_lists count (row_length s) h))) (sym held),
    )

pub items_turned : (s : Shape) (count : ℕ) (old : RowVec) {new : List ℕ} → new ≡ last_first (count * s.width) s.depth (held_samples old)
    → AreRows count (row_length s) old
    → (length new ≡ count * row_length s) × (cut_rows count (row_length s) new ≡ map (mirrored_row s) (reverse (row_lists count (row_length s) old)))
items_turned s count old is whole =
    let each : ℕ = row_length s in
    let samples : List ℕ = held_samples old in
    let long = held_long count each old whole in (
      turned_long count each (count * s.width) s.depth samples long (sym (mul_assoc count s.width s.depth)) is,
      ap (cut_rows count each) is ∙ all_turned count s.width s.depth samples long ∙ sym (map_reversed (mirrored_row s) (cut_rows count each samples))
          ∙ ap (λ (l : List (List ℕ)). map (mirrored_row s) (reverse l)) (held_cut count each old whole),
    )

-- each as it is
pub bits_reversed : (count each : ℕ) {old : RowVec} {rows new : List (List ℕ)} → old ≡ Bits rows → new ≡ reverse rows → AreRows count each old
    → ((length new ≡ count) × All (λ row. length row ≡ each) new) × (new ≡ reverse (row_lists count each old))
bits_reversed count each {rows} held is whole =
    let Long : List ℕ → Type 0 = λ (row : List ℕ). length row ≡ each in
    let known = subst (AreRows count each) held whole in (
      (ap length is ∙ length-reverse rows ∙ known.0, subst (All Long) (sym is) (reversed_all Long rows known.1)),
      is ∙ ap (λ (h : RowVec). reverse (row_lists count each h)) (sym held),
    )

pub items_reversed : (count each : ℕ) (old : RowVec) {new : List ℕ} → new ≡ last_first count each (held_samples old) → AreRows count each old
    → (length new ≡ count * each) × (cut_rows count each new ≡ reverse (row_lists count each old))
items_reversed count each old is whole =
    let long = held_long count each old whole in (
      turned_long count each count each (held_samples old) long refl is,
      ap (cut_rows count each) is ∙ rows_reversed count each (held_samples old) long ∙ ap (λ (l : List (List ℕ)). reverse l) (held_cut count each old whole),
    )

-- rows that answer nothing yet
pub none_answer : (way : FlipWay) (s : Shape) (y : ℕ) (rows : List (List ℕ)) → moves_rows (transform_of way) ≡ true → rows_answer (Flip way) s y rows ≡ []
none_answer way s y [] moves = refl
none_answer way s y (row ∷ rows) moves =
    ap (λ (l : List (List ℕ)). l ++ rows_answer (Flip way) s (y + 1) rows) (row_moved way s y row moves) ∙ none_answer way s (y + 1) rows moves

-- ---- the rows that a reverser keeps

-- rows that come together come behind the others
pub rows_flattened : (blocks : List (List (List ℕ))) (rows : List (List ℕ)) → flattened (blocks ++ rows ∷ []) ≡ flattened blocks ++ rows
rows_flattened blocks rows =
    flat_map-append (λ (l : List (List ℕ)). l) blocks (rows ∷ []) ∙ ap (λ (l : List (List ℕ)). flattened blocks ++ l) (append-nil rows)

-- more rows are kept
pub more_kept : (w : Reversed) (way : FlipWay) (kept now : List (List (List ℕ))) (more come : List (List ℕ)) (ended : Option Shape) (s : Shape)
    → reversed way (flattened kept) ended ≡ w → flattened now ≡ flattened kept ++ more → All (IsRowOf s) more → IsReversingRows w s come
    → IsReversingRows (reversed way (flattened now) ended) s (come ++ more)
more_kept w way kept now more come ended s view is all ready = record {
  limits = ready.limits;
  rows = is ∙ ap (λ (l : List (List ℕ)). l ++ more) (ap (λ (v : Reversed). v.rows) view ∙ ready.rows);
  each = All-append (IsRowOf s) come more ready.each all;
  none_given = ap (λ (v : Reversed). v.ended) view ∙ ready.none_given;
}

-- the rows of the block that is given, and those that stay
pub rows_parted : {ended : Option Shape} {s : Shape} {kept : List (List (List ℕ))} (rest : List (List (List ℕ))) (block : List (List ℕ)) → ended ≡ Some s
    → AreRowsOf ended (flattened kept) → kept ≡ rest ++ block ∷ [] → All (IsRowOf s) block × AreRowsOf ended (flattened rest)
rows_parted {s} {kept} rest block is are parts =
    let P : List ℕ → Type 0 = IsRowOf s in
    let before : List (List ℕ) = flattened rest in
    let rows : flattened kept ≡ before ++ block = ap flattened parts ∙ rows_flattened rest block in
    let known = subst (λ (e : Option Shape). AreRowsOf e (flattened kept)) is are in
    let all : All P (before ++ block) = subst (All P) rows known.1 in
    let behind : All P block = subst (All P) (drop_at before block (length before) refl) (All-drop P (length before) (before ++ block) all) in
    let ahead : All P before = subst (All P) (take_at before block (length before) refl) (All-take P (length before) (before ++ block) all) in
    (behind, subst (λ (e : Option Shape). AreRowsOf e before) (sym is) (known.0, ahead))

-- the rows that are given, and those that are still due
pub block_given : {w : Reversed} (way : FlipWay) {ended : Option Shape} {t : Transform} {s : Shape} {kept : List (List (List ℕ))}
    (rest : List (List (List ℕ))) (block : List (List ℕ)) {made : List (List ℕ)} → reversed way (flattened kept) ended ≡ w → ended ≡ Some s
    → t ≡ transform_of way → kept ≡ rest ++ block ∷ [] → made ≡ map (transformed_row t s) (reverse block)
    → reversed_due w ≡ made ++ reversed_due (reversed way (flattened rest) ended)
block_given way {s} {kept} rest block {made} view is transform parts made_is =
    let f : List ℕ → List ℕ = transformed_row (transform_of way) s in
    let later : List (List ℕ) = map f (reverse (flattened rest)) in
    sym (ap reversed_due view) ∙ ap (λ (e : Option Shape). reversed_due (reversed way (flattened kept) e)) is
    ∙ ap (λ (l : List (List ℕ)). map f (reverse l)) (ap flattened parts ∙ rows_flattened rest block)
    ∙ ap (map f) (reverse-append (flattened rest) block) ∙ map-append f (reverse block) (reverse (flattened rest))
    ∙ ap (λ (u : Transform). map (transformed_row u s) (reverse block) ++ later) (sym transform)
    ∙ ap (λ (l : List (List ℕ)). l ++ later) (sym made_is)
    ∙ ap (λ (e : Option Shape). made ++ reversed_due (reversed way (flattened rest) e)) (sym is)
