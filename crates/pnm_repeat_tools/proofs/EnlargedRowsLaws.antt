-- Rows that come together, enlarged: all their pixels as those of one long row, and the rows as pixels of a column.
use Rattle.pnm_repeat_tools.proofs.Words.{◌≡◌, ℕ, zero, suc, ◌+◌, ◌-◌, ◌*◌, ◌≤◌, ◌<◌, List, [], ◌∷◌, ◌++◌, length, map, take, drop, replicate, refl, sym, ap}
use Rattle.pnm_repeat_tools.proofs.Words.{◌∙◌, arith, mul-le-mul, suc-mul, zero-mul, AllByRecursion, concat, flat_map, range_with_len, drop_at, drop-drop}
use Rattle.pnm_repeat_tools.proofs.Words.{drop-take, length-append, length-replicate, take_all, take_at, take-take, Shape, cut_rows, row_length, IsRowOf}
use Rattle.pnm_repeat_tools.proofs.Words.{concat-cut_rows, lengths_of_cut_rows, length-cut_rows, Enlarge, rows_answer, enlarged_row, copies_of, pixel_of}
use Rattle.pnm_repeat_tools.proofs.Words.{columns_end, pieces_in_parts, pieces_alike_from, length_of_equals, row_of_enlarge}
use Rattle.std.proofs.Common.{append-nil, append_assoc, length-take-le, length-drop}
use Rattle.pnm_repeat_tools.proofs.EnlargeRowLaws.{columns_repeated, one_more_column}

-- each is as long as the others
abbrev pub AreEach : ℕ → List (List ℕ) → Type 0
AreEach each rows = AllByRecursion (λ row. length row ≡ each) rows

-- ---- rows one after another

-- how many samples they are
pub length_together : (each : ℕ) (rows : List (List ℕ)) → AreEach each rows → length (concat rows) ≡ length rows * each
length_together each [] are = sym (zero-mul each)
length_together each (row ∷ rows) are =
    omega (arith, length-append row (concat rows), are.0, length_together each rows are.1, suc-mul (length rows) each)

-- cut again they are the same rows
cut_again : (each : ℕ) (rows : List (List ℕ)) → AreEach each rows → cut_rows (length rows) each (concat rows) ≡ rows
cut_again each [] are = refl
cut_again each (row ∷ rows) are = rw (take_at row (concat rows) each are.0, drop_at row (concat rows) each are.0, cut_again each rows are.1) refl

-- rows, and more rows behind them
together_in_parts : (front back : List (List ℕ)) → concat (front ++ back) ≡ concat front ++ concat back
together_in_parts [] back = refl
together_in_parts (row ∷ front) back =
    ap (λ (l : List ℕ). row ++ l) (together_in_parts front back) ∙ sym (append_assoc row (concat front) (concat back))

each_in_parts : (each : ℕ) (front back : List (List ℕ)) → AreEach each front → AreEach each back → AreEach each (front ++ back)
each_in_parts each [] back are more = more
each_in_parts each (row ∷ front) back are more = (are.0, each_in_parts each front back are.1 more)

-- ---- the pixels of all rows as those of one long row

-- a pixel of the first row
first_pixel : (d w i : ℕ) (row rest : List ℕ) → length row ≡ w * d → i < w → pixel_of d (row ++ rest) i ≡ pixel_of d row i
first_pixel d w i row rest long below =
    let all : List ℕ = row ++ rest in
    let ends : i * d + d ≤ w * d = omega (arith, columns_end w d i below) in
    let left : ℕ = w * d - i * d in
    let parts : w * d ≡ i * d + left = omega (arith, ends) in
    sym (
    ap (λ (l : List ℕ). take d (drop (i * d) l)) (sym (take_at row rest (w * d) long))
    ∙ ap (λ (n : ℕ). take d (drop (i * d) (take n all))) parts
    ∙ ap (take d) (drop-take (i * d) left all)
    ∙ take-take d left (drop (i * d) all) (omega (arith, ends))
    )

-- a pixel of the rows behind it
later_pixel : (d w i : ℕ) (row rest : List ℕ) → length row ≡ w * d → pixel_of d (row ++ rest) (w + i) ≡ pixel_of d rest i
later_pixel d w i row rest long =
    let place : (w + i) * d ≡ w * d + i * d = omega arith in
    ap (λ (n : ℕ). take d (drop n (row ++ rest))) place
    ∙ ap (take d) (sym (drop-drop (i * d) (w * d) (row ++ rest)) ∙ ap (drop (i * d)) (drop_at row rest (w * d) long))

-- each row by itself
each_repeated : (across d w : ℕ) (rows : List (List ℕ)) → AreEach (w * d) rows
    → columns_repeated across d (concat rows) (length rows * w) ≡ concat (map (λ row. columns_repeated across d row w) rows)
each_repeated across d w [] are = ap (columns_repeated across d []) (zero-mul w)
each_repeated across d w (row ∷ rows) are =
    let rest : List ℕ = concat rows in
    let f : ℕ → List ℕ = λ x. copies_of across (pixel_of d (row ++ rest) x) in
    let first : ℕ → List ℕ = λ x. copies_of across (pixel_of d row x) in
    let later : ℕ → List ℕ = λ x. copies_of across (pixel_of d rest x) in
    let n : ℕ = length rows * w in
    let count : suc (length rows) * w ≡ w + n = omega (arith, suc-mul (length rows) w) in
    ap (columns_repeated across d (row ++ rest)) count ∙ pieces_in_parts f 0 w n
    ∙ ap (λ (l : List ℕ). l ++ flat_map f (range_with_len (0 + w) n))
    (pieces_alike_from f first 0 0 w (λ i below.
    let from : 0 + i ≡ i = omega arith in
    ap f from ∙ ap (copies_of across) (first_pixel d w i row rest are.0 below) ∙ ap first (sym from)))
    ∙ ap (λ (l : List ℕ). columns_repeated across d row w ++ l)
    (pieces_alike_from f later (0 + w) 0 n (λ i below.
    let from : 0 + w + i ≡ w + i = omega arith in
    let to : i ≡ 0 + i = omega arith in
    ap f from ∙ ap (copies_of across) (later_pixel d w i row rest are.0) ∙ ap later to) ∙ each_repeated across d w rows are.1)

-- ---- how many samples are made

-- so many of a list
length_of_copies : (n : ℕ) {size : ℕ} (l : List ℕ) → length l ≡ size → length (copies_of n l) ≡ n * size
length_of_copies n {size} l long = length_of_equals (λ _. l) size 0 n (λ x. long)

-- of the first columns
length_repeated : (across d n : ℕ) (row : List ℕ) → n * d ≤ length row → length (columns_repeated across d row n) ≡ n * across * d
length_repeated across d zero row le = omega arith
length_repeated across d (suc n) row le =
    let more : suc n ≡ n + 1 = omega arith in
    let pixel : List ℕ = pixel_of d row n in
    let before : n * d + d ≤ length row = omega (arith, le, suc-mul n d) in
    let size : length pixel ≡ d = length-take-le d (drop (n * d) row) (omega (arith, before, length-drop (n * d) row)) in
    let total : n * across * d + across * d ≡ suc n * across * d = omega arith in
    ap (λ (k : ℕ). length (columns_repeated across d row k)) more ∙ ap length (one_more_column across d row n)
    ∙ length-append (columns_repeated across d row n) (copies_of across pixel)
    ∙ ap (λ (k : ℕ). k + length (copies_of across pixel)) (length_repeated across d n row (omega (arith, before)))
    ∙ ap (λ (k : ℕ). n * across * d + k) (length_of_copies across pixel size) ∙ total

-- ---- rows as pixels of a column

-- so many of a row
copies_together : (n a : ℕ) (row : List ℕ) → flat_map (λ _. row) (range_with_len a n) ≡ concat (replicate n row)
copies_together zero a row = refl
copies_together (suc n) a row = ap (λ (l : List ℕ). row ++ l) (copies_together n (a + 1) row)

copies_each : (n : ℕ) {each : ℕ} (row : List ℕ) → length row ≡ each → AreEach each (replicate n row)
copies_each zero row long = tt
copies_each (suc n) row long = (long, copies_each n row long)

-- a row that is one pixel
one_pixel : (down : ℕ) {each : ℕ} (row : List ℕ) → length row ≡ each → columns_repeated down each row 1 ≡ concat (replicate down row)
one_pixel down {each} row long =
    append-nil (copies_of down (pixel_of each row 0))
    ∙ ap (λ (n : ℕ). copies_of down (take each (drop n row))) (zero-mul each)
    ∙ ap (copies_of down) (take_all each row (omega (arith, long)))
    ∙ copies_together down 0 row

-- each row so many times
repeated_each : (down each : ℕ) (rows : List (List ℕ)) → AreEach each rows → AreEach each (flat_map (replicate down) rows)
repeated_each down each [] are = tt
repeated_each down each (row ∷ rows) are =
    each_in_parts each (replicate down row) (flat_map (replicate down) rows) (copies_each down row are.0) (repeated_each down each rows are.1)

repeated_many : (down : ℕ) (rows : List (List ℕ)) → length (flat_map (replicate down) rows) ≡ length rows * down
repeated_many down [] = sym (zero-mul down)
repeated_many down (row ∷ rows) =
    omega (
      arith,
      length-append (replicate down row) (flat_map (replicate down) rows),
      length-replicate down row,
      repeated_many down rows,
      suc-mul (length rows) down,
    )

rows_together : (down each : ℕ) (rows : List (List ℕ)) → AreEach each rows
    → concat (map (λ row. columns_repeated down each row 1) rows) ≡ concat (flat_map (replicate down) rows)
rows_together down each [] are = refl
rows_together down each (row ∷ rows) are =
    ap (λ (l : List ℕ). l ++ concat (map (λ row. columns_repeated down each row 1) rows)) (one_pixel down row are.0)
    ∙ ap (λ (l : List ℕ). concat (replicate down row) ++ l) (rows_together down each rows are.1)
    ∙ sym (together_in_parts (replicate down row) (flat_map (replicate down) rows))

same_each : (a b : ℕ) (rows : List (List ℕ)) → a ≡ b → AreEach a rows → AreEach b rows
same_each a b [] same are = tt
same_each a b (row ∷ rows) same are = (are.0 ∙ same, same_each a b rows same are.1)

-- the rows of a column
rows_repeated : (down each : ℕ) (rows : List (List ℕ)) → AreEach each rows
    → cut_rows (length rows * down) each (columns_repeated down each (concat rows) (length rows)) ≡ flat_map (replicate down) rows
rows_repeated down each rows are =
    let one : length rows ≡ length rows * 1 = omega arith in
    let each_one : AreEach (1 * each) rows = same_each each (1 * each) rows (omega arith) are in
    ap (λ (n : ℕ). cut_rows (length rows * down) each (columns_repeated down each (concat rows) n)) one
    ∙ ap (cut_rows (length rows * down) each) (each_repeated down each 1 rows each_one ∙ rows_together down each rows are)
    ∙ ap (λ (n : ℕ). cut_rows n each (concat (flat_map (replicate down) rows))) (sym (repeated_many down rows))
    ∙ cut_again each (flat_map (replicate down) rows) (repeated_each down each rows are)

-- samples that are cut into rows, each so many times
pub repeated_cut : (down count each : ℕ) (samples : List ℕ) {made : List ℕ} → length samples ≡ count * each → made ≡ columns_repeated down each samples count
    → (cut_rows (count * down) each made ≡ flat_map (replicate down) (cut_rows count each samples)) × (length made ≡ count * down * each)
repeated_cut down count each samples long is =
    let rows : List (List ℕ) = cut_rows count each samples in
    let are : AreEach each rows = lengths_of_cut_rows count each samples long in
    let all : concat rows ≡ samples = concat-cut_rows count each samples long in
    let many : length rows ≡ count = length-cut_rows count each samples in (
      ap (cut_rows (count * down) each) is
          ∙ ap (λ (l : List ℕ). cut_rows (count * down) each (columns_repeated down each l count)) (sym all)
          ∙ ap (λ (n : ℕ). cut_rows (n * down) each (columns_repeated down each (concat rows) n)) (sym many)
          ∙ rows_repeated down each rows are,
      ap length is ∙ length_repeated down each count samples (omega (arith, long)),
    )

-- ---- the answers

-- rows of a shape have its row length
pub each_of : (s : Shape) (rows : List (List ℕ)) → AllByRecursion (IsRowOf s) rows → AreEach (row_length s) rows
each_of s [] are = tt
each_of s (row ∷ rows) are = (are.0.count, each_of s rows are.1)

-- each row so many times across
pub enlarged_each : (across : ℕ) (s : Shape) (rows : List (List ℕ)) → AreEach (row_length s) rows
    → AreEach (s.width * across * s.depth) (map (enlarged_row across s) rows)
enlarged_each across s [] are = tt
enlarged_each across s (row ∷ rows) are =
    (length_repeated across s.depth s.width row (omega (arith, are.0)), enlarged_each across s rows are.1)

pub map_many : (f : List ℕ → List ℕ) (rows : List (List ℕ)) → length (map f rows) ≡ length rows
map_many f [] = refl
map_many f (row ∷ rows) = ap suc (map_many f rows)

-- what answers rows
pub answers_are : (across down : ℕ) (s : Shape) (y : ℕ) (rows : List (List ℕ))
    → rows_answer (Enlarge across down) s y rows ≡ flat_map (replicate down) (map (enlarged_row across s) rows)
answers_are across down s y [] = refl
answers_are across down s y (row ∷ rows) =
    ap (λ (l : List (List ℕ)). l ++ rows_answer (Enlarge across down) s (y + 1) rows) (row_of_enlarge across down s y row)
    ∙ ap (λ (l : List (List ℕ)). replicate down (enlarged_row across s row) ++ l) (answers_are across down s (y + 1) rows)

-- each row by itself, of all samples, which are seen as one long row
pub widened_cut : (across : ℕ) {count : ℕ} (s long : Shape) (rows : List (List ℕ)) {samples made : List ℕ} → AreEach (row_length s) rows
    → length rows ≡ count → samples ≡ concat rows → long.width ≡ s.width * count → long.depth ≡ s.depth → made ≡ enlarged_row across long samples
    → (cut_rows count (row_length s * across) made ≡ map (enlarged_row across s) rows) × (length made ≡ count * (row_length s * across))
widened_cut across {count} s long rows {made} are many all wide deep is =
    let E : List ℕ → List ℕ = enlarged_row across s in
    let rs : List (List ℕ) = map E rows in
    let W : ℕ = s.width * across * s.depth in
    let same : row_length s * across ≡ W = omega arith in
    let each_rs : AreEach W rs = enlarged_each across s rows are in
    let count_rs : length rs ≡ count = map_many E rows ∙ many in
    let pixels : long.width ≡ length rows * s.width = wide ∙ ap (λ (n : ℕ). s.width * n) (sym many) ∙ omega arith in
    let together : made ≡ concat rs =
    is ∙ ap (enlarged_row across long) all
    ∙ ap (λ (d : ℕ). columns_repeated across d (concat rows) long.width) deep
    ∙ ap (columns_repeated across s.depth (concat rows)) pixels
    ∙ each_repeated across s.depth s.width rows are in (
      ap (λ (n : ℕ). cut_rows count n made) same ∙ ap (cut_rows count W) together ∙ ap (λ (n : ℕ). cut_rows n W (concat rs)) (sym count_rs)
          ∙ cut_again W rs each_rs,
      ap length together ∙ length_together W rs each_rs ∙ ap (λ (n : ℕ). n * W) count_rs ∙ ap (λ (n : ℕ). count * n) (sym same),
    )

-- ---- numbers that stay small

-- the result has each pixel, and each row so many times
pub pixels_below : (width depth across down count : ℕ) {filled : ℕ} → 1 ≤ depth → 1 ≤ across → 1 ≤ down → filled ≡ count * (width * depth * across * down)
    → width * count ≤ filled
pixels_below width depth across down count deep wide high is =
    let one : 1 * 1 ≤ depth * across = mul-le-mul {n₁ = 1} {m₁ = 1} {n₂ = depth} {m₂ = across} deep wide in
    let some : 1 * 1 ≤ depth * across * down = mul-le-mul {n₁ = 1} {m₁ = 1} {n₂ = depth * across} {m₂ = down} (omega (arith, one)) high in
    let all : width * count * 1 ≤ width * count * (depth * across * down) =
    mul-le-mul {n₁ = width * count} {m₁ = 1} {n₂ = width * count} {m₂ = depth * across * down} (omega arith) (omega (arith, some)) in
    omega (arith, all, is)

-- ---- copies that are given

pub copies_in_parts : (m n : ℕ) (row : List ℕ) → replicate (m + n) row ≡ replicate m row ++ replicate n row
copies_in_parts zero n row = let same : zero + n ≡ n = omega arith in ap (λ (k : ℕ). replicate k row) same
copies_in_parts (suc m) n row =
    let more : suc m + n ≡ suc (m + n) = omega arith in
    ap (λ (k : ℕ). replicate k row) more ∙ ap (λ (l : List (List ℕ)). row ∷ l) (copies_in_parts m n row)
