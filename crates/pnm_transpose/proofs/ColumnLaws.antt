-- Columns that are made side by side.
use Rattle.pnm_transpose.proofs.Words.{◌≡◌, ℕ, ◌+◌, ◌*◌, ◌<◌, ◌≤◌, inl, inr, List, [], ◌∷◌, ◌++◌, length, take, drop, get_or, set, map, All, Vec, Global}
use Rattle.pnm_transpose.proofs.Words.{vec_len, refl, sym, ap, subst, ◌∙◌, arith, mul-le-mul, suc-mul, add-mul, range_with_len, with_items, length-set}
use Rattle.pnm_transpose.proofs.Words.{get_or-append_seam, take-add, cases_eq, cases_lt, get_or-set_at, flat_map-append, append_assoc, append-nil}
use Rattle.pnm_transpose.proofs.Words.{length-append, length-drop, length-take-le, length-map, take_all, drop_more, get_or-drop, get_or-map, get_or-take}
use Rattle.pnm_transpose.proofs.Words.{get_or-set_other, get_or_append_left, get_or_default, same_lists, with_items_is, All-head, All-tail, All-weaker}
use Rattle.pnm_transpose.proofs.Words.{All-take, All-drop, All-get_or, get_or-map-range_with_len, length-map-range_with_len, AreBlank, AreLongEnough}
use Rattle.pnm_transpose.proofs.Words.{HavePixels, column_samples, column_of, pixel_of, color_of, pixel_of_one}

-- samples that another function tells alike
pub pixels_alike : {X : Type 0} (count at : ℕ) (f g : ℕ → List X) (old new : List (Vec X Global)) → ((k : ℕ) → f k ≡ g k) → HavePixels count at f old new
    → HavePixels count at g old new
pixels_alike {X = X} count at f g old new same h = record {
  many = h.many;
  long = h.long;
  stored = λ k d lt. subst (λ (l : List X). take (at + length l) (get_or new k d).items ≡ take at (get_or old k d).items ++ l) (same k) (h.stored k d lt);
  others = h.others;
}

-- pixels behind those that were stored before
pub pixels_behind : {X : Type 0} (count at m : ℕ) (f g both : ℕ → List X) (old columns new : List (Vec X Global)) → ((k : ℕ) → k < count → length (f k) ≡ m)
    → ((k : ℕ) → k < count → both k ≡ f k ++ g k)
    → HavePixels count at f old columns → HavePixels count (at + m) g columns new → HavePixels count at both old new
pixels_behind {X = X} count at m f g both old columns new size parts a b = record {
  many = b.many ∙ a.many;
  long = λ k d. b.long k d ∙ a.long k d;
  stored = λ k d lt.
      let place : at + length (both k) ≡ (at + m) + length (g k) = omega (arith, ap length (parts k lt), length-append (f k) (g k), size k lt) in
      let before : at + m ≡ at + length (f k) = omega (arith, size k lt) in
      ap (λ (n : ℕ). take n (get_or new k d).items) place ∙ b.stored k d lt
      ∙ ap (λ (n : ℕ). take n (get_or columns k d).items ++ g k) before ∙ ap (λ (l : List X). l ++ g k) (a.stored k d lt)
      ∙ append_assoc (take at (get_or old k d).items) (f k) (g k) ∙ ap (λ (l : List X). take at (get_or old k d).items ++ l) (sym (parts k lt));
  others = λ k d le. b.others k d le ∙ a.others k d le;
}

-- ---- all columns

-- places within all samples
pub within : (y m rows depth : ℕ) → y + m ≤ rows → y * depth + m * depth ≤ rows * depth
within y m rows depth le = omega (arith, add-mul y m depth, mul-le-mul {n₁ = y + m} {m₁ = depth} {n₂ = rows} {m₂ = depth} le (omega arith))

-- ---- four rows

module _ {X : Type 0} where
  -- rows that reach behind all of so many columns
  pub reach : (depth first count k : ℕ) (rows : List (List X)) → k < count → All (λ row. (first + count) * depth ≤ length row) rows
      → All (λ row. ((first + k) + 1) * depth ≤ length row) rows
  reach depth first count k rows lt long =
      let within : ((first + k) + 1) * depth ≤ (first + count) * depth = mul-le-mul {n₁ = (first + k) + 1} {m₁ = depth} {n₂ = first + count} {m₂ = depth}
      (omega arith) (omega arith) in
      All-weaker (λ (row : List X). (first + count) * depth ≤ length row) (λ (row : List X). ((first + k) + 1) * depth ≤ length row)
      (λ row le. omega (arith, within)) rows long

  -- a row that was looked up
  pub looked_up : (rows : List (List X)) (i : ℕ) {a row : List X} → a ≡ row → row ≡ get_or rows i row → a ≡ get_or rows i a
  looked_up rows i same is = subst (λ (r : List X). r ≡ get_or rows i r) (sym same) is

  -- the pixels of four rows
  pixels_of_four : (depth x : ℕ) (rows : List (List X)) {a b c d : List X} → length rows ≡ 4 → a ≡ get_or rows 0 a → b ≡ get_or rows 1 b
      → c ≡ get_or rows 2 c → d ≡ get_or rows 3 d
      → pixel_of depth a x ++ (pixel_of depth b x ++ (pixel_of depth c x ++ (pixel_of depth d x ++ []))) ≡ column_of depth rows x
  pixels_of_four depth x [] four ia ib ic id = absurd (omega arith)
  pixels_of_four depth x (p ∷ []) four ia ib ic id = absurd (omega arith)
  pixels_of_four depth x (p ∷ q ∷ []) four ia ib ic id = absurd (omega arith)
  pixels_of_four depth x (p ∷ q ∷ r ∷ []) four ia ib ic id = absurd (omega arith)
  pixels_of_four depth x (p ∷ q ∷ r ∷ s ∷ []) {b} {c} {d} four ia ib ic id =
      ap (λ (l : List X). pixel_of depth l x ++ (pixel_of depth b x ++ (pixel_of depth c x ++ (pixel_of depth d x ++ [])))) ia
      ∙ ap (λ (l : List X). pixel_of depth p x ++ (pixel_of depth l x ++ (pixel_of depth c x ++ (pixel_of depth d x ++ [])))) ib
      ∙ ap (λ (l : List X). pixel_of depth p x ++ (pixel_of depth q x ++ (pixel_of depth l x ++ (pixel_of depth d x ++ [])))) ic
      ∙ ap (λ (l : List X). pixel_of depth p x ++ (pixel_of depth q x ++ (pixel_of depth r x ++ (pixel_of depth l x ++ [])))) id
  pixels_of_four depth x (p ∷ q ∷ r ∷ s ∷ t ∷ rows) four ia ib ic id = absurd (omega arith)

  -- how far a row of them reaches
  reaches : (depth x i : ℕ) (rows : List (List X)) {a : List X} → i < length rows → a ≡ get_or rows i a → All (λ row. (x + 1) * depth ≤ length row) rows
      → (x + 1) * depth ≤ length a
  reaches depth x i rows {a} lt is long =
      subst (λ (row : List X). (x + 1) * depth ≤ length row) (sym is) (All-get_or (λ (row : List X). (x + 1) * depth ≤ length row) rows i a lt long)

  -- pixels of one sample
  pub four_samples : (x : ℕ) (rows : List (List X)) {a b c d : List X} {va vb vc vd : X} → length rows ≡ 4 → All (λ row. (x + 1) * 1 ≤ length row) rows
      → a ≡ get_or rows 0 a → b ≡ get_or rows 1 b → c ≡ get_or rows 2 c → d ≡ get_or rows 3 d → va ≡ get_or a x va → vb ≡ get_or b x vb → vc ≡ get_or c x vc
      → vd ≡ get_or d x vd → va ∷ vb ∷ vc ∷ vd ∷ [] ≡ column_of 1 rows x
  four_samples x rows {a} {b} {c} {d} {va} {vb} {vc} {vd} four long ia ib ic id ea eb ec ed =
      let pa : pixel_of 1 a x ≡ va ∷ [] = pixel_of_one a x va (omega (arith, reaches 1 x 0 rows (omega arith) ia long)) ea in
      let pb : pixel_of 1 b x ≡ vb ∷ [] = pixel_of_one b x vb (omega (arith, reaches 1 x 1 rows (omega arith) ib long)) eb in
      let pc : pixel_of 1 c x ≡ vc ∷ [] = pixel_of_one c x vc (omega (arith, reaches 1 x 2 rows (omega arith) ic long)) ec in
      let pd : pixel_of 1 d x ≡ vd ∷ [] = pixel_of_one d x vd (omega (arith, reaches 1 x 3 rows (omega arith) id long)) ed in
      sym (ap (λ (l : List X). l ++ (pixel_of 1 b x ++ (pixel_of 1 c x ++ (pixel_of 1 d x ++ [])))) pa
      ∙ ap (λ (l : List X). va ∷ (l ++ (pixel_of 1 c x ++ (pixel_of 1 d x ++ [])))) pb
      ∙ ap (λ (l : List X). va ∷ vb ∷ (l ++ (pixel_of 1 d x ++ []))) pc ∙ ap (λ (l : List X). va ∷ vb ∷ vc ∷ (l ++ [])) pd)
      ∙ pixels_of_four 1 x rows four ia ib ic id

  -- pixels of three samples
  pub four_colors : (x : ℕ) {n : ℕ} (rows : List (List X)) {a b c d p q r s : List X} → n ≡ 3 * x → length rows ≡ 4 → a ≡ get_or rows 0 a
      → b ≡ get_or rows 1 b → c ≡ get_or rows 2 c → d ≡ get_or rows 3 d → p ≡ take 3 (drop n a) → q ≡ take 3 (drop n b) → r ≡ take 3 (drop n c)
      → s ≡ take 3 (drop n d) → p ++ (q ++ (r ++ (s ++ []))) ≡ column_of 3 rows x
  four_colors x {n} rows {a} {b} {c} {d} {p} {q} {r} {s} at four ia ib ic id ip iq ir is =
      ap (λ (l : List X). l ++ (q ++ (r ++ (s ++ [])))) (color_of a p n x ip at)
      ∙ ap (λ (l : List X). pixel_of 3 a x ++ (l ++ (r ++ (s ++ [])))) (color_of b q n x iq at)
      ∙ ap (λ (l : List X). pixel_of 3 a x ++ (pixel_of 3 b x ++ (l ++ (s ++ [])))) (color_of c r n x ir at)
      ∙ ap (λ (l : List X). pixel_of 3 a x ++ (pixel_of 3 b x ++ (pixel_of 3 c x ++ (l ++ [])))) (color_of d s n x is at)
      ∙ pixels_of_four 3 x rows four ia ib ic id

  -- so do those that stand side by side, at as many columns
  pub reach_part : (depth first : ℕ) {count now : ℕ} (y m : ℕ) (rows : List (List X)) → now ≡ count → All (λ row. (first + count) * depth ≤ length row) rows
      → All (λ row. (first + now) * depth ≤ length row) (take m (drop y rows))
  reach_part depth first {now} y m rows many far =
      let P : List X → Type 0 = λ row. (first + now) * depth ≤ length row in
      All-take P m (drop y rows) (All-drop P y rows (subst (λ (n : ℕ). All (λ row. (first + n) * depth ≤ length row) rows) (sym many) far))

  -- so do all behind one
  pub reach_rest : (depth first count y : ℕ) (rows : List (List X)) → All (λ row. (first + count) * depth ≤ length row) rows
      → All (λ row. (first + count) * depth ≤ length row) (drop y rows)
  reach_rest depth first count y rows far = All-drop (λ (row : List X). (first + count) * depth ≤ length row) y rows far

  -- four rows of them
  pub four_of : (y : ℕ) (rows : List (List X)) → y + 4 ≤ length rows → length (take 4 (drop y rows)) ≡ 4
  four_of y rows le = length-take-le 4 (drop y rows) (omega (arith, length-drop y rows))

  -- a row of those behind one
  pub row_of_rest : (y i : ℕ) (rows : List (List X)) {a : List X} → y + i < length rows → a ≡ get_or rows (y + i) [] → a ≡ get_or (drop y rows) i a
  row_of_rest y i rows {a} lt is = is ∙ get_or_default rows (y + i) [] a lt ∙ sym (get_or-drop y rows i a)

  pub row_of_part : (m y i : ℕ) (rows : List (List X)) {a : List X} → i < m → y + i < length rows → a ≡ get_or rows (y + i) []
      → a ≡ get_or (take m (drop y rows)) i a
  row_of_part m y i rows {a} below lt is = row_of_rest y i rows lt is ∙ sym (get_or-take m (drop y rows) i a below)

  -- a row that was looked up reaches behind these columns
  pub row_reaches_at : (depth first count k i : ℕ) (rows : List (List X)) {a : List X} → k < count → i < length rows → a ≡ get_or rows i []
      → All (λ row. (first + count) * depth ≤ length row) rows → ((first + k) + 1) * depth ≤ length a
  row_reaches_at depth first count k i rows {a} below lt is long =
      reaches depth (first + k) i rows lt (is ∙ get_or_default rows i [] a lt) (reach depth first count k rows below long)

  -- nothing is stored yet
  pub nothing_stored : {at : ℕ} {pixels : ℕ → List X} {columns : List (Vec X Global)} → HavePixels 0 at pixels columns columns
  nothing_stored = record { many = refl; long = λ k d. refl; stored = λ k d lt. absurd (omega arith); others = λ k d le. refl }

  -- ---- rows more

  -- a column of rows that reach so far
  pub length_of_column : (depth : ℕ) (rows : List (List X)) (x : ℕ) → All (λ row. (x + 1) * depth ≤ length row) rows
      → length (column_of depth rows x) ≡ length rows * depth
  length_of_column depth [] x long = omega arith
  length_of_column depth (row ∷ rows) x long =
      let Reaches : List X → Type 0 = λ row. (x + 1) * depth ≤ length row in
      let here : (x + 1) * depth ≤ length row = All-head Reaches row rows long in
      let pixel : length (pixel_of depth row x) ≡ depth =
      length-take-le depth (drop (x * depth) row) (omega (arith, length-drop (x * depth) row, add-mul x 1 depth)) in
      omega (
        arith,
        length-append (pixel_of depth row x) (column_of depth rows x),
        pixel,
        length_of_column depth rows x (All-tail Reaches row rows long),
        suc-mul (length rows) depth,
      )

  -- one blank column more
  pub blank_more : {count samples : ℕ} {columns new : List (Vec X Global)} (column : Vec X Global) → AreBlank count samples columns
      → new ≡ columns ++ column ∷ [] → vec_len column ≡ samples → AreBlank (count + 1) samples new
  blank_more {count} {columns} column blank is size =
      record {
        many = omega (arith, ap length is, length-append columns (column ∷ []), blank.many);
        long = λ k d lt. ap (λ (l : List (Vec X Global)). vec_len (get_or l k d)) is ∙ elim (cases_lt k count) [
          | inl below ↦ ap vec_len (get_or_append_left columns (column ∷ []) d k (omega (arith, blank.many))) ∙ blank.long k d below
          | inr past ↦ (let last : k ≡ length columns = omega (arith, blank.many) in
              ap (λ (n : ℕ). vec_len (get_or (columns ++ column ∷ []) n d)) last ∙ ap vec_len (get_or-append_seam columns column [] d) ∙ size)
        ];
      }

  -- there is room in blank columns
  pub blank_enough : {count samples : ℕ} (most : ℕ) {items lent : List (Vec X Global)} → AreBlank count samples items → lent ≡ items → most ≡ samples
      → AreLongEnough most lent
  blank_enough {samples} most blank same is k d lt =
      omega (
        arith,
        is,
        subst (λ (l : List (Vec X Global)). vec_len (get_or l k d) ≡ samples) (sym same) (blank.long k d (omega (arith, blank.many, ap length same))),
      )

-- ---- the samples of a column more

module _ {X : Type 0} {old : List (Vec X Global)} where
  -- the next column has got its samples
  pub column_stored : {n at : ℕ} (pixels : ℕ → List X) {columns : List (Vec X Global)} (v : Vec X Global) {lent : List X} (new : List X) {stored : List X}
      → HavePixels n at pixels old columns → n < length columns → lent ≡ (get_or columns n v).items → length new ≡ length lent
      → take (at + length stored) new ≡ take at lent ++ stored → stored ≡ pixels n
      → HavePixels (n + 1) at pixels old (set columns n (with_items (get_or columns n v) new))
  column_stored {n} {at} pixels {columns} v items {stored} h below same size front is =
      let w : Vec X Global = get_or columns n v in
      let all : length items ≡ w.len = omega (arith, size, ap length same, w.ok.0) in
      let new : Vec X Global = with_items w items in
      let here : (d : Vec X Global) → w ≡ get_or old n d = λ d. get_or_default columns n v d below ∙ h.others n d (omega arith) in
      record {
        many = length-set columns n new ∙ h.many;
        long = λ k d. elim (cases_eq k n) [
          | inl e ↦ ap (λ (u : Vec X Global). vec_len u) (get_or-set_at columns n k new d e below) ∙ ap (λ (u : Vec X Global). vec_len u) (here d)
              ∙ ap (λ (i : ℕ). vec_len (get_or old i d)) (sym e)
          | inr other ↦ ap (λ (u : Vec X Global). vec_len u) (get_or-set_other columns n k new d other) ∙ h.long k d
        ];
        stored = λ k d lt. elim (cases_lt k n) [
          | inl before ↦ ap (λ (u : Vec X Global). take (at + length (pixels k)) u.items) (get_or-set_other columns n k new d (omega arith))
              ∙ h.stored k d before
          | inr now ↦
              let e : k ≡ n = omega arith in
              let samples : stored ≡ pixels k = is ∙ ap pixels (sym e) in
              ap (λ (u : Vec X Global). take (at + length (pixels k)) u.items) (get_or-set_at columns n k new d e below)
              ∙ ap (take (at + length (pixels k))) (with_items_is w items all)
              ∙ ap (λ (l : List X). take (at + length l) items) (sym samples) ∙ front
              ∙ ap (λ (l : List X). take at l ++ stored) (same ∙ ap (λ (u : Vec X Global). u.items) (here d ∙ ap (λ (i : ℕ). get_or old i d) (sym e)))
              ∙ ap (λ (l : List X). take at (get_or old k d).items ++ l) samples
        ];
        others = λ k d le. get_or-set_other columns n k new d (omega arith) ∙ h.others k d (omega arith);
      }

  -- so much room is in the next column
  pub room_in : {n at : ℕ} (least : ℕ) {pixels : ℕ → List X} {columns : List (Vec X Global)} (v : Vec X Global) {lent : List X}
      → HavePixels n at pixels old columns → AreLongEnough least old → n < length columns → lent ≡ (get_or columns n v).items → least ≤ length lent
  room_in {n} least {columns} v h long below same = omega (arith, long n v (omega (arith, h.many)), h.long n v, ap length same, (get_or columns n v).ok.0)

  -- no column has got samples yet
  pub none_stored : {at : ℕ} {pixels : ℕ → List X} → HavePixels 0 at pixels old old
  none_stored = record { many = refl; long = λ k d. refl; stored = λ k d lt. absurd (omega arith); others = λ k d le. refl }

  -- rows behind those before them
  pub rows_behind : (first depth n m : ℕ) {at : ℕ} (rows : List (List X)) {columns new : List (Vec X Global)} → n + m ≤ length rows
      → All (λ row. (first + length old) * depth ≤ length row) rows → HavePixels (length old) at (λ k. column_of depth (take n rows) (first + k)) old columns
      → HavePixels (length columns) (at + n * depth) (λ k. column_of depth (take m (drop n rows)) (first + k)) columns new
      → HavePixels (length old) at (λ k. column_of depth (take (n + m) rows) (first + k)) old new
  rows_behind first depth n m {at} rows {columns} {new} le long before behind =
      let count : ℕ = length old in
      let passed : length (take n rows) ≡ n = length-take-le n rows (omega arith) in
      pixels_behind count at (n * depth) (λ k. column_of depth (take n rows) (first + k)) (λ k. column_of depth (take m (drop n rows)) (first + k))
      (λ k. column_of depth (take (n + m) rows) (first + k)) old columns new (λ k below. length_of_column depth (take n rows) (first + k)
      (reach depth first count k (take n rows) below (All-take (λ (row : List X). (first + count) * depth ≤ length row) n rows long))
      ∙ ap (λ (i : ℕ). i * depth) passed) (λ k below. ap (λ (l : List (List X)). column_of depth l (first + k)) (take-add n m rows)
      ∙ flat_map-append (λ (row : List X). pixel_of depth row (first + k)) (take n rows) (take m (drop n rows))) before
      (subst (λ (i : ℕ). HavePixels i (at + n * depth) (λ k. column_of depth (take m (drop n rows)) (first + k)) columns new) before.many behind)

  -- four rows more
  pub four_behind : (first depth g : ℕ) {m at : ℕ} (rows : List (List X)) {columns new : List (Vec X Global)} → 4 * g + 4 ≤ length rows → m ≡ 4
      → All (λ row. (first + length old) * depth ≤ length row) rows
      → HavePixels (length old) at (λ k. column_of depth (take (4 * g) rows) (first + k)) old columns → HavePixels (length columns) (at + 4 * g * depth)
      (λ k. column_of depth (take m (drop (4 * g) rows)) (first + k)) columns new
      → HavePixels (length old) at (λ k. column_of depth (take (4 * (g + 1)) rows) (first + k)) old new
  four_behind first depth g {m} {at} rows {new} le four long before behind =
      let next : 4 * g + m ≡ 4 * (g + 1) = omega arith in
      subst (λ (n : ℕ). HavePixels (length old) at (λ k. column_of depth (take n rows) (first + k)) old new) next
      (rows_behind first depth (4 * g) m rows (omega arith) long before behind)

  -- a row behind those before it
  pub row_behind : (first depth n : ℕ) {at : ℕ} (rows : List (List X)) {row : List X} {columns new : List (Vec X Global)} → n < length rows
      → row ≡ get_or rows n row → All (λ row. (first + length old) * depth ≤ length row) rows
      → HavePixels (length old) at (λ k. column_of depth (take n rows) (first + k)) old columns → HavePixels (length columns) (at + n * depth)
      (λ k. pixel_of depth row (first + k)) columns new → HavePixels (length old) at (λ k. column_of depth (take (n + 1) rows) (first + k)) old new
  row_behind first depth n {at} rows {row} {columns} {new} lt is long before behind =
      let one : take 1 (drop n rows) ≡ row ∷ [] = ap (take 1) (drop_more rows n row lt) ∙ ap (λ (r : List X). r ∷ []) (sym is) in
      rows_behind first depth n 1 rows (omega arith) long before
      (subst (λ (l : List (List X)). HavePixels (length columns) (at + n * depth) (λ k. column_of depth l (first + k)) columns new) (sym one)
      (pixels_alike (length columns) (at + n * depth) (λ k. pixel_of depth row (first + k)) (λ k. column_of depth (row ∷ []) (first + k)) columns new
      (λ k. sym (append-nil (pixel_of depth row (first + k)))) behind))

  -- once all rows have passed
  pub all_behind : (first depth n : ℕ) {at count : ℕ} (rows : List (List X)) {new : List (Vec X Global)} → length rows ≤ n
      → HavePixels count at (λ k. column_of depth (take n rows) (first + k)) old new → HavePixels count at (λ k. column_of depth rows (first + k)) old new
  all_behind first depth n {at} {count} rows {new} le h = subst (λ (l : List (List X)). HavePixels count at (λ k. column_of depth l (first + k)) old new)
      (take_all n rows le) h

  -- there is still room behind what was stored
  pub room_left : {count at : ℕ} (least most : ℕ) {pixels : ℕ → List X} {columns : List (Vec X Global)} → least ≤ most → AreLongEnough most old
      → HavePixels count at pixels old columns → AreLongEnough least columns
  room_left least most le buffer h k d lt = omega (arith, le, buffer k d (omega (arith, h.many)), h.long k d)

  -- blank columns that were filled, number by number
  filled_by_number : {count : ℕ} (first : ℕ) {samples : ℕ} (f : ℕ → List X) {new : List (Vec X Global)} (v : Vec X Global) → AreBlank count samples old
      → HavePixels count 0 (λ k. f (first + k)) old new → ((k : ℕ) → k < count → length (f (first + k)) ≡ samples)
      → column_samples new ≡ map f (range_with_len first count)
  filled_by_number {count} first f {new} v blank h long =
      same_lists (column_samples new) (map f (range_with_len first count)) (length-map new (λ (v : Vec X Global). v.items) ∙ h.many ∙ blank.many
      ∙ sym (length-map-range_with_len f first count)) (λ k e lt.
      let inside : k < count = omega (arith, length-map new (λ (v : Vec X Global). v.items), h.many, blank.many) in
      let w : Vec X Global = get_or new k v in
      let whole : take (length (f (first + k))) w.items ≡ w.items =
      take_all (length (f (first + k))) w.items (omega (arith, long k inside, h.long k v, blank.long k v inside, w.ok.0)) in
      let prefix : length (f (first + k)) ≡ 0 + length (f (first + k)) = omega arith in
      get_or-map (λ (v : Vec X Global). v.items) new k v e (omega (arith, h.many, blank.many)) ∙ sym whole ∙ ap (λ (n : ℕ). take n w.items) prefix
      ∙ h.stored k v inside
      ∙ sym (get_or-map-range_with_len f first count k (first + k) e inside refl))

  -- blank columns that were filled
  pub columns_filled : {count : ℕ} (first : ℕ) {samples : ℕ} (f : ℕ → List X) (new : List (Vec X Global)) → AreBlank count samples old
      → HavePixels count 0 (λ k. f (first + k)) old new → ((k : ℕ) → k < count → length (f (first + k)) ≡ samples)
      → column_samples new ≡ map f (range_with_len first count)
  columns_filled {count} first f [] blank h long = let none : 0 ≡ count = h.many ∙ blank.many in ap (λ (n : ℕ). map f (range_with_len first n)) none
  columns_filled first f (column ∷ new) blank h long = filled_by_number first f column blank h long
