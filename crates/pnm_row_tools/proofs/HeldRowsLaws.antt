-- Rows as they are held: all their samples, and each of them changed.
use Rattle.pnm_row_tools.proofs.Words.{◌≡◌, ℕ, zero, suc, ◌-◌, ◌*◌, ◌<◌, ◌≤◌, List, [], ◌∷◌, get_or, length, map, reverse, drop, All, sym, ap, ap₂, subst, ◌∙◌}
use Rattle.pnm_row_tools.proofs.Words.{arith, refl, AllByRecursion, concat, get_or-reverse, length-map, length-reverse, take-map, drop-map, All-append}
use Rattle.pnm_row_tools.proofs.Words.{All-from_recursion, All-head, All-map, All-nil, All-tail, RowVec, Bits, Bytes, Words, Shape, row_length, AreRows}
use Rattle.pnm_row_tools.proofs.Words.{AreRowsWithin, row_lists, cut_rows, IsRowOf, length_of_lists, lengths_of_lists, words_of_rows, concat-cut_rows}
use Rattle.pnm_row_tools.proofs.Words.{rows_need, IsEachChanged, held_samples}

-- ---- rows in one list

-- they have so many samples
pub concat_long : {count : ℕ} (each : ℕ) (rows : List (List ℕ)) → (length rows ≡ count) × All (λ row. length row ≡ each) rows
    → length (concat rows) ≡ count * each
concat_long {count} each rows whole = (words_of_rows count each rows (concat rows) whole.0 whole.1 refl).0

-- cut again they are the same rows
pub concat_cut : {count : ℕ} (each : ℕ) (rows : List (List ℕ)) → (length rows ≡ count) × All (λ row. length row ≡ each) rows
    → cut_rows count each (concat rows) ≡ rows
concat_cut {count} each rows whole = (words_of_rows count each rows (concat rows) whole.0 whole.1 refl).1

-- no sample of them is above a number
concat_within : (most : ℕ) (rows : List (List ℕ)) → AreRowsWithin most rows → All (λ sample. sample ≤ most) (concat rows)
concat_within most [] within = All-nil (λ sample. sample ≤ most)
concat_within most (row ∷ rows) within =
    let Within : List ℕ → Type 0 = λ (row : List ℕ). All (λ sample. sample ≤ most) row in
    All-append (λ sample. sample ≤ most) row (concat rows) (All-head Within row rows within) (concat_within most rows (All-tail Within row rows within))

-- ---- all samples of rows that are held

-- they are as many as those of the rows
pub held_long : (count each : ℕ) (held : RowVec) → AreRows count each held → length (held_samples held) ≡ count * each
held_long count each (Bits rows) whole = concat_long each rows whole
held_long count each (Bytes bytes) whole = whole
held_long count each (Words words) whole = whole

-- cut they are the rows
pub held_cut : (count each : ℕ) (held : RowVec) → AreRows count each held → cut_rows count each (held_samples held) ≡ row_lists count each held
held_cut count each (Bits rows) whole = concat_cut each rows whole
held_cut count each (Bytes bytes) whole = refl
held_cut count each (Words words) whole = refl

-- they are those of the rows, one after another
concat_held : (count each : ℕ) (held : RowVec) → AreRows count each held → concat (row_lists count each held) ≡ held_samples held
concat_held count each (Bits rows) whole = refl
concat_held count each (Bytes bytes) whole = concat-cut_rows count each bytes.items whole
concat_held count each (Words words) whole = concat-cut_rows count each words.items whole

-- none of them is above a number that no sample of the rows is above
held_within : (most count each : ℕ) (held : RowVec) → AreRows count each held → AreRowsWithin most (row_lists count each held)
    → All (λ sample. sample ≤ most) (held_samples held)
held_within most count each held whole within =
    subst (All (λ sample. sample ≤ most)) (concat_held count each held whole) (concat_within most (row_lists count each held) within)

-- ---- rows of an image of a shape

-- they are as long as it says
pub length_of_shape : (s : Shape) (count each : ℕ) (held : RowVec) {rows : List (List ℕ)} → 1 ≤ count → AreRows count each held
    → rows ≡ row_lists count each held → AllByRecursion (IsRowOf s) rows → each ≡ row_length s
length_of_shape s count each held some whole cut are =
    let lists : List (List ℕ) = row_lists count each held in
    (rows_need s each lists (omega (arith, some, length_of_lists count each held whole)) (lengths_of_lists count each held whole)
    (subst (AllByRecursion (IsRowOf s)) cut are)).0

pub rows_of_shape : (s : Shape) (count each : ℕ) (held : RowVec) {rows : List (List ℕ)} → 1 ≤ count → AreRows count each held
    → rows ≡ row_lists count each held → AllByRecursion (IsRowOf s) rows → AreRows count (row_length s) held
rows_of_shape s count each held some whole cut are = subst (λ (n : ℕ). AreRows count n held) (length_of_shape s count each held some whole cut are) whole

-- no sample of them is above its maxval
pub rows_within : (s : Shape) (rows : List (List ℕ)) → AllByRecursion (IsRowOf s) rows → AreRowsWithin s.maxval rows
rows_within s rows are = λ k d lt. (All-from_recursion (IsRowOf s) rows are k d lt).range

pub samples_within : (s : Shape) (count each : ℕ) (held : RowVec) {rows : List (List ℕ)} → AreRows count each held → rows ≡ row_lists count each held
    → AllByRecursion (IsRowOf s) rows → All (λ sample. sample ≤ s.maxval) (held_samples held)
samples_within s count each held {rows} whole cut are = held_within s.maxval count each held whole (subst (AreRowsWithin s.maxval) cut (rows_within s rows are))

-- ---- each sample of them is changed

-- samples that are cut
pub cut_changed : (f : ℕ → ℕ) (count each : ℕ) (samples : List ℕ) → cut_rows count each (map f samples) ≡ map (map f) (cut_rows count each samples)
cut_changed f zero each samples = refl
cut_changed f (suc count) each samples =
    ap₂ (λ (r : List ℕ) (l : List (List ℕ)). r ∷ l) (take-map f each samples)
    (ap (cut_rows count each) (drop-map f each samples) ∙ cut_changed f count each (drop each samples))

-- rows of pixels stay such rows
pub bits_changed : (f : ℕ → ℕ) {old : RowVec} {rows new : List (List ℕ)} → old ≡ Bits rows → new ≡ map (map f) rows → (count each : ℕ)
    → AreRows count each old → ((length new ≡ count) × All (λ row. length row ≡ each) new) × (new ≡ map (map f) (row_lists count each old))
bits_changed f {rows} held is count each whole =
    let known = subst (AreRows count each) held whole in
    let long : All (λ row. length row ≡ each) (map (map f) rows) =
    All-map (λ (row : List ℕ). length row ≡ each) (map f) rows (λ k d lt. length-map (get_or rows k d) f ∙ known.1 k d lt) in (
      (ap length is ∙ length-map rows (map f) ∙ known.0, subst (All (λ (row : List ℕ). length row ≡ each)) (sym is) long),
      is ∙ ap (λ (h : RowVec). map (map f) (row_lists count each h)) (sym held),
    )

-- rows that are held one after another, then
pub items_changed : (f : ℕ → ℕ) (old : RowVec) (new : List ℕ) → new ≡ map f (held_samples old) → (count each : ℕ) → AreRows count each old
    → (length new ≡ count * each) × (cut_rows count each new ≡ map (map f) (row_lists count each old))
items_changed f old new is count each whole = (
  ap length is ∙ length-map (held_samples old) f ∙ held_long count each old whole,
  ap (cut_rows count each) is ∙ cut_changed f count each (held_samples old) ∙ ap (map (map f)) (held_cut count each old whole),
)

-- no sample of them is above another number
changed_within : (f : ℕ → ℕ) (low high : ℕ) (rows : List (List ℕ)) → ((sample : ℕ) → sample ≤ low → f sample ≤ high) → AreRowsWithin low rows
    → AreRowsWithin high (map (map f) rows)
changed_within f low high rows stays within =
    All-map (λ (row : List ℕ). All (λ sample. sample ≤ high) row) (map f) rows (λ k d lt.
    All-map (λ sample. sample ≤ high) f (get_or rows k d) (λ j e inside. stays (get_or (get_or rows k d) j e) (within k d lt j e inside)))

pub changed_rows_within : (s : Shape) (f : ℕ → ℕ) (high count each : ℕ) (old new : RowVec) {rows : List (List ℕ)} → rows ≡ row_lists count each old
    → AreRows count each old → IsEachChanged f old new → AllByRecursion (IsRowOf s) rows → ((sample : ℕ) → sample ≤ s.maxval → f sample ≤ high)
    → AreRowsWithin high (row_lists count each new)
changed_rows_within s f high count each old new {rows} cut whole changed are stays =
    subst (AreRowsWithin high) (ap (map (map f)) cut ∙ sym (changed count each whole).1) (changed_within f s.maxval high rows stays (rows_within s rows are))

-- ---- rows in the other order

pub reversed_all : (P : List ℕ → Type 0) (rows : List (List ℕ)) → All P rows → All P (reverse rows)
reversed_all P rows all = λ k d lt.
    let below : k < length rows = omega (arith, lt, length-reverse rows) in
    subst P (sym (get_or-reverse rows k d below)) (all (length rows - 1 - k) d (omega (arith, below)))
