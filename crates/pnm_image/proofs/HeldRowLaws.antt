-- Rows as they are held.
use Rattle.std.proofs.Common.{◌≡◌, ℕ, zero, suc, ◌-◌, ◌*◌, ◌+◌, ◌≤◌, ◌<◌, List, [], ◌∷◌, ◌++◌, get_or, length, map, take, drop, All}
use Rattle.std.proofs.Common.{refl, sym, ap, ap₂, subst, ◌∙◌, arith, zero-mul, suc-mul, mul-le-mul_right, inl, inr}
use Rattle.std.specs.List.{concat}
use Rattle.std.proofs.lemmas.List.{drop_at, drop-append-le, drop-drop, get_or_default, length-append, length-drop, length-take-le, nil_from_length}
use Rattle.std.proofs.lemmas.List.{take_at, take_all, take-append-le, take-take, drop-take}
use Rattle.std.proofs.lemmas.Bool.{cases_lt}
use Rattle.std.proofs.lemmas.List.Elements.{All-append, All-cons, All-drop, All-from_recursion, All-head, All-nil, All-tail, All-take}
use Rattle.pnm_samples.proofs.CutLaws.{length-cut_rows}
use Rattle.pnm_samples.proofs.PixelLaws.{length-all_pixels}
use Rattle.pnm_samples.proofs.PixelRowsLaws.{length_of_rows}
use Rattle.pnm_samples.specs.Cuts.{cut_rows}
use Rattle.pnm_samples.specs.PixelRows.{bytes_for, rows_of_bytes}
use Rattle.pnm_samples.specs.Pixels.{all_pixels}
use Rattle.pnm_image.specs.declared.rows.RowVec.{RowVec}
use Rattle.pnm_image.specs.declared.rows.RowVec.TheVariants.{Bits, Bytes, Words}
use Rattle.pnm_image.specs.declared.rows.RowSlice.{RowSlice}
use Rattle.pnm_image.specs.HeldRows.{AreRows, AreRowsWithin, HasAdded, row_lists}
use Rattle.pnm_image.specs.Internal.PickedRows.{HasAddedRow}
use Rattle.pnm_image.proofs.RowLaws.{lengths_of_cut_rows, row_ends_within}

-- there are as many as it says
pub length_of_lists : (count each : ℕ) (held : RowVec) → AreRows count each held → length (row_lists count each held) ≡ count
length_of_lists count each (Bits rows) h = h.0
length_of_lists count each (Bytes bytes) h = length-cut_rows count each bytes.items
length_of_lists count each (Words words) h = length-cut_rows count each words.items

-- and each is as long as it says
pub lengths_of_lists : (count each : ℕ) (held : RowVec) → AreRows count each held → All (λ row. length row ≡ each) (row_lists count each held)
lengths_of_lists count each (Bits rows) h = h.1
lengths_of_lists count each (Bytes bytes) h =
    All-from_recursion (λ (row : List ℕ). length row ≡ each) (cut_rows count each bytes.items) (lengths_of_cut_rows count each bytes.items h)
lengths_of_lists count each (Words words) h =
    All-from_recursion (λ (row : List ℕ). length row ≡ each) (cut_rows count each words.items) (lengths_of_cut_rows count each words.items h)

-- the length of rows is known of the first
pub one_length : (each other : ℕ) (rows : List (List ℕ)) → 1 ≤ length rows → All (λ row. length row ≡ each) rows → All (λ row. length row ≡ other) rows
    → other ≡ each
one_length each other rows some long also =
    let first : 0 < length rows = omega (arith, some) in
    sym (also 0 [] first) ∙ long 0 [] first

-- where a row lies
pub row_places : (count each at long : ℕ) → long ≡ count * each → at < count → (at * each + each ≤ long) × ((at + 1) * each ≡ at * each + each)
row_places count each at long is lt = (omega (arith, row_ends_within count each at lt, is), omega arith)

-- the only row
pub only_row : (rows : List (List ℕ)) → length rows ≡ 1 → rows ≡ get_or rows 0 [] ∷ []
only_row [] one = absurd (omega (arith, one))
only_row (row ∷ rows) one = ap (λ (l : List (List ℕ)). row ∷ l) (nil_from_length rows (omega (arith, one)))

-- a row more in which each sample is up to a number
pub within_more : (P : ℕ → Type 0) (at : ℕ) (rows : List (List ℕ)) → at < length rows → ((k : ℕ) (d : List ℕ) → k < at → All P (get_or rows k d))
    → All P (get_or rows at []) → (k : ℕ) (d : List ℕ) → k < at + 1 → All P (get_or rows k d)
within_more P at rows lt known more k d below = elim (cases_lt k at) [
  | inl before ↦ known k d before
  | inr after ↦
      let same : at ≡ k = omega (arith, below, after) in
      subst (λ (j : ℕ). All P (get_or rows j d)) same (subst (All P) (get_or_default rows at [] d lt) more)
]

-- a greater number is none below a sample, either
pub within_greater : (low high : ℕ) (rows : List (List ℕ)) → low ≤ high → AreRowsWithin low rows → AreRowsWithin high rows
within_greater low high rows le known = λ k d lt j e inside. let small = known k d lt j e inside in omega (arith, small, le)

-- ---- some of the rows

-- the first of those that are cut
pub cut_of_more : (n more each : ℕ) (samples : List ℕ) → take n (cut_rows (n + more) each samples) ≡ cut_rows n each samples
cut_of_more zero more each samples = refl
cut_of_more (suc n) more each samples =
    let count : suc n + more ≡ suc (n + more) = omega arith in
    ap (λ (k : ℕ). take (suc n) (cut_rows k each samples)) count
    ∙ ap (λ (l : List (List ℕ)). take each samples ∷ l) (cut_of_more n more each (drop each samples))

-- those behind the first
pub cut_behind_some : (n more each : ℕ) (samples : List ℕ) → drop n (cut_rows (n + more) each samples) ≡ cut_rows more each (drop (n * each) samples)
cut_behind_some zero more each samples =
    let same : 0 + more ≡ more = omega arith in
    let none : 0 * each ≡ 0 = omega (arith, zero-mul each) in
    ap (λ (k : ℕ). cut_rows k each samples) same ∙ sym (ap (λ (k : ℕ). cut_rows more each (drop k samples)) none)
cut_behind_some (suc n) more each samples =
    let count : suc n + more ≡ suc (n + more) = omega arith in
    let place : suc n * each ≡ each + n * each = omega (arith, suc-mul n each) in
    ap (λ (k : ℕ). drop (suc n) (cut_rows k each samples)) count ∙ cut_behind_some n more each (drop each samples)
    ∙ ap (cut_rows more each) (drop-drop (n * each) each samples ∙ ap (λ (k : ℕ). drop k samples) (sym place))

-- they are cut from so many samples
pub cut_of_front : (n each : ℕ) (samples : List ℕ) → cut_rows n each (take (n * each) samples) ≡ cut_rows n each samples
cut_of_front zero each samples = refl
cut_of_front (suc n) each samples =
    let size : suc n * each ≡ each + n * each = omega (arith, suc-mul n each) in
    let first : take each (take (each + n * each) samples) ≡ take each samples = take-take each (each + n * each) samples (omega arith) in
    ap (λ (k : ℕ). cut_rows (suc n) each (take k samples)) size
    ∙ ap₂ (λ (r : List ℕ) (l : List ℕ). r ∷ cut_rows n each l) first (drop-take each (n * each) samples)
    ∙ ap (λ (l : List (List ℕ)). take each samples ∷ l) (cut_of_front n each (drop each samples))

-- so many from one on
pub part_of_cut : (count each top many : ℕ) (samples : List ℕ) → top + many ≤ count
    → cut_rows many each (take (many * each) (drop (top * each) samples)) ≡ take many (drop top (cut_rows count each samples))
part_of_cut count each top many samples within =
    let more : ℕ = count - (top + many) in
    let all : top + (many + more) ≡ count = omega (arith, within) in
    cut_of_front many each (drop (top * each) samples) ∙ sym (cut_of_more many more each (drop (top * each) samples))
    ∙ ap (take many) (sym (cut_behind_some top (many + more) each samples) ∙ ap (λ (k : ℕ). drop top (cut_rows k each samples)) all)

-- where they lie
pub part_places : (count each top many long : ℕ) → long ≡ count * each → top + many ≤ count → top * each + many * each ≤ long
part_places count each top many long is within =
    let places : (top + many) * each ≤ count * each = mul-le-mul_right each within in
    omega (arith, places, is)

-- as many as they are
pub length_of_part : {X : Type 0} (count top many : ℕ) (xs : List X) → length xs ≡ count → top + many ≤ count → length (take many (drop top xs)) ≡ many
length_of_part {X = X} count top many xs long within = length-take-le many (drop top xs) (omega (arith, length-drop top xs, long, within))

-- a whole row of each
pub whole_rows : (each : ℕ) (rows : List (List ℕ)) → All (λ row. length row ≡ each) rows → map (λ row. take each (drop 0 row)) rows ≡ rows
whole_rows each [] long = refl
whole_rows each (row ∷ rows) long =
    let P : List ℕ → Type 0 = λ row. length row ≡ each in
    let first : length row ≤ each = omega (arith, All-head P row rows long) in
    ap₂ (λ (r : List ℕ) (l : List (List ℕ)). r ∷ l) (take_all each row first) (whole_rows each rows (All-tail P row rows long))

-- what holds of all rows holds of some of them
pub all_of_part : (P : List ℕ → Type 0) (top many : ℕ) (rows part : List (List ℕ)) → part ≡ take many (drop top rows) → All P rows → All P part
all_of_part P top many rows part is all = subst (All P) (sym is) (All-take P many (drop top rows) (All-drop P top rows all))

-- ---- rows behind others

-- samples behind others, cut into rows
pub cut_both : (count more each : ℕ) (held rest : List ℕ) → length held ≡ count * each
    → cut_rows (count + more) each (held ++ rest) ≡ cut_rows count each held ++ cut_rows more each rest
cut_both zero more each held rest long =
    let none : held ≡ [] = nil_from_length held (long ∙ zero-mul each) in
    let same : zero + more ≡ more = omega arith in
    ap (λ (n : ℕ). cut_rows n each (held ++ rest)) same ∙ ap (λ (l : List ℕ). cut_rows more each (l ++ rest)) none
cut_both (suc count) more each held rest long =
    let next : suc count + more ≡ suc (count + more) = omega arith in
    let total : length held ≡ each + count * each = long ∙ omega (arith, suc-mul count each) in
    let first : take each (held ++ rest) ≡ take each held = take-append-le each held rest (omega (arith, total)) in
    let left : drop each (held ++ rest) ≡ drop each held ++ rest = drop-append-le each held rest (omega (arith, total)) in
    ap (λ (n : ℕ). cut_rows n each (held ++ rest)) next
    ∙ ap₂ (λ (r : List ℕ) (l : List ℕ). r ∷ cut_rows (count + more) each l) first left
    ∙ ap (λ (l : List (List ℕ)). take each held ∷ l) (cut_both count more each (drop each held) rest (omega (arith, length-drop each held, total)))

-- as many samples as both
length_of_both : (count more each : ℕ) (held rest : List ℕ) → length held ≡ count * each → length rest ≡ more * each
    → length (held ++ rest) ≡ (count + more) * each
length_of_both count more each held rest long also = omega (arith, length-append held rest, long, also)

-- what is held then
pub cut_behind : (count more each : ℕ) (held rest both : List ℕ) → both ≡ held ++ rest → length held ≡ count * each → length rest ≡ more * each
    → (cut_rows (count + more) each both ≡ cut_rows count each held ++ cut_rows more each rest) × (length both ≡ (count + more) * each)
cut_behind count more each held rest both is long also = (
  ap (cut_rows (count + more) each) is ∙ cut_both count more each held rest long,
  ap length is ∙ length_of_both count more each held rest long also,
)

pub bits_behind : (count more each : ℕ) (held rest both : List (List ℕ)) → both ≡ held ++ rest
    → (length held ≡ count) × All (λ row. length row ≡ each) held → (length rest ≡ more) × All (λ row. length row ≡ each) rest
    → (both ≡ held ++ rest) × ((length both ≡ count + more) × All (λ row. length row ≡ each) both)
bits_behind count more each held rest both is h k = (
  is,
  (
    ap length is ∙ length-append held rest ∙ omega (arith, h.0, k.0),
    subst (λ (rows : List (List ℕ)). All (λ (row : List ℕ). length row ≡ each) rows) (sym is)
        (All-append (λ (row : List ℕ). length row ≡ each) held rest h.1 k.1),
  ),
)

-- what is so of rows that are held and lent is so of them by other names
pub added_as : (old other new next : RowVec) (more lent : RowSlice) → old ≡ other → new ≡ next → more ≡ lent → HasAdded other lent next → HasAdded old more new
added_as old other new next more lent olds news mores h =
    subst (λ (o : RowVec). HasAdded o more new) (sym olds)
    (subst (λ (n : RowVec). HasAdded other more n) (sym news) (subst (λ (m : RowSlice). HasAdded other m next) (sym mores) h))

-- a row behind others
pub cut_row_behind : (count each : ℕ) (held row both : List ℕ) → both ≡ held ++ row → length held ≡ count * each → length row ≡ each
    → (cut_rows (count + 1) each both ≡ cut_rows count each held ++ row ∷ []) × (length both ≡ (count + 1) * each)
cut_row_behind count each held row both is long also =
    let behind = cut_behind count 1 each held row both is long (omega (arith, also)) in
    let whole : take each row ≡ row = take_all each row (omega (arith, also)) in (
      behind.0 ∙ ap (λ (r : List ℕ). cut_rows count each held ++ r ∷ []) whole,
      behind.1,
    )

pub bits_row_behind : (count each : ℕ) (held : List (List ℕ)) (row : List ℕ) (both : List (List ℕ)) → both ≡ held ++ row ∷ []
    → (length held ≡ count) × All (λ row. length row ≡ each) held → length row ≡ each
    → (both ≡ held ++ row ∷ []) × ((length both ≡ count + 1) × All (λ row. length row ≡ each) both)
bits_row_behind count each held row both is h also =
    let P : List ℕ → Type 0 = λ row. length row ≡ each in
    bits_behind count 1 each held (row ∷ []) both is h (refl, All-cons P row [] also (All-nil P))

-- what is so of rows that are held is so of them by other names
pub row_added_as : (old other new next : RowVec) (row : List ℕ) → old ≡ other → new ≡ next → HasAddedRow other row next → HasAddedRow old row new
row_added_as old other new next row olds news h =
    subst (λ (o : RowVec). HasAddedRow o row new) (sym olds) (subst (λ (n : RowVec). HasAddedRow other row n) (sym news) h)

-- ---- rows of pixels

-- rows of pixels that bytes hold, each of which has so many
pub length_of_bits : (count each : ℕ) (bytes : List ℕ) → length bytes ≡ count * bytes_for each → All (λ row. length row ≡ each) (rows_of_bytes count each bytes)
length_of_bits zero each bytes size = All-nil (λ (row : List ℕ). length row ≡ each)
length_of_bits (suc count) each bytes size =
    let total : length bytes ≡ count * bytes_for each + bytes_for each = size ∙ suc-mul count (bytes_for each) in
    All-cons (λ (row : List ℕ). length row ≡ each) (take each (all_pixels bytes)) (rows_of_bytes count each (drop (bytes_for each) bytes))
    (length-take-le each (all_pixels bytes) (omega (arith, length-all_pixels bytes, total)))
    (length_of_bits count each (drop (bytes_for each) bytes) (omega (arith, length-drop (bytes_for each) bytes, total)))

-- so many rows of so many pixels lie so in their bytes, whatever these were said to be
pub parts_of_bits : (count each n e : ℕ) (bytes : List ℕ) (rows : List (List ℕ)) → rows ≡ rows_of_bytes n e bytes → length bytes ≡ n * bytes_for e
    → (length rows ≡ count) × All (λ row. length row ≡ each) rows → (length bytes ≡ count * bytes_for each) × (rows_of_bytes count each bytes ≡ rows)
parts_of_bits zero each n e bytes rows is long are =
    let none : n ≡ 0 = omega (arith, ap length is, length_of_rows n e bytes, are.0) in (
      long ∙ ap (λ (k : ℕ). k * bytes_for e) none ∙ zero-mul (bytes_for e) ∙ sym (zero-mul (bytes_for each)),
      sym (is ∙ ap (λ (k : ℕ). rows_of_bytes k e bytes) none),
    )
parts_of_bits (suc count) each n e bytes rows is long are =
    let many : n ≡ suc count = omega (arith, ap length is, length_of_rows n e bytes, are.0) in
    let known : All (λ row. length row ≡ e) rows =
    subst (λ (l : List (List ℕ)). All (λ (row : List ℕ). length row ≡ e) l) (sym is) (length_of_bits n e bytes long) in
    let same : e ≡ each = one_length each e rows (omega (arith, are.0)) are.1 known in
    (long ∙ ap₂ (λ (i j : ℕ). i * bytes_for j) many same, sym (is ∙ ap₂ (λ (i j : ℕ). rows_of_bytes i j bytes) many same))

-- ---- rows as words

-- the samples of rows, cut again
pub words_of_rows : (count each : ℕ) (rows : List (List ℕ)) (words : List ℕ) → length rows ≡ count → All (λ row. length row ≡ each) rows
    → words ≡ concat rows → (length words ≡ count * each) × (cut_rows count each words ≡ rows)
words_of_rows zero each [] words many long is = (ap length is ∙ sym (zero-mul each), refl)
words_of_rows zero each (row ∷ rows) words many long is = absurd (omega (arith, many))
words_of_rows (suc count) each [] words many long is = absurd (omega (arith, many))
words_of_rows (suc count) each (row ∷ rows) words many long is =
    let P : List ℕ → Type 0 = λ row. length row ≡ each in
    let first : length row ≡ each = All-head P row rows long in
    let rest = words_of_rows count each rows (concat rows) (omega (arith, many)) (All-tail P row rows long) refl in (
      omega (arith, ap length is, length-append row (concat rows), first, rest.0, suc-mul count each),
      ap (cut_rows (suc count) each) is
          ∙ ap₂ (λ (r : List ℕ) (l : List ℕ). r ∷ cut_rows count each l) (take_at row (concat rows) each first) (drop_at row (concat rows) each first)
          ∙ ap (λ (l : List (List ℕ)). row ∷ l) rest.1,
    )
