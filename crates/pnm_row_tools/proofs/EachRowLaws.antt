-- Rows that are held one after another, of which each becomes another row.
use Rattle.pnm_row_tools.proofs.Words.{◌≡◌, ℕ, zero, suc, ◌+◌, ◌*◌, ◌<◌, ◌≤◌, List, [], ◌∷◌, ◌++◌, length, map, take, drop, All, refl, sym, ap, ◌∙◌, ◌-◌, arith}
use Rattle.pnm_row_tools.proofs.Words.{append-nil, append_assoc, length-take-le, length-drop, mul-le-mul, suc-mul, zero-mul, AllByRecursion, copy_within, paste}
use Rattle.pnm_row_tools.proofs.Words.{take-add, drop_at, drop-drop, drop-take, length-append, take-append-drop, take_at, take-take, drop-paste, length-paste}
use Rattle.pnm_row_tools.proofs.Words.{take-paste, All-drop, All-take, row_ends_within, cut_rows, IsRowOf, Shape, Tool, rows_answer, row_answer, changed, part}

-- a row more
pub one_row_more : {X : Type 0} (f : List X → List X) (each i : ℕ) (samples : List X)
    → changed f (suc i) each samples ≡ changed f i each samples ++ f (take each (drop (i * each) samples))
one_row_more {X = X} f each zero samples =
    append-nil (f (take each samples)) ∙ ap (λ (start : ℕ). f (take each (drop start samples))) (sym (zero-mul each))
one_row_more {X = X} f each (suc i) samples =
    let first : List X = f (take each samples) in
    let later : List X = changed f i each (drop each samples) in
    let place : each + i * each ≡ suc i * each = omega (arith, suc-mul i each) in
    let start : drop (i * each) (drop each samples) ≡ drop (suc i * each) samples = drop-drop (i * each) each samples ∙ ap (λ (n : ℕ). drop n samples) place in
    ap (λ (rest : List X). first ++ rest) (one_row_more f each i (drop each samples))
    ∙ sym (append_assoc first later (f (take each (drop (i * each) (drop each samples)))))
    ∙ ap (λ (row : List X). (first ++ later) ++ f (take each row)) start

-- how many samples they have
pub length-changed : {X : Type 0} (f : List X → List X) (each size : ℕ) → ((row : List X) → length row ≡ each → length (f row) ≡ size)
    → (count : ℕ) (samples : List X) → count * each ≤ length samples → length (changed f count each samples) ≡ count * size
length-changed f each size long zero samples le = sym (zero-mul size)
length-changed {X = X} f each size long (suc count) samples le =
    let rest : List X = drop each samples in
    let first : length (take each samples) ≡ each = length-take-le each samples (omega (arith, le, suc-mul count each)) in
    let enough : count * each ≤ length rest = omega (arith, le, suc-mul count each, length-drop each samples) in
    omega (
      arith,
      length-append (f (take each samples)) (changed f count each rest),
      long (take each samples) first,
      length-changed f each size long count rest enough,
      suc-mul count size,
    )

-- cut again they are the changed rows
pub cut_again : (f : List ℕ → List ℕ) (each size : ℕ) → ((row : List ℕ) → length row ≡ each → length (f row) ≡ size)
    → (count : ℕ) (samples : List ℕ) → count * each ≤ length samples
    → cut_rows count size (changed f count each samples) ≡ map f (cut_rows count each samples)
cut_again f each size long zero samples le = refl
cut_again f each size long (suc count) samples le =
    let rest : List ℕ = drop each samples in
    let row : List ℕ = f (take each samples) in
    let later : List ℕ = changed f count each rest in
    let first : length (take each samples) ≡ each = length-take-le each samples (omega (arith, le, suc-mul count each)) in
    let enough : count * each ≤ length rest = omega (arith, le, suc-mul count each, length-drop each samples) in
    let made : length row ≡ size = long (take each samples) first in
    ap (λ (r : List ℕ). r ∷ cut_rows count size (drop size (row ++ later))) (take_at row later size made)
    ∙ ap (λ (l : List ℕ). row ∷ cut_rows count size l) (drop_at row later size made)
    ∙ ap (λ (rows : List (List ℕ)). row ∷ rows) (cut_again f each size long count rest enough)

-- each is answered by the changed row
pub each_answered : (tool : Tool) (s : Shape) (f : List ℕ → List ℕ) (y : ℕ) (rows : List (List ℕ))
    → ((k : ℕ) (row : List ℕ) → y ≤ k → k < y + length rows → row_answer tool s k row ≡ f row ∷ []) → rows_answer tool s y rows ≡ map f rows
each_answered tool s f y [] answers = refl
each_answered tool s f y (row ∷ rows) answers =
    ap (λ (l : List (List ℕ)). l ++ rows_answer tool s (y + 1) rows) (answers y row (omega arith) (omega arith))
    ∙ ap (λ (l : List (List ℕ)). f row ∷ l)
    (each_answered tool s f (y + 1) rows (λ k r low high. answers k r (omega (arith, low)) (omega (arith, high))))

-- ---- some of the rows that are held

-- rows from one on are those that are cut from the samples from there on
pub cut_between : (skipped kept count each : ℕ) (samples : List ℕ) → skipped + kept ≤ count
    → cut_rows kept each (drop (skipped * each) samples) ≡ take kept (drop skipped (cut_rows count each samples))
cut_between zero zero count each samples fits = refl
cut_between zero (suc kept) zero each samples fits = let no : ⊥ = omega (arith, fits) in absurd no
cut_between zero (suc kept) (suc count) each samples fits =
    let none : zero * each ≡ 0 = zero-mul each in
    ap (λ (n : ℕ). cut_rows (suc kept) each (drop n samples)) none
    ∙ ap (λ (rows : List (List ℕ)). take each samples ∷ rows)
    (ap (λ (n : ℕ). cut_rows kept each (drop n (drop each samples))) (sym none) ∙ cut_between zero kept count each (drop each samples) (omega (arith, fits)))
cut_between (suc skipped) kept zero each samples fits = let no : ⊥ = omega (arith, fits) in absurd no
cut_between (suc skipped) kept (suc count) each samples fits =
    let place : suc skipped * each ≡ each + skipped * each = omega (arith, suc-mul skipped each) in
    ap (λ (n : ℕ). cut_rows kept each (drop n samples)) place
    ∙ ap (cut_rows kept each) (sym (drop-drop (skipped * each) each samples))
    ∙ cut_between skipped kept count each (drop each samples) (omega (arith, fits))

-- what holds of each row holds of some of them
pub rows_between : (P : List ℕ → Type 0) (skipped kept : ℕ) (rows : List (List ℕ)) → AllByRecursion P rows → AllByRecursion P (take kept (drop skipped rows))
rows_between P zero zero rows are = tt
rows_between P zero (suc kept) [] are = tt
rows_between P zero (suc kept) (row ∷ rows) are = (are.0, rows_between P zero kept rows are.1)
rows_between P (suc skipped) zero [] are = tt
rows_between P (suc skipped) (suc kept) [] are = tt
rows_between P (suc skipped) kept (row ∷ rows) are = rows_between P skipped kept rows are.1

-- ---- a part of each row, moved to the front

-- the parts of so many rows are moved; the rows behind them are as they were
pub record AreMoved {X : Type 0} (base start size each i : ℕ) (old now : List X) : Type 0 where
  pub front : take (i * size) now ≡ changed (part start size) i each (drop base old)
  pub rest : drop (base + i * each) now ≡ drop (base + i * each) old
  pub long : length now ≡ length old

-- the part of a row that lies among others
part_among : {X : Type 0} (start size each at : ℕ) (samples : List X) → start + size ≤ each
    → part start size (take each (drop at samples)) ≡ take size (drop start (drop at samples))
part_among {X = X} start size each at samples fits =
    let row : List X = drop at samples in
    let left : ℕ = each - start in
    let parts : each ≡ start + left = omega (arith, fits) in
    ap (λ (n : ℕ). take size (drop start (take n row))) parts ∙ ap (take size) (drop-take start left row)
    ∙ take-take size left (drop start row) (omega (arith, fits))

-- one row more of those behind the first samples
row_behind : {X : Type 0} (base start size each i : ℕ) (samples : List X) → start + size ≤ each
    → changed (part start size) (suc i) each (drop base samples)
    ≡ changed (part start size) i each (drop base samples) ++ take size (drop start (drop (base + i * each) samples))
row_behind {X = X} base start size each i samples fits =
    let before : List X = changed (part start size) i each (drop base samples) in
    one_row_more (part start size) each i (drop base samples)
    ∙ ap (λ (l : List X). before ++ part start size (take each l)) (drop-drop (i * each) base samples)
    ∙ ap (λ (l : List X). before ++ l) (part_among start size each (base + i * each) samples fits)

-- the part of one row more is moved
pub part_moved : {X : Type 0} {base start size each i : ℕ} (count : ℕ) {from to dest : ℕ} {old now new : List X} → new ≡ copy_within now from to dest
    → from ≡ base + i * each + start → to ≡ from + size → dest ≡ i * size → start + size ≤ each → i < count → base + count * each ≤ length old
    → AreMoved base start size each i old now → AreMoved base start size each (i + 1) old new
part_moved {X = X} {base} {start} {size} {each} {i} count {from} {dest} {old} {now} {new} made from_is to_is dest_is fits below count_is moved =
    let at : ℕ = base + i * each in
    let to_front : ℕ = i * size in
    let next : suc i ≡ i + 1 = omega arith in
    let within : at + each ≤ length now = omega (arith, row_ends_within count each i below, count_is, moved.long) in
    let ahead : to_front ≤ at = omega (arith, mul-le-mul {n₁ = i} {m₁ = size} {n₂ = i} {m₂ = each} (omega arith) (omega (arith, fits))) in
    let ends : to_front + size ≤ length now = omega (arith, within, ahead, fits) in
    let source : List X = drop from now in
    let enough : size ≤ length source = omega (arith, length-drop from now, from_is, within, fits) in
    let is : new ≡ paste now to_front source size =
    made ∙ ap (λ (n : ℕ). paste now dest source n) (omega (arith, to_is)) ∙ ap (λ (n : ℕ). paste now n source size) dest_is in
    let behind : source ≡ drop start (drop at old) =
    ap (λ (n : ℕ). drop n now) from_is ∙ sym (drop-drop start at now) ∙ ap (drop start) moved.rest in
    let front_to : (i + 1) * size ≡ to_front + size = omega arith in
    let rest_from : at + each ≡ base + (i + 1) * each = omega arith in
    let gap : ℕ = (at + each) - (to_front + size) in
    let parts : at + each ≡ (to_front + size) + gap = omega (arith, ahead, fits) in
    record {
      front = ap (λ (n : ℕ). take n new) front_to ∙ ap (take (to_front + size)) is
          ∙ take-paste now to_front source size (omega (arith, ends)) enough
          ∙ ap (λ (l : List X). l ++ take size source) moved.front
          ∙ ap (λ (l : List X). changed (part start size) i each (drop base old) ++ take size l) behind
          ∙ sym (row_behind base start size each i old fits)
          ∙ ap (λ (n : ℕ). changed (part start size) n each (drop base old)) next;
      rest = ap (λ (n : ℕ). drop n new) (sym rest_from ∙ parts) ∙ sym (drop-drop gap (to_front + size) new)
          ∙ ap (λ (l : List X). drop gap (drop (to_front + size) l)) is
          ∙ ap (drop gap) (drop-paste now to_front source size (omega (arith, ends)) enough)
          ∙ drop-drop gap (to_front + size) now ∙ ap (λ (n : ℕ). drop n now) (sym parts)
          ∙ sym (drop-drop each at now) ∙ ap (drop each) moved.rest ∙ drop-drop each at old
          ∙ ap (λ (n : ℕ). drop n old) rest_from;
      long = ap length is ∙ length-paste now to_front source size ends enough ∙ moved.long;
    }

-- before the first
pub none_moved : {X : Type 0} (base start size each : ℕ) (old : List X) → AreMoved base start size each 0 old old
none_moved base start size each old = record {
  front = ap (λ (n : ℕ). take n old) (zero-mul size);
  rest = refl;
  long = refl;
}

-- where a part is as long as it is to be
pub part_long : {X : Type 0} (start size : ℕ) {each : ℕ} → start + size ≤ each → (row : List X) → length row ≡ each → length (part start size row) ≡ size
part_long start size fits row long = length-take-le size (drop start row) (omega (arith, length-drop start row, long, fits))

-- a part of a row has no sample above the maxval
pub part_within : (start size : ℕ) {s : Shape} {row : List ℕ} → IsRowOf s row → All (λ sample. sample ≤ s.maxval) (part start size row)
part_within start size {s} {row} is =
    let P : ℕ → Type 0 = λ sample. sample ≤ s.maxval in
    All-take P size (drop start row) (All-drop P start row is.range)

-- once the parts of all rows are moved
pub all_moved : {X : Type 0} {base start size each i : ℕ} (count : ℕ) {old now : List X} → i ≡ count → AreMoved base start size each i old now
    → take (count * size) now ≡ changed (part start size) count each (drop base old)
all_moved {X = X} {base} {start} {size} {each} count {old} {now} all moved =
    ap (λ (n : ℕ). take (n * size) now) (sym all) ∙ moved.front ∙ ap (λ (n : ℕ). changed (part start size) n each (drop base old)) all

-- samples that are copied to where they are
pub copied_to_self : {X : Type 0} (samples : List X) {from to : ℕ} (count : ℕ) → from ≡ to → samples ≡ copy_within samples from (from + count) to
copied_to_self {X = X} samples {from} {to} count same =
    let rest : List X = drop to samples in
    let size : (from + count) - from ≡ count = omega arith in
    sym (
    ap (λ (n : ℕ). paste samples to (drop from samples) n) size ∙ ap (λ (n : ℕ). paste samples to (drop n samples) count) same
    ∙ append_assoc (take to samples) (take count rest) (drop (to + count) samples)
    ∙ ap (λ (l : List X). take to samples ++ (take count rest ++ l)) (sym (drop-drop count to samples))
    ∙ ap (λ (l : List X). take to samples ++ l) (take-append-drop count rest) ∙ take-append-drop to samples
    )

-- samples that are copied after those that were copied before, all down by as much
pub copied_further : {X : Type 0} (samples : List X) (from to done count : ℕ) → to ≤ from → from + done + count ≤ length samples
    → copy_within (copy_within samples from (from + done) to) (from + done) (from + done + count) (to + done)
    ≡ copy_within samples from (from + (done + count)) to
copied_further {X = X} samples from to done count down within =
    let source : List X = drop from samples in
    let now : List X = paste samples to source done in
    let first : (from + done) - from ≡ done = omega arith in
    let next : (from + done + count) - (from + done) ≡ count = omega arith in
    let both : (from + (done + count)) - from ≡ done + count = omega arith in
    let enough : done ≤ length source = omega (arith, length-drop from samples, within) in
    let gap : ℕ = from - to in
    let place : from + done ≡ (to + done) + gap = omega (arith, down) in
    let same : drop (to + done) now ≡ drop (to + done) samples = drop-paste samples to source done (omega (arith, down, within)) enough in
    let behind : drop (from + done) now ≡ drop done source =
    ap (λ (n : ℕ). drop n now) place ∙ sym (drop-drop gap (to + done) now) ∙ ap (drop gap) same ∙ drop-drop gap (to + done) samples
    ∙ ap (λ (n : ℕ). drop n samples) (sym place) ∙ sym (drop-drop done from samples) in
    let last : drop (to + done + count) now ≡ drop (to + (done + count)) samples =
    sym (drop-drop count (to + done) now) ∙ ap (drop count) same ∙ drop-drop count (to + done) samples
    ∙ ap (λ (n : ℕ). drop n samples) (omega arith) in
    ap (λ (n : ℕ). copy_within (paste samples to source n) (from + done) (from + done + count) (to + done)) first
    ∙ ap (λ (n : ℕ). paste now (to + done) (drop (from + done) now) n) next
    ∙ ap (λ (l : List X). (l ++ take count (drop (from + done) now)) ++ drop (to + done + count) now)
    (take-paste samples to source done (omega (arith, down, within)) enough)
    ∙ ap (λ (l : List X). ((take to samples ++ take done source) ++ take count l) ++ drop (to + done + count) now) behind
    ∙ ap (λ (l : List X). ((take to samples ++ take done source) ++ take count (drop done source)) ++ l) last
    ∙ ap (λ (l : List X). l ++ drop (to + (done + count)) samples)
    (append_assoc (take to samples) (take done source) (take count (drop done source))
    ∙ ap (λ (l : List X). take to samples ++ l) (sym (take-add done count source)))
    ∙ ap (λ (n : ℕ). paste samples to source n) (sym both)
