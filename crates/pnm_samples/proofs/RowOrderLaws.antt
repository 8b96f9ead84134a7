-- The order of rows that are held one after another.
use Rattle.pnm_samples.proofs.Words.{◌≡◌, ℕ, zero, suc, ◌+◌, ◌-◌, ◌*◌, ◌/◌, ◌<◌, ◌≤◌, List, ◌∷◌, ◌++◌, length, take, drop, refl, sym, ap, ap₂, ◌∙◌, arith}
use Rattle.pnm_samples.proofs.Words.{mul-le-mul, suc-mul, zero-mul, flat_map, range_with_len, flat_map-append, drop_at, drop-drop, length-append, length-drop}
use Rattle.pnm_samples.proofs.Words.{length-take-le, take_at, put_mid, last_first}
use Rattle.std.proofs.Common.{append-nil, append_assoc}
use Rattle.std.proofs.Math.Seq.{take-add}

-- ---- pieces for the numbers of a range

range-append : (a m n : ℕ) → range_with_len a (m + n) ≡ range_with_len a m ++ range_with_len (a + m) n
range-append a zero n =
    let count : zero + n ≡ n = omega arith in
    let from : a ≡ a + zero = omega arith in
    ap (range_with_len a) count ∙ ap (λ (b : ℕ). range_with_len b n) from
range-append a (suc m) n =
    let count : suc m + n ≡ suc (m + n) = omega arith in
    let from : a + 1 + m ≡ a + suc m = omega arith in
    ap (range_with_len a) count ∙ ap (λ (l : List ℕ). a ∷ l) (range-append (a + 1) m n ∙ ap (λ (b : ℕ). range_with_len (a + 1) m ++ range_with_len b n) from)

-- in two parts
pieces_in_parts : {X : Type 0} (f : ℕ → List X) (a m n : ℕ)
    → flat_map f (range_with_len a (m + n)) ≡ flat_map f (range_with_len a m) ++ flat_map f (range_with_len (a + m) n)
pieces_in_parts f a m n = ap (flat_map f) (range-append a m n) ∙ flat_map-append f (range_with_len a m) (range_with_len (a + m) n)

-- one piece more
piece_behind : {X : Type 0} (f : ℕ → List X) (n : ℕ) → flat_map f (range_with_len 0 (n + 1)) ≡ flat_map f (range_with_len 0 n) ++ f n
piece_behind {X = X} f n =
    let from : 0 + n ≡ n = omega arith in
    pieces_in_parts f 0 n 1
    ∙ ap (λ (l : List X). flat_map f (range_with_len 0 n) ++ l) (append-nil (f (0 + n)) ∙ ap f from)

piece_before : {X : Type 0} (f : ℕ → List X) (a b n : ℕ) → a + 1 ≡ b → flat_map f (range_with_len a (n + 1)) ≡ f a ++ flat_map f (range_with_len b n)
piece_before {X = X} f a b n is =
    let count : n + 1 ≡ suc n = omega arith in
    ap (λ (k : ℕ). flat_map f (range_with_len a k)) count ∙ ap (λ (k : ℕ). f a ++ flat_map f (range_with_len k n)) is

-- pieces of one length
pieces_long : {X : Type 0} (f : ℕ → List X) (each a n end : ℕ) → a + n ≤ end → ((y : ℕ) → y < end → length (f y) ≡ each)
    → length (flat_map f (range_with_len a n)) ≡ n * each
pieces_long f each a zero end within long = sym (zero-mul each)
pieces_long f each a (suc n) end within long =
    let rest = pieces_long f each (a + 1) n end (omega (arith, within)) long in
    omega (arith, length-append (f a) (flat_map f (range_with_len (a + 1) n)), long a (omega (arith, within)), rest, suc-mul n each)

-- ---- a row of so many samples

abbrev pub row_at : {X : Type 0} → ℕ → List X → ℕ → List X
row_at each samples row = take each (drop (row * each) samples)

-- ---- rows that change places

-- so many of the first have changed places with so many of the last
abbrev pub swapped : {X : Type 0} → ℕ → ℕ → ℕ → List X → List X
swapped count each passed samples =
    (flat_map (λ y. row_at each samples (count - 1 - y)) (range_with_len 0 passed)
    ++ take ((count - 2 * passed) * each) (drop (passed * each) samples))
    ++ flat_map (λ y. row_at each samples (count - 1 - y)) (range_with_len (count - passed) passed)

-- of five parts the second and the fourth change places
parts_swapped : {X : Type 0} {a each n : ℕ} (p : ℕ) (A F M L Z : List X) {now front back part other : List X} → now ≡ (A ++ (F ++ (M ++ L))) ++ Z
    → length A ≡ a → length F ≡ each → length L ≡ each → length A + (length F + length M) ≡ p → n ≡ each → front ≡ take p now → back ≡ drop p now
    → part ≡ take each back → other ≡ take n (drop a front) → put_mid a n front part ++ (other ++ drop each back) ≡ (A ++ (L ++ M)) ++ (F ++ Z)
parts_swapped {X = X} {a} {each} {n} p A F M L Z {now} {front} {back} {part} {other} is first second fourth place size front_is back_is part_is other_is =
    let parts : now ≡ (A ++ (F ++ M)) ++ (L ++ Z) = is ∙ simp append_assoc in
    let long : length (A ++ (F ++ M)) ≡ p = length-append A (F ++ M) ∙ ap (λ (k : ℕ). length A + k) (length-append F M) ∙ place in
    let fore : front ≡ A ++ (F ++ M) = front_is ∙ ap (take p) parts ∙ take_at (A ++ (F ++ M)) (L ++ Z) p long in
    let aft : back ≡ L ++ Z = back_is ∙ ap (drop p) parts ∙ drop_at (A ++ (F ++ M)) (L ++ Z) p long in
    let from : drop a front ≡ F ++ M = ap (drop a) fore ∙ drop_at A (F ++ M) a first in
    let width : length F ≡ n = second ∙ sym size in
    let lower : part ≡ L = part_is ∙ ap (take each) aft ∙ take_at L Z each fourth in
    let upper : other ≡ F = other_is ∙ ap (take n) from ∙ take_at F M n width in
    let before : take a front ≡ A = ap (take a) fore ∙ take_at A (F ++ M) a first in
    let middle : drop n (drop a front) ≡ M = ap (drop n) from ∙ drop_at F M n width in
    let behind : drop each back ≡ Z = ap (drop each) aft ∙ drop_at L Z each fourth in
    ap₂ (λ (l k : List X). (l ++ (part ++ k)) ++ (other ++ drop each back)) before middle
    ∙ ap₂ (λ (l k : List X). (A ++ (l ++ M)) ++ (k ++ drop each back)) lower upper
    ∙ ap (λ (l : List X). (A ++ (L ++ M)) ++ (F ++ l)) behind

module _ {X : Type 0} (count row : ℕ) (samples : List X) where
  row_long : (each : ℕ) → length samples ≡ count * each → row < count → length (row_at each samples row) ≡ each
  row_long each long lt =
      let within : (row + 1) * each ≤ count * each =
      mul-le-mul {n₁ = row + 1} {m₁ = each} {n₂ = count} {m₂ = each} (omega (arith, lt)) (omega arith) in
      length-take-le each (drop (row * each) samples) (omega (arith, within, long, length-drop (row * each) samples))

  -- counted from the last one on
  last_long : (each : ℕ) → length samples ≡ count * each → row < count → length (row_at each samples (count - 1 - row)) ≡ each
  last_long each long lt = Rattle.pnm_samples.proofs.RowOrderLaws.row_long count (count - 1 - row) samples each long (omega (arith, lt))

  -- the rows between them
  between_parts : (each : ℕ) → 2 * row + 2 ≤ count → take ((count - 2 * row) * each)
      (drop (row * each) samples) ≡ row_at each samples row ++ (take ((count - 2 * (row + 1)) * each) (drop ((row + 1) * each) samples) ++ row_at each
      samples (count - 1 - row))
  between_parts each le =
      let left : ℕ = count - 2 * (row + 1) in
      let middle : ℕ = left * each in
      let all : count - 2 * row ≡ 1 + (left + 1) = omega (arith, le) in
      let size : (count - 2 * row) * each ≡ each + (middle + each) = ap (λ (k : ℕ). k * each) all ∙ omega arith in
      let next : row * each + each ≡ (row + 1) * each = omega arith in
      let last : left + (row + 1) ≡ count - 1 - row = omega (arith, le) in
      let place : middle + (row + 1) * each ≡ (count - 1 - row) * each =
      omega arith ∙ ap (λ (k : ℕ). k * each) last in
      let from : List X = drop (row * each) samples in
      let behind : List X = drop ((row + 1) * each) samples in
      let rest : drop each from ≡ behind = drop-drop each (row * each) samples ∙ ap (λ (k : ℕ). drop k samples) (omega (arith, next)) in
      let end : drop middle behind ≡ drop ((count - 1 - row) * each) samples =
      drop-drop middle ((row + 1) * each) samples ∙ ap (λ (k : ℕ). drop k samples) (omega (arith, place)) in
      ap (λ (k : ℕ). take k from) size ∙ take-add each (middle + each) from
      ∙ ap (λ (l : List X). take each from ++ take (middle + each) l) rest
      ∙ ap (λ (l : List X). take each from ++ l) (take-add middle each behind ∙ ap (λ (l : List X). take middle behind ++ take each l) end)

  -- one row more from either end
  pub swap_more : {each a n p : ℕ} {now front back part other : List X} → length samples ≡ count * each → row < count / 2
      → now ≡ swapped count each row samples → a ≡ row * each → n ≡ each → p ≡ (count - 1 - row) * each → front ≡ take p now → back ≡ drop p now
      → part ≡ take each back → other ≡ take n (drop a front) → put_mid a n front part ++ (other ++ drop each back) ≡ swapped count each (row + 1) samples
  swap_more {each} {p} {now} long lt is start size place front_is back_is part_is other_is =
      let f : ℕ → List X = λ y. row_at each samples (count - 1 - y) in
      let half : 2 * row + 2 ≤ count = omega (arith, lt) in
      let A : List X = flat_map f (range_with_len 0 row) in
      let Z : List X = flat_map f (range_with_len (count - row) row) in
      let F : List X = row_at each samples row in
      let L : List X = row_at each samples (count - 1 - row) in
      let left : ℕ = count - 2 * (row + 1) in
      let M : List X = take (left * each) (drop ((row + 1) * each) samples) in
      let parts : now ≡ (A ++ (F ++ (M ++ L))) ++ Z = is ∙ ap (λ (l : List X). (A ++ l) ++ Z) (between_parts each half) in
      let each_long : (y : ℕ) → y < count → length (f y) ≡ each = λ y below. Rattle.pnm_samples.proofs.RowOrderLaws.last_long count y samples each long below in
      let first : length A ≡ row * each = pieces_long f each 0 row count (omega (arith, half)) each_long in
      let second : length F ≡ each = row_long each long (omega (arith, half)) in
      let fourth : length L ≡ each = each_long row (omega (arith, half)) in
      let total : (row + 1) + (left + (row + 1)) ≡ count = omega (arith, half) in
      let all : (row + 1) * each + (left * each + (row + 1) * each) ≡ count * each = omega arith ∙ ap (λ (k : ℕ). k * each) total in
      let third : length M ≡ left * each =
      length-take-le (left * each) (drop ((row + 1) * each) samples) (omega (arith, length-drop ((row + 1) * each) samples, long, all)) in
      let before : row + (1 + left) ≡ count - 1 - row = omega (arith, half) in
      let there : row * each + (each + left * each) ≡ (count - 1 - row) * each = omega arith ∙ ap (λ (k : ℕ). k * each) before in
      let top : A ++ (L ++ M) ≡ flat_map f (range_with_len 0 (row + 1)) ++ M =
      sym (append_assoc A L M) ∙ ap (λ (l : List X). l ++ M) (sym (piece_behind f row)) in
      let next : count - 1 - (count - (row + 1)) ≡ row = omega (arith, half) in
      let end : F ++ Z ≡ flat_map f (range_with_len (count - (row + 1)) (row + 1)) =
      ap (λ (k : ℕ). row_at each samples k ++ Z) (sym next)
      ∙ sym (piece_before f (count - (row + 1)) (count - row) row (omega (arith, half))) in
      parts_swapped p A F M L Z parts (first ∙ sym start) second fourth
      (omega (arith, first, second, third, there, place)) size front_is back_is part_is other_is
      ∙ ap₂ (λ (l k : List X). l ++ k) top end

-- the row in the middle, where there is one
middle_row : {X : Type 0} (left half : ℕ) {count : ℕ} (each : ℕ) (samples : List X) → left ≤ 1 → half + (left + half) ≡ count → take (left * each)
    (drop (half * each) samples) ≡ flat_map (λ y. row_at each samples (count - 1 - y)) (range_with_len half left)
middle_row {X = X} zero half each samples le is =
    let none : 0 * each ≡ 0 = omega (arith, zero-mul each) in
    ap (λ (k : ℕ). take k (drop (half * each) samples)) none
middle_row {X = X} (suc zero) half {count} each samples le is =
    let one : 1 * each ≡ each = omega arith in
    let same : half ≡ count - 1 - half = omega (arith, is) in
    ap (λ (k : ℕ). take k (drop (half * each) samples)) one ∙ ap (row_at each samples) same
    ∙ sym (append-nil (row_at each samples (count - 1 - half)))
middle_row (suc (suc left)) half each samples le is = absurd (omega (arith, le))

-- all of them
pub all_swapped : {X : Type 0} (count each passed : ℕ) (samples : List X) {now : List X} → now ≡ swapped count each passed samples → passed ≡ count / 2
    → now ≡ last_first count each samples
all_swapped {X = X} count each passed samples is half =
    let f : ℕ → List X = λ y. row_at each samples (count - 1 - y) in
    let left : ℕ = count - 2 * passed in
    let all : passed + (left + passed) ≡ count = omega (arith, half) in
    let A : List X = flat_map f (range_with_len 0 passed) in
    let Z : List X = flat_map f (range_with_len (count - passed) passed) in
    let from : 0 + passed ≡ passed = omega arith in
    let end : passed + left ≡ count - passed = omega (arith, all) in
    is ∙ append_assoc A (take (left * each) (drop (passed * each) samples)) Z
    ∙ ap (λ (l : List X). A ++ (l ++ Z)) (middle_row left passed each samples (omega (arith, half)) all)
    ∙ ap (λ (k : ℕ). A ++ (flat_map f (range_with_len passed left) ++ flat_map f (range_with_len k passed))) (sym end)
    ∙ ap (λ (l : List X). A ++ l) (sym (pieces_in_parts f passed left passed))
    ∙ ap (λ (k : ℕ). A ++ flat_map f (range_with_len k (left + passed))) (sym from)
    ∙ sym (pieces_in_parts f 0 passed (left + passed)) ∙ ap (λ (k : ℕ). flat_map f (range_with_len 0 k)) all

-- ---- rows in the other order

-- they are as many samples
pub last_first_long : {X : Type 0} (count each : ℕ) (samples : List X) → length samples ≡ count * each → length (last_first count each samples) ≡ count * each
last_first_long count each samples long =
    pieces_long (λ y. row_at each samples (count - 1 - y)) each 0 count count (omega arith) (λ y below. last_long count y samples each long below)

-- a row of them
pub row_of_last_first : {X : Type 0} (count each row : ℕ) (samples : List X) → length samples ≡ count * each → row < count
    → row_at each (last_first count each samples) row ≡ row_at each samples (count - 1 - row)
row_of_last_first {X = X} count each row samples long lt =
    let f : ℕ → List X = λ y. row_at each samples (count - 1 - y) in
    let left : ℕ = count - 1 - row in
    let all : row + (left + 1) ≡ count = omega (arith, lt) in
    let A : List X = flat_map f (range_with_len 0 row) in
    let from : 0 + row ≡ row = omega arith in
    let rest : List X = flat_map f (range_with_len (row + 1) left) in
    let parts : last_first count each samples ≡ A ++ (f row ++ rest) =
    ap (λ (k : ℕ). flat_map f (range_with_len 0 k)) (sym all) ∙ pieces_in_parts f 0 row (left + 1)
    ∙ ap (λ (k : ℕ). A ++ flat_map f (range_with_len k (left + 1))) from
    ∙ ap (λ (l : List X). A ++ l) (piece_before f row (row + 1) left refl) in
    let before : length A ≡ row * each =
    pieces_long f each 0 row count (omega (arith, lt)) (λ y below. last_long count y samples each long below) in
    ap (λ (l : List X). row_at each l row) parts ∙ ap (take each) (drop_at A (f row ++ rest) (row * each) before)
    ∙ take_at (f row) rest each (last_long count row samples each long lt)
