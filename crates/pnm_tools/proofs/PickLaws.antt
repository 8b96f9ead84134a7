-- The picking of planes, pixel by pixel.
use Rattle.pnm_tools.proofs.Words.{◌≡◌, ◌↔◌, ℕ, zero, suc, ◌+◌, ◌-◌, ◌*◌, ◌<◌, ◌≤◌, List, [], ◌++◌, length, take, drop, map, get_or, Bool, true, false, IsTrue}
use Rattle.pnm_tools.proofs.Words.{nat_lt, inl, inr, refl, sym, ap, subst, ◌∙◌, arith, append_assoc, append-nil, mul-le-mul, put_mid, flat_map, range_with_len}
use Rattle.pnm_tools.proofs.Words.{list_all, ltb-true, lt-ltb, cases_lt, length-append, length-drop, take_at, drop_at, drop-drop, take_all, drop_all}
use Rattle.pnm_tools.proofs.Words.{get_or_past, All-nil, All-append, All-map, AllPass-from_list_all, list_all-from_AllPass, Shape, picked_samples, picked_or}
use Rattle.std.proofs.Common.{slice_index_or, All}

-- one number more
next_number : {X : Type 0} (f : ℕ → List X) (a n j : ℕ) → a + n ≡ j → flat_map f (range_with_len a (suc n)) ≡ flat_map f (range_with_len a n) ++ f j
next_number f a zero j e = append-nil (f a) ∙ ap f (omega arith)
next_number {X = X} f a (suc n) j e = ap (λ (l : List X). f a ++ l) (next_number f (a + 1) n j (omega arith))
    ∙ sym (append_assoc (f a) (flat_map f (range_with_len (a + 1) n)) (f j))

pub flat_map_one_more : {X : Type 0} (f : ℕ → List X) (a n j : ℕ) → a + n ≡ j → flat_map f (range_with_len a (n + 1)) ≡ flat_map f (range_with_len a n) ++ f j
flat_map_one_more f a n j e = let more : n + 1 ≡ suc n = omega arith in ap (λ (k : ℕ). flat_map f (range_with_len a k)) more ∙ next_number f a n j e

-- two answers that are yes together are one
same_answer : (a b : Bool) → (a ≡ true → b ≡ true) → (b ≡ true → a ≡ true) → a ≡ b
same_answer true true f g = refl
same_answer true false f g = sym (f refl)
same_answer false true f g = g refl
same_answer false false f g = refl

-- whether all planes are below the depth
pub all_below : (numbers : List ℕ) (depth : ℕ) (b : Bool) → (IsTrue b ↔ All (λ number. number < depth) numbers)
    → list_all (λ number. nat_lt number depth) numbers ≡ b
all_below numbers depth b h =
    let test : ℕ → Bool = λ number. nat_lt number depth in
    same_answer (list_all test numbers) b (λ e. h.1 (λ k d lt. ltb-true (slice_index_or numbers k d) depth (AllPass-from_list_all test numbers e k d lt)))
    (λ e. list_all-from_AllPass test numbers (λ k d lt. lt-ltb (slice_index_or numbers k d) depth (h.0 e k d lt)))

-- the first ones of these planes of a pixel stand in the buffer
abbrev pub HasPlanesOf : {X : Type 0} → List ℕ → List X → ℕ → ℕ → List X → Type 0
HasPlanesOf {X = X} numbers row first i buffer = (past : X) → take i buffer ≡ map (λ number. slice_index_or row (first + number) past) (take i numbers)

-- the first columns of these planes of a row stand in the buffer, which is else as it was
abbrev pub HasColumnsOf : {X : Type 0} → List ℕ → ℕ → List X → ℕ → List X → List X → Type 0
HasColumnsOf {X = X} numbers depth row count old buffer =
    (past : X) → buffer ≡ flat_map (λ x. map (λ number. slice_index_or row (x * depth + number) past) numbers) (range_with_len 0 count)
    ++ drop (count * length numbers) old

-- the next piece is written into a buffer whose prefix is filled
pub piece_written : {X : Type 0} (f : ℕ → List X) (each count x m : ℕ) (buffer samples piece : List X) → x < count → length buffer ≡ count * each
    → length samples ≡ length buffer
    → samples ≡ flat_map f (range_with_len 0 x) ++ drop (x * each) buffer → piece ≡ f x → m ≡ each
    → put_mid (x * each) m samples piece ≡ flat_map f (range_with_len 0 (x + 1)) ++ drop ((x + 1) * each) buffer
piece_written {X = X} f each count x m buffer samples piece below size same is made long =
    let n : ℕ = x * each in
    let prefix : List X = flat_map f (range_with_len 0 x) in
    let back : List X = drop n buffer in
    let fits : n ≤ count * each = mul-le-mul {n₁ = x} {m₁ = each} {n₂ = count} {m₂ = each} (omega arith) (omega arith) in
    let left : length back ≡ length buffer - n = length-drop n buffer in
    let filled : length prefix ≡ n = omega (arith, ap length is, length-append prefix back) in
    let rest : drop n samples ≡ back = ap (drop n) is ∙ drop_at prefix back n filled in
    let behind : drop m (drop n samples) ≡ drop ((x + 1) * each) buffer =
    ap (drop m) rest ∙ drop-drop m n buffer ∙ ap (λ (k : ℕ). drop k buffer) (omega arith) in
    ap (λ (l : List X). l ++ (piece ++ drop m (drop n samples))) (ap (take n) is ∙ take_at prefix back n filled)
    ∙ ap (λ (l : List X). prefix ++ (l ++ drop m (drop n samples))) made
    ∙ ap (λ (l : List X). prefix ++ (f x ++ l)) behind
    ∙ sym (append_assoc prefix (f x) (drop ((x + 1) * each) buffer))
    ∙ ap (λ (l : List X). l ++ drop ((x + 1) * each) buffer) (sym (flat_map_one_more f 0 x x (omega arith)))

-- a plane's sample of a pixel lies in the row
pub plane_there : (width depth x n size : ℕ) → x < width → n < depth → size ≡ width * depth → x * depth + n < size
plane_there width depth x n size column plane is =
    let within : suc x * depth ≤ width * depth = mul-le-mul {n₁ = suc x} {m₁ = depth} {n₂ = width} {m₂ = depth} (omega arith) (omega arith) in
    omega (arith, within)

-- so many samples of each column end within those of all columns
pub columns_end : (count each x : ℕ) → x < count → (x + 1) * each ≤ count * each
columns_end count each x below = mul-le-mul {n₁ = x + 1} {m₁ = each} {n₂ = count} {m₂ = each} (omega arith) (omega arith)

-- all planes of a pixel stand in the buffer
pub planes_picked : {X : Type 0} (numbers : List ℕ) (row : List X) (first i : ℕ) (buffer : List X) → length buffer ≤ i → length numbers ≤ i
    → HasPlanesOf numbers row first i buffer → (past : X) → buffer ≡ map (λ number. slice_index_or row (first + number) past) numbers
planes_picked numbers row first i buffer all passed h past =
    sym (take_all i buffer all) ∙ h past ∙ ap (map (λ number. slice_index_or row (first + number) past)) (take_all i numbers passed)

-- all columns of a row stand in the buffer, which is given back
pub columns_picked : {X : Type 0} (numbers : List ℕ) (s : Shape) (row : List X) (n len : ℕ) (old buffer items : List X) → n ≡ s.width
    → length old ≡ n * length numbers → length buffer ≡ len → HasColumnsOf numbers s.depth row n old buffer
    → (past : X) → take len (buffer ++ drop (length buffer) items) ≡ picked_or past numbers s row
columns_picked {X = X} numbers s row n len old buffer items all size long h past =
    let f : ℕ → List X = λ x. map (λ number. slice_index_or row (x * s.depth + number) past) numbers in
    let none : drop (n * length numbers) old ≡ [] = drop_all (n * length numbers) old (omega arith) in
    take_at buffer (drop (length buffer) items) len long ∙ h past ∙ ap (λ (l : List X). flat_map f (range_with_len 0 n) ++ l) none
    ∙ append-nil (flat_map f (range_with_len 0 n)) ∙ ap (λ (m : ℕ). flat_map f (range_with_len 0 m)) all

-- samples within a maxval stay so in pieces
pub pieces_within : (maxval : ℕ) (f : ℕ → List ℕ) (a n : ℕ) → ((x : ℕ) → All (λ sample. sample ≤ maxval) (f x))
    → All (λ sample. sample ≤ maxval) (flat_map f (range_with_len a n))
pieces_within maxval f a zero h = All-nil (λ sample. sample ≤ maxval)
pieces_within maxval f a (suc n) h = All-append (λ sample. sample ≤ maxval) (f a) (flat_map f (range_with_len (a + 1) n)) (h a)
    (pieces_within maxval f (a + 1) n h)

-- a sample of a row within a maxval, or past its end
sample_within : (maxval n : ℕ) (row : List ℕ) → All (λ sample. sample ≤ maxval) row → get_or row n 0 ≤ maxval
sample_within maxval n row h = elim (cases_lt n (length row)) [
  | inr past ↦ subst (λ (sample : ℕ). sample ≤ maxval) (sym (get_or_past row n 0 past)) (omega arith)
  | inl below ↦ h n 0 below
]

-- samples within a maxval stay so among those that are picked
pub picked_within : (numbers : List ℕ) (s : Shape) (row new : List ℕ) → new ≡ picked_samples numbers s row → All (λ sample. sample ≤ s.maxval) row
    → All (λ sample. sample ≤ s.maxval) new
picked_within numbers s row new is h =
    let f : ℕ → ℕ → ℕ = λ x number. get_or row (x * s.depth + number) 0 in
    subst (All (λ sample. sample ≤ s.maxval)) (sym is)
    (pieces_within s.maxval (λ x. map (f x) numbers) 0 s.width
    (λ x. All-map (λ sample. sample ≤ s.maxval) (f x) numbers (λ k d lt. sample_within s.maxval (x * s.depth + get_or numbers k d) row h)))
