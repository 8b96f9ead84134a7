-- The rows of a flipped image, and what is still to be given of it.
use Rattle.pnm_row_tools.proofs.Words.{◌≡◌, ℕ, zero, suc, ◌+◌, ◌-◌, ◌*◌, ◌<◌, ◌≤◌, List, [], ◌∷◌, ◌++◌, length, take, drop, reverse, get_or, set, refl, sym, ap}
use Rattle.pnm_row_tools.proofs.Words.{◌∙◌, arith, mul-le-mul, length-take-le, length-drop, subst, All, flat_map, range_with_len, put_mid, length-append}
use Rattle.pnm_row_tools.proofs.Words.{reverse-append, reverse-reverse, length-reverse, take-append-drop, take_at, drop_at, drop-drop, take_more, drop_more}
use Rattle.pnm_row_tools.proofs.Words.{take_all, drop_all, pixel_of, flat_map_one_more, pieces_within, All-take, All-drop, last_first}
use Rattle.std.proofs.lemmas.List.{append_assoc}
use Rattle.std.proofs.lemmas.List.{append-nil}

-- ---- a row, the last pixel first

-- so many pixels of a row of so many columns and planes, the last one first
abbrev pub last_pixels : {X : Type 0} → ℕ → ℕ → List X → ℕ → List X
last_pixels width depth row count = flat_map (λ x. pixel_of depth row (width - 1 - x)) (range_with_len 0 count)

-- one pixel more
pub one_pixel_more : {X : Type 0} (width depth : ℕ) (row : List X) (x : ℕ) → last_pixels width depth row (x + 1) ≡ last_pixels width depth row x
    ++ pixel_of depth row (width - 1 - x)
one_pixel_more width depth row x = flat_map_one_more (λ x. pixel_of depth row (width - 1 - x)) 0 x x (omega arith)

-- the part of a list between two others, from behind
part_reversed : {X : Type 0} (a b c : List X) {n m : ℕ} → length c ≡ n → length b ≡ m → reverse (take m (drop n (reverse (a ++ (b ++ c))))) ≡ b
part_reversed {X = X} a b c {n} {m} long size =
    let behind : reverse (a ++ (b ++ c)) ≡ reverse c ++ (reverse b ++ reverse a) =
    reverse-append a (b ++ c) ∙ ap (λ (l : List X). l ++ reverse a) (reverse-append b c) ∙ append_assoc (reverse c) (reverse b) (reverse a) in
    ap (λ (l : List X). reverse (take m (drop n l))) behind
    ∙ ap (λ (l : List X). reverse (take m l)) (drop_at (reverse c) (reverse b ++ reverse a) n (length-reverse c ∙ long))
    ∙ ap (λ (l : List X). reverse l) (take_at (reverse b) (reverse a) m (length-reverse b ∙ size)) ∙ reverse-reverse b

-- the samples of a pixel of the reversed row, reversed again
pub pixel_reversed : {X : Type 0} (width depth : ℕ) (row : List X) (x : ℕ) → x < width → length row ≡ width * depth
    → reverse (take depth (drop (x * depth) (reverse row))) ≡ pixel_of depth row (width - 1 - x)
pixel_reversed {X = X} width depth row x below count =
    let n : ℕ = (width - 1 - x) * depth in
    let columns : width ≡ (width - 1 - x) + (1 + x) = omega arith in
    let size : length row ≡ n + (depth + x * depth) = count ∙ ap (λ (k : ℕ). k * depth) columns ∙ omega arith in
    let a : List X = take n row in
    let b : List X = take depth (drop n row) in
    let c : List X = drop depth (drop n row) in
    let rest : length (drop n row) ≡ depth + x * depth = omega (arith, length-drop n row) in
    let long : length c ≡ x * depth = omega (arith, length-drop depth (drop n row)) in
    let short : length b ≡ depth = length-take-le depth (drop n row) (omega arith) in
    let whole : row ≡ a ++ (b ++ c) = sym (ap (λ (l : List X). a ++ l) (take-append-drop depth (drop n row)) ∙ take-append-drop n row) in
    ap (λ (l : List X). reverse (take depth (drop (x * depth) (reverse l)))) whole ∙ part_reversed a b c long short

-- the first pixel of the rest is turned back
pub pixel_more : {X : Type 0} (width depth : ℕ) (row : List X) (x m : ℕ) {samples turned : List X} → x < width → length row ≡ width * depth
    → length samples ≡ length row → samples ≡ last_pixels width depth row x ++ drop (x * depth) (reverse row)
    → turned ≡ reverse (take m (drop (x * depth) samples)) → m ≡ depth
    → put_mid (x * depth) m samples turned ≡ last_pixels width depth row (x + 1) ++ drop ((x + 1) * depth) (reverse row)
pixel_more {X = X} width depth row x m {samples} {turned} below count same is made size =
    let n : ℕ = x * depth in
    let prefix : List X = last_pixels width depth row x in
    let back : List X = drop n (reverse row) in
    let fits : n ≤ width * depth = mul-le-mul {n₁ = x} {m₁ = depth} {n₂ = width} {m₂ = depth} (omega arith) (omega arith) in
    let left : length back ≡ length row - n = omega (arith, length-drop n (reverse row), length-reverse row) in
    let long : length prefix ≡ n = omega (arith, ap length is, length-append prefix back) in
    let rest : drop n samples ≡ back = ap (drop n) is ∙ drop_at prefix back n long in
    let pixel : turned ≡ pixel_of depth row (width - 1 - x) =
    made ∙ ap (λ (l : List X). reverse (take m l)) rest ∙ ap (λ (k : ℕ). reverse (take k back)) size ∙ pixel_reversed width depth row x below count in
    let behind : drop m (drop n samples) ≡ drop ((x + 1) * depth) (reverse row) =
    ap (drop m) rest ∙ drop-drop m n (reverse row) ∙ ap (λ (k : ℕ). drop k (reverse row)) (omega arith) in
    ap (λ (l : List X). l ++ (turned ++ drop m (drop n samples))) (ap (take n) is ∙ take_at prefix back n long)
    ∙ ap (λ (l : List X). prefix ++ (l ++ drop m (drop n samples))) pixel
    ∙ ap (λ (l : List X). prefix ++ (pixel_of depth row (width - 1 - x) ++ l)) behind
    ∙ sym (append_assoc prefix (pixel_of depth row (width - 1 - x)) (drop ((x + 1) * depth) (reverse row)))
    ∙ ap (λ (l : List X). l ++ drop ((x + 1) * depth) (reverse row)) (sym (one_pixel_more width depth row x))

-- pixels of one sample
single_pixels : {X : Type 0} (width : ℕ) (row : List X) (d : X) (n : ℕ) → length row ≡ width * 1 → n ≤ width → last_pixels width 1 row n ≡ take n (reverse row)
single_pixels width row d zero count le = refl
single_pixels {X = X} width row d (suc n) count le =
    let more : suc n ≡ n + 1 = omega arith in
    let here : n < length (reverse row) = omega (arith, length-reverse row) in
    let at : List X = get_or (reverse row) n d ∷ [] in
    let place : n * 1 ≡ n = omega arith in
    let pixel : pixel_of 1 row (width - 1 - n) ≡ at =
    sym (pixel_reversed width 1 row n (omega arith) count) ∙ ap (λ (k : ℕ). reverse (take 1 (drop k (reverse row)))) place
    ∙ ap (λ (l : List X). reverse (take 1 l)) (drop_more (reverse row) n d here) in
    ap (last_pixels width 1 row) more ∙ one_pixel_more width 1 row n
    ∙ ap (λ (l : List X). l ++ pixel_of 1 row (width - 1 - n)) (single_pixels width row d n count (omega arith))
    ∙ ap (λ (l : List X). take n (reverse row) ++ l) pixel
    ∙ sym (take_more (reverse row) n d here) ∙ ap (λ (k : ℕ). take k (reverse row)) (sym more)

-- pixels of one sample, from behind
some_pixels : {X : Type 0} (pixels size : ℕ) (row : List X) {samples : List X} (d : X) → 1 ≤ size → size ≤ 1 → length row ≡ pixels * size
    → samples ≡ reverse row → samples ≡ last_first pixels size row
some_pixels pixels size row d some one count is =
    let single : size ≡ 1 = omega arith in
    let long : length row ≡ pixels * 1 = count ∙ ap (λ (k : ℕ). pixels * k) single in
    is ∙ sym (take_all pixels (reverse row) (omega (arith, length-reverse row))) ∙ sym (single_pixels pixels row d pixels long (omega arith))
    ∙ ap (λ (k : ℕ). last_pixels pixels k row pixels) (sym single)

pub one_plane : {X : Type 0} (pixels size : ℕ) (row : List X) {samples : List X} → 1 ≤ size → size ≤ 1 → length row ≡ pixels * size → samples ≡ reverse row
    → samples ≡ last_first pixels size row
one_plane {X = X} pixels size [] some one count is =
    let none : List X = [] in
    let single : size ≡ 1 = omega arith in
    let wide : pixels * size ≡ pixels = ap (λ (k : ℕ). pixels * k) single ∙ omega arith in
    let width : 0 ≡ pixels = omega (arith, count, wide) in
    is ∙ ap (λ (k : ℕ). last_pixels pixels size none k) width
one_plane pixels size (x ∷ row) some one count is = some_pixels pixels size (x ∷ row) x some one count is

-- three samples, the last one first
pub three_reversed : {X : Type 0} (xs : List X) {a c : X} → length xs ≡ 3 → a ≡ get_or xs 0 a → c ≡ get_or xs 2 c → set (set xs 0 c) 2 a ≡ reverse xs
three_reversed [] three first last = absurd (omega arith)
three_reversed (p ∷ []) three first last = absurd (omega arith)
three_reversed (p ∷ q ∷ []) three first last = absurd (omega arith)
three_reversed {X = X} (p ∷ q ∷ r ∷ []) {a} three first last = ap (λ (x : X). x ∷ q ∷ a ∷ []) last ∙ ap (λ (x : X). r ∷ q ∷ x ∷ []) first
three_reversed (p ∷ q ∷ r ∷ s ∷ xs) three first last = absurd (omega arith)

-- once all pixels are turned back
pub pixels_turned : {X : Type 0} (pixels size : ℕ) (row : List X) {samples : List X} (n : ℕ) → length row ≡ pixels * size → n ≡ pixels
    → samples ≡ last_pixels pixels size row n ++ drop (n * size) (reverse row) → samples ≡ last_first pixels size row
pixels_turned {X = X} pixels size row n count all is =
    let none : drop (n * size) (reverse row) ≡ [] =
    drop_all (n * size) (reverse row) (omega (arith, length-reverse row, count, ap (λ (k : ℕ). k * size) all)) in
    is ∙ ap (λ (l : List X). last_pixels pixels size row n ++ l) none ∙ append-nil (last_pixels pixels size row n)
    ∙ ap (λ (k : ℕ). last_pixels pixels size row k) all

-- samples within a maxval stay so in a pixel
pixel_within : (maxval depth x : ℕ) (row : List ℕ) → All (λ sample. sample ≤ maxval) row → All (λ sample. sample ≤ maxval) (pixel_of depth row x)
pixel_within maxval depth x row h = All-take (λ sample. sample ≤ maxval) depth (drop (x * depth) row) (All-drop (λ sample. sample ≤ maxval) (x * depth) row h)

-- samples within a maxval stay so, the last pixel first
pub mirrored_within : (maxval pixels size : ℕ) (row : List ℕ) {new : List ℕ} → new ≡ last_first pixels size row → All (λ sample. sample ≤ maxval) row
    → All (λ sample. sample ≤ maxval) new
mirrored_within maxval pixels size row is h =
    subst (All (λ sample. sample ≤ maxval)) (sym is)
    (pieces_within maxval (λ x. pixel_of size row (pixels - 1 - x)) 0 pixels (λ x. pixel_within maxval size (pixels - 1 - x) row h))

-- pixels that change places
pub mirrored_in_place : (pixels size : ℕ) {row items lent new : List ℕ} {len : ℕ} → new ≡ last_first pixels size lent → length new ≡ length lent
    → lent ≡ items → items ≡ row → len ≡ length items → take len (new ++ drop (length new) items) ≡ last_first pixels size row
mirrored_in_place pixels size {items} {new} {len} made long same given count =
    let all : length new ≡ len = long ∙ ap length same ∙ sym count in
    take_at new (drop (length new) items) len all ∙ made ∙ ap (last_first pixels size) (same ∙ given)
