-- Lists made from a function of each number of a range.
use Rattle.pnm_tools.proofs.Words.{◌≡◌, ℕ, zero, suc, ◌+◌, ◌-◌, ◌*◌, ◌/◌, ◌<◌, ◌≤◌, List, [], ◌∷◌, ◌++◌, length, map, reverse, replicate, refl, sym, ap, ◌∙◌}
use Rattle.pnm_tools.proofs.Words.{arith, suc-mul, zero-mul, flat_map, range_with_len, div-mul-add, same_lists, length-reverse, get_or-reverse, map-append}
use Rattle.pnm_tools.proofs.Words.{length-append, flat_map_single, get_or-map-range_with_len, length-map-range_with_len, flat_map-append}

-- lists that are alike at each number of two ranges of one length
pub alike_from : {A : Type 0} (f g : ℕ → A) (a b n : ℕ) → ((i : ℕ) → i < n → f (a + i) ≡ g (b + i)) → map f (range_with_len a n) ≡ map g (range_with_len b n)
alike_from f g a b zero same = refl
alike_from {A = A} f g a b (suc n) same =
    let from : a ≡ a + 0 = omega arith in
    let to : b + 0 ≡ b = omega arith in
    ap (λ (x : A). x ∷ map f (range_with_len (a + 1) n)) (ap f from ∙ same 0 (omega arith) ∙ ap g to)
    ∙ ap (λ (l : List A). g b ∷ l) (alike_from f g (a + 1) (b + 1) n (λ i lt.
    let left : (a + 1) + i ≡ a + suc i = omega arith in
    let right : b + suc i ≡ (b + 1) + i = omega arith in
    ap f left ∙ same (suc i) (omega arith) ∙ ap g right))

pub pieces_alike_from : {A : Type 0} (f g : ℕ → List A) (a b n : ℕ) → ((i : ℕ) → i < n → f (a + i) ≡ g (b + i))
    → flat_map f (range_with_len a n) ≡ flat_map g (range_with_len b n)
pieces_alike_from f g a b zero same = refl
pieces_alike_from {A = A} f g a b (suc n) same =
    let from : a ≡ a + 0 = omega arith in
    let to : b + 0 ≡ b = omega arith in
    ap (λ (l : List A). l ++ flat_map f (range_with_len (a + 1) n)) (ap f from ∙ same 0 (omega arith) ∙ ap g to)
    ∙ ap (λ (l : List A). g b ++ l) (pieces_alike_from f g (a + 1) (b + 1) n (λ i lt.
    let left : (a + 1) + i ≡ a + suc i = omega arith in
    let right : b + suc i ≡ (b + 1) + i = omega arith in
    ap f left ∙ same (suc i) (omega arith) ∙ ap g right))

-- lists that are alike at each number of a range
pub pieces_alike : {A : Type 0} (f g : ℕ → List A) (a n : ℕ) → ((x : ℕ) → x < a + n → f x ≡ g x)
    → flat_map f (range_with_len a n) ≡ flat_map g (range_with_len a n)
pieces_alike f g a n same = pieces_alike_from f g a a n (λ i lt. same (a + i) (omega arith))

-- the numbers of a range in the opposite order
pub downward : {A : Type 0} (f : ℕ → A) (n : ℕ) → map (λ y. f (n - 1 - y)) (range_with_len 0 n) ≡ reverse (map f (range_with_len 0 n))
downward {A = A} f n =
    let up : List A = map f (range_with_len 0 n) in
    let down : List A = map (λ y. f (n - 1 - y)) (range_with_len 0 n) in
    let size : length up ≡ n = length-map-range_with_len f 0 n in
    let other : length down ≡ n = length-map-range_with_len (λ y. f (n - 1 - y)) 0 n in
    same_lists down (reverse up) (other ∙ sym size ∙ sym (length-reverse up)) (λ k d lt.
    let below : k < n = omega arith in
    let at : 0 + (length up - 1 - k) ≡ n - 1 - k = omega arith in
    get_or-map-range_with_len (λ y. f (n - 1 - y)) 0 n k k d below (omega arith)
    ∙ sym (get_or-reverse up k d (omega arith) ∙ get_or-map-range_with_len f 0 n (length up - 1 - k) (n - 1 - k) d (omega arith) at))

-- a range in two parts
pub range-append : (a m n : ℕ) → range_with_len a (m + n) ≡ range_with_len a m ++ range_with_len (a + m) n
range-append a zero n =
    let count : zero + n ≡ n = omega arith in
    let from : a ≡ a + zero = omega arith in
    ap (range_with_len a) count ∙ ap (λ (b : ℕ). range_with_len b n) from
range-append a (suc m) n =
    let count : suc m + n ≡ suc (m + n) = omega arith in
    let from : a + 1 + m ≡ a + suc m = omega arith in
    ap (range_with_len a) count ∙ ap (λ (l : List ℕ). a ∷ l) (range-append (a + 1) m n ∙ ap (λ (b : ℕ). range_with_len (a + 1) m ++ range_with_len b n) from)

pub pieces_in_parts : {A : Type 0} (f : ℕ → List A) (a m n : ℕ) → flat_map f (range_with_len a (m + n)) ≡ flat_map f (range_with_len a m) ++ flat_map f
    (range_with_len (a + m) n)
pieces_in_parts f a m n = ap (flat_map f) (range-append a m n) ∙ flat_map-append f (range_with_len a m) (range_with_len (a + m) n)

pub map_in_parts : {A : Type 0} (f : ℕ → A) (a m n : ℕ) → map f (range_with_len a (m + n)) ≡ map f (range_with_len a m) ++ map f (range_with_len (a + m) n)
map_in_parts f a m n = ap (map f) (range-append a m n) ∙ map-append f (range_with_len a m) (range_with_len (a + m) n)

-- so many of a list, whatever the numbers of the range
all_one_piece : {A : Type 0} (f : ℕ → List A) (piece : List A) (a b n : ℕ) → ((x : ℕ) → a ≤ x → x < a + n → f x ≡ piece)
    → flat_map f (range_with_len a n) ≡ flat_map (λ _. piece) (range_with_len b n)
all_one_piece f piece a b zero same = refl
all_one_piece {A = A} f piece a b (suc n) same =
    ap (λ (l : List A). l ++ flat_map f (range_with_len (a + 1) n)) (same a (omega arith) (omega arith))
    ∙ ap (λ (l : List A). piece ++ l) (all_one_piece f piece (a + 1) (b + 1) n (λ x low high. same x (omega arith) (omega arith)))

-- a number whose quotient is known
quotient_is : (a x n : ℕ) → a * n ≤ x → x < a * n + n → x / n ≡ a
quotient_is a x n low high =
    let rest : ℕ = x - a * n in
    let parts : x ≡ a * n + rest = omega arith in
    ap (λ (k : ℕ). k / n) parts ∙ div-mul-add a n rest (omega arith)

-- each list of a range so many times, from one number on
pieces_repeated : {A : Type 0} (f : ℕ → List A) (n a w : ℕ) → flat_map (λ x. f (x / n)) (range_with_len (a * n) (w * n))
    ≡ flat_map (λ x. flat_map (λ _. f x) (range_with_len 0 n)) (range_with_len a w)
pieces_repeated f n a zero = ap (λ (k : ℕ). flat_map (λ x. f (x / n)) (range_with_len (a * n) k)) (zero-mul n)
pieces_repeated {A = A} f n a (suc w) =
    let g : ℕ → List A = λ x. f (x / n) in
    let count : suc w * n ≡ n + w * n = omega (arith, suc-mul w n) in
    let from : a * n + n ≡ (a + 1) * n = omega arith in
    let first : flat_map g (range_with_len (a * n) n) ≡ flat_map (λ _. f a) (range_with_len 0 n) =
    all_one_piece g (f a) (a * n) 0 n (λ x low high. ap f (quotient_is a x n low high)) in
    ap (λ (k : ℕ). flat_map g (range_with_len (a * n) k)) count
    ∙ pieces_in_parts g (a * n) n (w * n)
    ∙ ap (λ (l : List A). l ++ flat_map g (range_with_len (a * n + n) (w * n))) first
    ∙ ap (λ (l : List A). flat_map (λ _. f a) (range_with_len 0 n) ++ l) (ap (λ (b : ℕ). flat_map g (range_with_len b (w * n))) from
    ∙ pieces_repeated f n (a + 1) w)

-- each list of a range so many times
pub each_repeated : {A : Type 0} (f : ℕ → List A) (n w : ℕ) → flat_map (λ x. f (x / n)) (range_with_len 0 (w * n))
    ≡ flat_map (λ x. flat_map (λ _. f x) (range_with_len 0 n)) (range_with_len 0 w)
each_repeated f n w = ap (λ (a : ℕ). flat_map (λ x. f (x / n)) (range_with_len a (w * n))) (sym (zero-mul n)) ∙ pieces_repeated f n 0 w

-- one value so many times
pub replicated : {A : Type 0} (x : A) (a n : ℕ) → flat_map (λ _. x ∷ []) (range_with_len a n) ≡ replicate n x
replicated x a zero = refl
replicated {A = A} x a (suc n) = ap (λ (l : List A). x ∷ l) (replicated x (a + 1) n)

-- each value of a range so many times
pub each_replicated : {A : Type 0} (f : ℕ → A) (n w : ℕ) → map (λ y. f (y / n)) (range_with_len 0 (w * n)) ≡ flat_map (λ y. replicate n (f y))
    (range_with_len 0 w)
each_replicated f n w =
    sym (flat_map_single (λ y. f (y / n)) (range_with_len 0 (w * n)))
    ∙ each_repeated (λ y. f y ∷ []) n w
    ∙ pieces_alike (λ y. flat_map (λ _. f y ∷ []) (range_with_len 0 n)) (λ y. replicate n (f y)) 0 w (λ y lt. replicated (f y) 0 n)

-- pieces of one length
pub length_of_equals : {A : Type 0} (f : ℕ → List A) (d a n : ℕ) → ((x : ℕ) → length (f x) ≡ d) → length (flat_map f (range_with_len a n)) ≡ n * d
length_of_equals f d a zero long = sym (zero-mul d)
length_of_equals f d a (suc n) long =
    omega (arith, length-append (f a) (flat_map f (range_with_len (a + 1) n)), long a, length_of_equals f d (a + 1) n long, suc-mul n d)
