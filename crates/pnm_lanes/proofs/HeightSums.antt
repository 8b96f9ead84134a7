-- The heights of the lanes' images are together that of the image.
use Rattle.pnm_lanes.proofs.Words.{◌≡◌, ℕ, zero, suc, ◌+◌, ◌%◌, ◌<◌, List, [], ◌∷◌, length, get_or, sum, refl, sym, ap, ◌∙◌, arith, ◌==◌, nat_lt, if◌then◌else◌}
use Rattle.pnm_lanes.proofs.Words.{nat_tests, sum_by-cons, mod_below, dealt_height}

-- the sum of a function's values from one number on
abbrev pub sum_from : (ℕ → ℕ) → ℕ → ℕ → ℕ
sum_from f first zero = 0
sum_from f first (suc n) = f first + sum_from f (suc first) n

sum_of_none : (first n : ℕ) → sum_from (λ lane. 0) first n ≡ 0
sum_of_none first zero = refl
sum_of_none first (suc n) = omega (arith, sum_of_none (suc first) n)

-- one more for one of the numbers
abbrev one_if : ℕ → ℕ → ℕ
one_if y lane = if y == lane then 1 else 0

abbrev within_one : ℕ → ℕ → ℕ → ℕ
within_one y first n = if nat_lt y first then 0 else (if nat_lt y (first + n) then 1 else 0)

none_within : (y first : ℕ) → within_one y first 0 ≡ 0
none_within y first = grind (arith, nat_tests)

one_within : (y first n : ℕ) → one_if y first + within_one y (suc first) n ≡ within_one y first (suc n)
one_within y first n = grind (arith, nat_tests)

sum_of_one : (f : ℕ → ℕ) (y first n : ℕ) → sum_from (λ lane. f lane + one_if y lane) first n ≡ sum_from f first n + within_one y first n
sum_of_one f y first zero = omega (arith, none_within y first)
sum_of_one f y first (suc n) = omega (arith, sum_of_one f y (suc first) n, one_within y first n)

all_within : (y n : ℕ) → y < n → within_one y 0 n ≡ 1
all_within y n below = grind (arith, nat_tests)

-- the lanes' heights are together that of the image
pub heights_together : (lanes height : ℕ) → 0 < lanes → sum_from (λ lane. dealt_height lane lanes height) 0 lanes ≡ height
heights_together lanes zero some = sum_of_none 0 lanes
heights_together lanes (suc y) some =
    let one = sum_of_one (λ lane. dealt_height lane lanes y) (y % lanes) 0 lanes in
    let here : within_one (y % lanes) 0 lanes ≡ 1 = all_within (y % lanes) lanes (mod_below y lanes some) in
    omega (arith, one, here, heights_together lanes y some)

sum_same : (f g : ℕ → ℕ) (first n : ℕ) → ((lane : ℕ) → lane < first + n → f lane ≡ g lane) → sum_from f first n ≡ sum_from g first n
sum_same f g first zero same = refl
sum_same f g first (suc n) same = omega (arith, same first (omega arith), sum_same f g (suc first) n (λ lane below. same lane (omega arith)))

-- lanes whose images have the same heights are those of one height
pub same_height : (lanes height other : ℕ) → 0 < lanes → ((lane : ℕ) → lane < lanes → dealt_height lane lanes height ≡ dealt_height lane lanes other)
    → height ≡ other
same_height lanes height other some same =
    sym (heights_together lanes height some)
    ∙ sum_same (λ lane. dealt_height lane lanes height) (λ lane. dealt_height lane lanes other) 0 lanes (λ lane below. same lane (omega arith))
    ∙ heights_together lanes other some

-- a list of a function's values
sum_of_list : (f : ℕ → ℕ) (first : ℕ) (heights : List ℕ) → ((lane : ℕ) → lane < length heights → get_or heights lane 0 ≡ f (first + lane))
    → sum heights ≡ sum_from f first (length heights)
sum_of_list f first [] same = refl
sum_of_list f first (height ∷ heights) same =
    let here : height ≡ f first = same 0 (omega arith) ∙ ap f (omega arith) in
    let others = sum_of_list f (suc first) heights (λ lane below. same (suc lane) (omega arith) ∙ ap f (omega arith)) in
    omega (arith, here, others, sum_by-cons (λ (x : ℕ). x) height heights)

-- heights that are dealt are together the height of which they are
pub sum_of_dealt : (heights : List ℕ) (height : ℕ) → 0 < length heights
    → ((lane : ℕ) → lane < length heights → get_or heights lane 0 ≡ dealt_height lane (length heights) height) → sum heights ≡ height
sum_of_dealt heights height some dealt =
    sum_of_list (λ lane. dealt_height lane (length heights) height) 0 heights
    (λ lane below. dealt lane below ∙ ap (λ (l : ℕ). dealt_height l (length heights) height) (omega arith))
    ∙ heights_together (length heights) height some
