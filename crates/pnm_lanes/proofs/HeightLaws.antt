-- How many rows a lane gets: one in each round of as many rows as there are lanes, and one of those that are left.
use Rattle.pnm_lanes.proofs.Words.{◌≡◌, ℕ, zero, suc, ◌+◌, ◌*◌, ◌/◌, ◌%◌, ◌<◌, ◌≤◌, sym, ap, ◌∙◌, arith, ◌==◌, nat_lt, if◌then◌else◌, nat_tests, mod-mul-add}
use Rattle.pnm_lanes.proofs.Words.{div-add-mod', mod_below, dealt_height}

-- the lane gets one of the first rows of a round, or none
abbrev pub in_round : ℕ → ℕ → ℕ
in_round lane rows = if nat_lt lane rows then 1 else 0

-- the lane gets this row of a round, or doesn't
abbrev this_row : ℕ → ℕ → ℕ
this_row lane row = if row == lane then 1 else 0

one_row_more : (lane r : ℕ) → in_round lane r + this_row lane r ≡ in_round lane (suc r)
one_row_more lane r = grind (arith, nat_tests)

-- after whole rounds
after_rounds : (lane lanes : ℕ) {q : ℕ} (r : ℕ) → r ≤ lanes → dealt_height lane lanes (q * lanes) ≡ q
    → dealt_height lane lanes (q * lanes + r) ≡ q + in_round lane r
after_rounds lane lanes {q} zero le whole =
    let same : q * lanes + 0 ≡ q * lanes = omega arith in
    let none : in_round lane 0 ≡ 0 = grind (arith, nat_tests) in
    ap (dealt_height lane lanes) same ∙ whole ∙ omega (arith, none)
after_rounds lane lanes {q} (suc r) le whole =
    let next : q * lanes + suc r ≡ suc (q * lanes + r) = omega arith in
    let place : (q * lanes + r) % lanes ≡ r = mod-mul-add q lanes r (omega arith) in
    let before : dealt_height lane lanes (q * lanes + r) ≡ q + in_round lane r = after_rounds lane lanes r (omega arith) whole in
    let last : this_row lane ((q * lanes + r) % lanes) ≡ this_row lane r = ap (this_row lane) place in
    let one : in_round lane r + this_row lane r ≡ in_round lane (suc r) = one_row_more lane r in
    ap (dealt_height lane lanes) next ∙ omega (arith, before, last, one)

whole_rounds : (lane lanes q : ℕ) → lane < lanes → dealt_height lane lanes (q * lanes) ≡ q
whole_rounds lane lanes zero lt =
    let none : 0 * lanes ≡ 0 = omega arith in
    ap (dealt_height lane lanes) none
whole_rounds lane lanes (suc q) lt =
    let next : suc q * lanes ≡ q * lanes + lanes = grind arith in
    let got : in_round lane lanes ≡ 1 = grind (arith, nat_tests) in
    let round : dealt_height lane lanes (q * lanes + lanes) ≡ q + in_round lane lanes =
    after_rounds lane lanes lanes (omega arith) (whole_rounds lane lanes q lt) in
    ap (dealt_height lane lanes) next ∙ omega (arith, round, got)

-- by a division
pub height_by_division : (lane lanes height : ℕ) → lane < lanes → dealt_height lane lanes height ≡ height / lanes + in_round lane (height % lanes)
height_by_division lane lanes height lt =
    let below : height % lanes < lanes = mod_below height lanes (omega arith) in
    ap (dealt_height lane lanes) (sym (div-add-mod' height lanes)) ∙ after_rounds lane lanes (height % lanes) (omega (arith, below))
    (whole_rounds lane lanes (height / lanes) lt)
