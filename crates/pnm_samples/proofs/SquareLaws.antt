-- Sixteen rows of sixteen bytes, with rows and columns exchanged by interleaving them four times.
use Rattle.pnm_samples.proofs.Words.{◌≡◌, ◌≢◌, ℕ, zero, suc, ◌+◌, ◌*◌, ◌/◌, ◌%◌, ◌<◌, inl, inr, List, [], ◌∷◌, ◌++◌, length, get_or, set, refl, sym, ap, ap₂}
use Rattle.pnm_samples.proofs.Words.{◌∙◌, arith, true, eqb, get_or-set_other, get_or-set_same, agree_below_at, cases_eq, eqb-true, get_or-append-add}
use Rattle.pnm_samples.proofs.Words.{get_or-map, get_or_append_left, pick_l, IsSquare, lane_at}
use Rattle.std.proofs.Common.{length-set}

-- ---- two rows interleaved

-- the lanes of two vectors that an interleave takes, in its order
abbrev pub low_places : List ℕ
low_places = 0 ∷ 16 ∷ 1 ∷ 17 ∷ 2 ∷ 18 ∷ 3 ∷ 19 ∷ 4 ∷ 20 ∷ 5 ∷ 21 ∷ 6 ∷ 22 ∷ 7 ∷ 23 ∷ []

abbrev pub high_places : List ℕ
high_places = 8 ∷ 24 ∷ 9 ∷ 25 ∷ 10 ∷ 26 ∷ 11 ∷ 27 ∷ 12 ∷ 28 ∷ 13 ∷ 29 ∷ 14 ∷ 30 ∷ 15 ∷ 31 ∷ []

low_place : (c : ℕ) → c < 16 → get_or low_places c 0 ≡ c / 2 + 16 * (c % 2)
low_place c lt = eqb-true (get_or low_places c 0) (c / 2 + 16 * (c % 2))
    (agree_below_at (λ n. eqb (get_or low_places n 0) (n / 2 + 16 * (n % 2))) (λ _. true) 16 c refl lt)

high_place : (c : ℕ) → c < 16 → get_or high_places c 0 ≡ (c / 2 + 8) + 16 * (c % 2)
high_place c lt = eqb-true (get_or high_places c 0) ((c / 2 + 8) + 16 * (c % 2))
    (agree_below_at (λ n. eqb (get_or high_places n 0) ((n / 2 + 8) + 16 * (n % 2))) (λ _. true) 16 c refl lt)

-- a lane of two rows behind one another
lane_of_two : (rows : List (List ℕ)) (i j b : ℕ) → length (get_or rows i []) ≡ 16 → j < 16 → b < 2
    → get_or (get_or rows i [] ++ get_or rows (i + 8) []) (j + 16 * b) 0 ≡ lane_at rows (i + 8 * b) j
lane_of_two rows i j zero long below small =
    let x : List ℕ = get_or rows i [] in
    let y : List ℕ = get_or rows (i + 8) [] in
    let at : j + 16 * 0 ≡ j = omega arith in
    let row : i ≡ i + 8 * 0 = omega arith in
    ap (λ (k : ℕ). get_or (x ++ y) k 0) at ∙ get_or_append_left x y 0 j (omega (arith, long)) ∙ ap (λ (k : ℕ). lane_at rows k j) row
lane_of_two rows i j (suc zero) long below small =
    let x : List ℕ = get_or rows i [] in
    let y : List ℕ = get_or rows (i + 8) [] in
    let at : j + 16 * 1 ≡ length x + j = omega (arith, long) in
    let row : i + 8 ≡ i + 8 * 1 = omega arith in
    ap (λ (k : ℕ). get_or (x ++ y) k 0) at ∙ get_or-append-add x y j 0 ∙ ap (λ (k : ℕ). lane_at rows k j) row
lane_of_two rows i j (suc (suc b)) long below small = absurd (omega arith)

-- a lane of either half
pub low_lane : (rows : List (List ℕ)) (i c : ℕ) → length (get_or rows i []) ≡ 16 → c < 16
    → get_or (pick_l 0 (get_or rows i [] ++ get_or rows (i + 8) []) low_places) c 0 ≡ lane_at rows (i + 8 * (c % 2)) (c / 2)
low_lane rows i c long lt =
    let both : List ℕ = get_or rows i [] ++ get_or rows (i + 8) [] in
    get_or-map (λ (k : ℕ). get_or both k 0) low_places c 0 0 lt ∙ ap (λ (k : ℕ). get_or both k 0) (low_place c lt)
    ∙ lane_of_two rows i (c / 2) (c % 2) long (omega arith) (omega arith)

pub high_lane : (rows : List (List ℕ)) (i c : ℕ) → length (get_or rows i []) ≡ 16 → c < 16
    → get_or (pick_l 0 (get_or rows i [] ++ get_or rows (i + 8) []) high_places) c 0 ≡ lane_at rows (i + 8 * (c % 2)) (c / 2 + 8)
high_lane rows i c long lt =
    let both : List ℕ = get_or rows i [] ++ get_or rows (i + 8) [] in
    get_or-map (λ (k : ℕ). get_or both k 0) high_places c 0 0 lt ∙ ap (λ (k : ℕ). get_or both k 0) (high_place c lt)
    ∙ lane_of_two rows i (c / 2 + 8) (c % 2) long (omega arith) (omega arith)

-- ---- all rows

-- so many pairs of rows have been interleaved
pub record AreRiffled (pairs : ℕ) (rows made : List (List ℕ)) : Type 0 where
  pub square : IsSquare made
  pub lanes : (r c : ℕ) → r < 2 * pairs → c < 16 → lane_at made r c ≡ lane_at rows (r / 2 + 8 * (c % 2)) (c / 2 + 8 * (r % 2))

-- a row of those that were stored
stored : (made : List (List ℕ)) (i r : ℕ) (low high : List ℕ) → length made ≡ 16 → i < 8
    → (r ≢ 2 * i → r ≢ 2 * i + 1 → get_or (set (set made (2 * i) low) (2 * i + 1) high) r [] ≡ get_or made r [])
    × (r ≡ 2 * i → get_or (set (set made (2 * i) low) (2 * i + 1) high) r [] ≡ low)
    × (r ≡ 2 * i + 1 → get_or (set (set made (2 * i) low) (2 * i + 1) high) r [] ≡ high)
stored made i r low high many lt =
    let first : List (List ℕ) = set made (2 * i) low in
    let size : length first ≡ 16 = length-set made (2 * i) low ∙ many in (
      (λ other behind. get_or-set_other first (2 * i + 1) r high [] behind ∙ get_or-set_other made (2 * i) r low [] other),
      (λ is. let other : r ≢ 2 * i + 1 = omega arith in
          get_or-set_other first (2 * i + 1) r high [] other ∙ ap (λ (k : ℕ). get_or first k []) is
          ∙ get_or-set_same made (2 * i) low [] (omega (arith, many))),
      (λ is. ap (λ (k : ℕ). get_or (set first (2 * i + 1) high) k []) is ∙ get_or-set_same first (2 * i + 1) high [] (omega (arith, size))),
    )

pub riffled_more : {i : ℕ} {rows made : List (List ℕ)} (low high : List ℕ) → i < 8 → length low ≡ 16 → length high ≡ 16
    → ((c : ℕ) → c < 16 → get_or low c 0 ≡ lane_at rows (i + 8 * (c % 2)) (c / 2))
    → ((c : ℕ) → c < 16 → get_or high c 0 ≡ lane_at rows (i + 8 * (c % 2)) (c / 2 + 8)) → AreRiffled i rows made
    → AreRiffled (i + 1) rows (set (set made (2 * i) low) (2 * i + 1) high)
riffled_more {i} {rows} {made} low high lt long_low long_high lows highs known =
    let new : List (List ℕ) = set (set made (2 * i) low) (2 * i + 1) high in record {
      square = record {
        many = length-set (set made (2 * i) low) (2 * i + 1) high ∙ length-set made (2 * i) low ∙ known.square.many;
        each = λ r below. let row = stored made i r low high known.square.many lt in
            elim (cases_eq r (2 * i)) [
              | inl is ↦ ap length (row.1 is) ∙ long_low
              | inr other ↦ elim (cases_eq r (2 * i + 1)) [
                | inl is ↦ ap length (row.2 is) ∙ long_high
                | inr behind ↦ ap length (row.0 other behind) ∙ known.square.each r below
              ]
            ];
      };
      lanes = λ r c below inside. let row = stored made i r low high known.square.many lt in
          elim (cases_eq r (2 * i)) [
            | inl is ↦
                let half : i ≡ r / 2 = omega arith in
                let place : c / 2 ≡ c / 2 + 8 * (r % 2) = omega arith in
                ap (λ (l : List ℕ). get_or l c 0) (row.1 is) ∙ lows c inside ∙ ap₂ (λ (a b : ℕ). lane_at rows (a + 8 * (c % 2)) b) half place
            | inr other ↦ elim (cases_eq r (2 * i + 1)) [
              | inl is ↦
                  let half : i ≡ r / 2 = omega arith in
                  let place : c / 2 + 8 ≡ c / 2 + 8 * (r % 2) = omega arith in
                  ap (λ (l : List ℕ). get_or l c 0) (row.2 is) ∙ highs c inside ∙ ap₂ (λ (a b : ℕ). lane_at rows (a + 8 * (c % 2)) b) half place
              | inr behind ↦ ap (λ (l : List ℕ). get_or l c 0) (row.0 other behind) ∙ known.lanes r c (omega arith) inside
            ]
          ];
    }

-- ---- four times

abbrev pub next_row : ℕ → ℕ → ℕ
next_row r c = r / 2 + 8 * (c % 2)

abbrev pub next_lane : ℕ → ℕ → ℕ
next_lane r c = c / 2 + 8 * (r % 2)

-- each row's lanes are those of another's after a round
abbrev pub AreRound : List (List ℕ) → List (List ℕ) → Type 0
AreRound rows made = (r c : ℕ) → r < 16 → c < 16 → lane_at made r c ≡ lane_at rows (r / 2 + 8 * (c % 2)) (c / 2 + 8 * (r % 2))

-- the row and the lane that four rounds lead back to
abbrev four : ℕ → ℕ → ℕ × ℕ
four r c =
    let r₁ = next_row r c in let c₁ = next_lane r c in
    let r₂ = next_row r₁ c₁ in let c₂ = next_lane r₁ c₁ in
    let r₃ = next_row r₂ c₂ in let c₃ = next_lane r₂ c₂ in (next_row r₃ c₃, next_lane r₃ c₃)

four_row : (r c : ℕ) → r < 16 → c < 16 → (four r c).0 ≡ c
four_row r c lr lc =
    let n : ℕ = 16 * r + c in
    let row : n / 16 ≡ r = omega arith in
    let lane : n % 16 ≡ c = omega arith in
    sym (ap₂ (λ (a b : ℕ). (four a b).0) row lane)
    ∙ eqb-true (four (n / 16) (n % 16)).0 (n % 16) (agree_below_at (λ k. eqb (four (k / 16) (k % 16)).0 (k % 16)) (λ _. true) 256 n refl (omega arith)) ∙ lane

four_lane : (r c : ℕ) → r < 16 → c < 16 → (four r c).1 ≡ r
four_lane r c lr lc =
    let n : ℕ = 16 * r + c in
    let row : n / 16 ≡ r = omega arith in
    let lane : n % 16 ≡ c = omega arith in
    sym (ap₂ (λ (a b : ℕ). (four a b).1) row lane)
    ∙ eqb-true (four (n / 16) (n % 16)).1 (n / 16) (agree_below_at (λ k. eqb (four (k / 16) (k % 16)).1 (k / 16)) (λ _. true) 256 n refl (omega arith)) ∙ row

pub exchanged : (rows first second third made : List (List ℕ)) → AreRound rows first → AreRound first second → AreRound second third → AreRound third made
    → (r c : ℕ) → r < 16 → c < 16 → lane_at made r c ≡ lane_at rows c r
exchanged rows first second third made one two three last r c lr lc =
    let r₁ : ℕ = next_row r c in let c₁ : ℕ = next_lane r c in
    let r₂ : ℕ = next_row r₁ c₁ in let c₂ : ℕ = next_lane r₁ c₁ in
    let r₃ : ℕ = next_row r₂ c₂ in let c₃ : ℕ = next_lane r₂ c₂ in
    last r c lr lc ∙ three r₁ c₁ (omega arith) (omega arith) ∙ two r₂ c₂ (omega arith) (omega arith) ∙ one r₃ c₃ (omega arith) (omega arith)
    ∙ ap₂ (lane_at rows) (four_row r c lr lc) (four_lane r c lr lc)
