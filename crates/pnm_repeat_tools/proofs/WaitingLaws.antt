-- Rows that wait to be enlarged, and what is made of the next of them.
use Rattle.pnm_repeat_tools.proofs.Words.{◌≡◌, ℕ, zero, suc, ◌+◌, ◌*◌, ◌/◌, ◌≤◌, ◌<◌, List, [], ◌∷◌, ◌++◌, length, map, take, drop, replicate, All, Option}
use Rattle.pnm_repeat_tools.proofs.Words.{None, Some, refl, sym, ap, ap₂, subst, ◌∙◌, arith, mul-le-mul, AllByRecursion, flat_map, flat_map-append, drop-drop}
use Rattle.pnm_repeat_tools.proofs.Words.{length-drop, map-append, take-append-drop, All-drop, All-from_recursion, All-take, recursion_from_All, Shape, IsRowOf}
use Rattle.pnm_repeat_tools.proofs.Words.{repeated, rows_need, enlarged_row, ToEnlarge, larger_rows, waiting_due, CanBeEnlarged, to_enlarge}
use Rattle.std.proofs.Common.{append-nil}
use Rattle.std.proofs.Math.Nat.{mul-le-mul_right}
use Rattle.pnm_repeat_tools.proofs.EnlargedRowsLaws.{each_of, pixels_below}
use Rattle.pnm_repeat_tools.proofs.WideRowLaws.{rows_once, unchanged_rows}

-- ---- the rows behind some of them

-- they can be enlarged, too
pub rest_waits : (across down next count : ℕ) {all : ℕ} (s : Shape) (rows : List (List ℕ)) {w : ToEnlarge} → to_enlarge across down s (drop next rows) ≡ w
    → CanBeEnlarged (to_enlarge across down s (drop next rows)) → count ≤ length w.rows → all ≡ length rows → (next + count ≡ all → ⊥)
    → CanBeEnlarged (to_enlarge across down s (drop (next + count) rows))
rest_waits across down next count s rows {w} is can within many others =
    let front : List (List ℕ) = drop next rows in
    let same : drop count front ≡ drop (next + count) rows = drop-drop count next rows in
    let left : length front ≡ length w.rows = ap (λ (v : ToEnlarge). length v.rows) is in
    record {
      across = can.across;
      down = can.down;
      ready = can.ready;
      some = omega (arith, can.some, length-drop next rows, length-drop (next + count) rows, left);
      rows = subst (AllByRecursion (IsRowOf s)) same
          (recursion_from_All (IsRowOf s) (drop count front) (All-drop (IsRowOf s) count front (All-from_recursion (IsRowOf s) front can.rows)));
    }

-- ---- what is made of the next rows

-- where neither pixels nor rows are repeated, they are the same rows
pub same_rows : {w : ToEnlarge} {down : ℕ} (count : ℕ) {next : List (List ℕ)} → CanBeEnlarged w → w.across ≡ 1 → down ≡ 1 → next ≡ take count w.rows
    → next ≡ larger_rows w.across down w.shape (take count w.rows)
same_rows {w} count can once one is =
    let s : Shape = w.shape in
    let front : List (List ℕ) = take count w.rows in
    let are : AllByRecursion (IsRowOf s) front =
    recursion_from_All (IsRowOf s) front (All-take (IsRowOf s) count w.rows (All-from_recursion (IsRowOf s) w.rows can.rows)) in
    is ∙ unchanged_rows s front once (each_of s front are) ∙ rows_once (map (enlarged_row w.across s) front) one

-- rows, and more rows behind them
larger_in_parts : (across down : ℕ) (s : Shape) (front back : List (List ℕ))
    → larger_rows across down s (front ++ back) ≡ larger_rows across down s front ++ larger_rows across down s back
larger_in_parts across down s front back =
    let E : List ℕ → List ℕ = enlarged_row across s in
    ap (flat_map (replicate down)) (map-append E front back) ∙ flat_map-append (replicate down) (map E front) (map E back)

next_and_rest : (w : ToEnlarge) (count : ℕ)
    → larger_rows w.across w.down w.shape w.rows
    ≡ larger_rows w.across w.down w.shape (take count w.rows) ++ larger_rows w.across w.down w.shape (drop count w.rows)
next_and_rest w count =
    ap (larger_rows w.across w.down w.shape) (sym (take-append-drop count w.rows))
    ∙ larger_in_parts w.across w.down w.shape (take count w.rows) (drop count w.rows)

-- some of them are given
pub together_given : (waits rest : Option ToEnlarge) (w : ToEnlarge) (count : ℕ) {down : ℕ} {made given : List (List ℕ)} → waits ≡ Some w → down ≡ w.down
    → made ≡ larger_rows w.across down w.shape (take count w.rows) → waiting_due rest ≡ larger_rows w.across w.down w.shape (drop count w.rows)
    → given ≡ made → waiting_due waits ≡ given ++ waiting_due rest
together_given waits rest w count some same is behind as_made =
    ap waiting_due some ∙ next_and_rest w count
    ∙ ap₂ (λ (a b : List (List ℕ)). a ++ b) (ap (λ (n : ℕ). larger_rows w.across n w.shape (take count w.rows)) (sym same) ∙ sym is ∙ sym as_made) (sym behind)

-- the first row, so many times
rows_are_repeated : (n : ℕ) (row : List ℕ) → replicate n row ≡ repeated n (row ∷ [])
rows_are_repeated zero row = refl
rows_are_repeated (suc n) row = ap (λ (l : List (List ℕ)). row ∷ l) (rows_are_repeated n row)

copies_of_first : (across down : ℕ) (s : Shape) (rows : List (List ℕ)) → 0 < length rows
    → larger_rows across down s (take 1 rows) ≡ repeated down (larger_rows across 1 s (take 1 rows))
copies_of_first across down s [] some = absurd (omega (arith, some))
copies_of_first across down s (row ∷ rows) some =
    append-nil (replicate down (enlarged_row across s row)) ∙ rows_are_repeated down (enlarged_row across s row)

-- the first one is given so many times
pub alone_given : (waits rest : Option ToEnlarge) (w : ToEnlarge) {down : ℕ} {row given : List (List ℕ)} → waits ≡ Some w → 0 < length w.rows → down ≡ w.down
    → row ≡ larger_rows w.across 1 w.shape (take 1 w.rows) → waiting_due rest ≡ larger_rows w.across w.down w.shape (drop 1 w.rows)
    → given ≡ repeated down row → waiting_due waits ≡ given ++ waiting_due rest
alone_given waits rest w is some same one behind times =
    ap waiting_due is ∙ next_and_rest w 1
    ∙ ap₂ (λ (a b : List (List ℕ)). a ++ b) (copies_of_first w.across w.down w.shape w.rows some
    ∙ ap₂ (λ (n : ℕ) (l : List (List ℕ)). repeated n l) (sym same) (sym one) ∙ sym times) (sym behind)

-- ---- how many are enlarged at once

-- a row of the result has samples, and stays within the limits
pub wide_row : (across down next each : ℕ) (s : Shape) (rows : List (List ℕ)) → CanBeEnlarged (to_enlarge across down s (drop next rows))
    → All (λ row. length row ≡ each) rows → (each ≡ s.width * s.depth) × (1 ≤ each * across) × (each * across ≤ 16777216)
wide_row across down next each s rows can long =
    let front : List (List ℕ) = drop next rows in
    let size : each ≡ s.width * s.depth =
    (rows_need s each front (omega (arith, can.some)) (All-drop (λ (row : List ℕ). length row ≡ each) next rows long) can.rows).0 in
    let some : 1 * 1 ≤ s.width * s.depth =
    mul-le-mul {n₁ = 1} {m₁ = 1} {n₂ = s.width} {m₂ = s.depth} can.ready.limits.width_low can.ready.limits.depth_low in
    let wide : 1 * 1 ≤ each * across = mul-le-mul {n₁ = 1} {m₁ = 1} {n₂ = each} {m₂ = across} (omega (arith, some, size)) can.across.0 in
    (size, omega (arith, wide), omega (arith, ap (λ (n : ℕ). n * across) size, can.ready.row))

-- what takes no more than a number of bytes has few pixels
pub few_pixels : (width depth across down : ℕ) {each : ℕ} (bytes count : ℕ) → 1 ≤ depth → 1 ≤ across → 1 ≤ down → each ≡ width * depth
    → each * across ≤ 8 * bytes → 0 < bytes * down → count ≤ 65536 / (bytes * down) → width * count < 4294967296
few_pixels width depth across down bytes count deep wide high size enough some most =
    let n : ℕ = bytes * down in
    let fits : count * n ≤ (65536 / n) * n = mul-le-mul_right {m = count} {n = 65536 / n} n most in
    let all : (65536 / n) * n ≤ 65536 = omega (arith, some) in
    let row : width * depth * across ≤ 8 * bytes = omega (arith, enough, ap (λ (k : ℕ). k * across) size) in
    let rows : width * depth * across * down ≤ 8 * bytes * down =
    mul-le-mul {n₁ = width * depth * across} {m₁ = down} {n₂ = 8 * bytes} {m₂ = down} row (omega arith) in
    let filled : count * (width * depth * across * down) ≤ count * (8 * bytes * down) =
    mul-le-mul {n₁ = count} {m₁ = width * depth * across * down} {n₂ = count} {m₂ = 8 * bytes * down} (omega arith) rows in
    omega (arith, pixels_below width depth across down count deep wide high refl, filled, fits, all)
