-- The test for sizes beyond the limits.
use Rattle.std.proofs.Common.{◌≡◌, ℕ, ◌≤◌, false, ◌||◌, arith}
use Rattle.std.specs.Prelude.{nat_lt}
use Rattle.std.proofs.lemmas.Bool.{ltb-false, or_parts}
use Rattle.std.proofs.lemmas.Bool.Decides.{nat_tests}
use Rattle.pnm_image.specs.declared.limits.TheConstants.{MAX_DEPTH, MAX_ROW_LENGTH, MAX_SIDE}

-- where the test for a large size fails, no size is large
pub sizes_within : (width height depth row : ℕ) → (nat_lt MAX_SIDE width || nat_lt MAX_SIDE height || nat_lt MAX_DEPTH depth || nat_lt MAX_ROW_LENGTH row)
    ≡ false → (width ≤ MAX_SIDE) × (height ≤ MAX_SIDE) × (depth ≤ MAX_DEPTH) × (row ≤ MAX_ROW_LENGTH)
sizes_within width height depth row e =
    let a = or_parts (nat_lt MAX_SIDE width || nat_lt MAX_SIDE height || nat_lt MAX_DEPTH depth) (nat_lt MAX_ROW_LENGTH row) e in
    let b = or_parts (nat_lt MAX_SIDE width || nat_lt MAX_SIDE height) (nat_lt MAX_DEPTH depth) a.0 in
    let c = or_parts (nat_lt MAX_SIDE width) (nat_lt MAX_SIDE height) b.0 in
    (ltb-false MAX_SIDE width c.0, ltb-false MAX_SIDE height c.1, ltb-false MAX_DEPTH depth b.1, ltb-false MAX_ROW_LENGTH row a.1)

-- where no size is large, the test for one fails
pub not_large_size : (width height depth row : ℕ) → width ≤ MAX_SIDE → height ≤ MAX_SIDE → depth ≤ MAX_DEPTH → row ≤ MAX_ROW_LENGTH
    → (nat_lt MAX_SIDE width || nat_lt MAX_SIDE height || nat_lt MAX_DEPTH depth || nat_lt MAX_ROW_LENGTH row) ≡ false
not_large_size width height depth row w h d r = grind (arith, nat_tests)
