-- A shape that has no fault is within the limits, and one within the limits has no fault.
use Rattle.pnm_read.proofs.Words.{◌≡◌, ℕ, ◌<◌, ◌≤◌, Bool, true, false, ◌||◌, ◌==◌, cond, Option, Some, None, Result, Ok, Err, refl, arith, nat_lt, nat_tests}
use Rattle.pnm_read.proofs.Words.{Shape, HeadFault, HeadValue, IsWithinLimits, row_length, shape_fault, sizes_within, not_large_size, InputFault, fault_of_head}
use Rattle.pnm_read.proofs.Words.{MAX_DEPTH, MAX_MAXVAL, MAX_ROW_LENGTH, MAX_SIDE}
use Rattle.pnm_image.specs.declared.head.HeadFault.TheVariants as heads

-- a head, or its fault
abbrev pub head_or_fault : Option HeadFault → HeadValue → Result HeadValue InputFault
head_or_fault fault head = elim fault [ Some f ↦ Err (fault_of_head f) | None ↦ Ok head ]

-- where a head is made, there is no fault
pub head_or_fault_ok : (fault : Option HeadFault) (made : HeadValue) {head : HeadValue} → head_or_fault fault made ≡ Ok head → (fault ≡ None) × (made ≡ head)
head_or_fault_ok None made e = (refl, cc)
head_or_fault_ok (Some f) made e = absurd cc

-- where three tests find no fault, each fails
no_fault : (a b c : Bool) (x y z : HeadFault) → cond a (Some x) (cond b (Some y) (cond c (Some z) None)) ≡ None → (a ≡ false) × (b ≡ false) × (c ≡ false)
no_fault true b c x y z e = absurd cc
no_fault false true c x y z e = absurd cc
no_fault false false true x y z e = absurd cc
no_fault false false false x y z e = (refl, refl, refl)

-- where the test for a zero size fails, no size is zero
sizes_are_not_zero : (width height depth : ℕ) → ((width == 0) || (height == 0) || (depth == 0)) ≡ false → (0 < width) × (0 < height) × (0 < depth)
sizes_are_not_zero width height depth e = (grind (arith, nat_tests), grind (arith, nat_tests), grind (arith, nat_tests))

-- where the test of the maxval fails, it is in its range
maxval_is_not_bad : (maxval : ℕ) → ((maxval == 0) || nat_lt MAX_MAXVAL maxval) ≡ false → (0 < maxval) × (maxval ≤ MAX_MAXVAL)
maxval_is_not_bad maxval e = (grind (arith, nat_tests), grind (arith, nat_tests))

-- a shape without a fault is within the limits, and has rows
pub limits_of : (s : Shape) → shape_fault s ≡ None → IsWithinLimits s × (0 < s.height)
limits_of s e =
    let tests =
    no_fault ((s.width == 0) || (s.height == 0) || (s.depth == 0))
    (nat_lt MAX_SIDE s.width || nat_lt MAX_SIDE s.height || nat_lt MAX_DEPTH s.depth || nat_lt MAX_ROW_LENGTH (row_length s))
    ((s.maxval == 0) || nat_lt MAX_MAXVAL s.maxval) heads.ZeroSize heads.TooLarge heads.BadMaxval e in
    let low = sizes_are_not_zero s.width s.height s.depth tests.0 in
    let high = sizes_within s.width s.height s.depth (row_length s) tests.1 in
    let maxval = maxval_is_not_bad s.maxval tests.2 in (
      record {
        width_low = low.0;
        width_high = high.0;
        height_high = high.1;
        depth_low = low.2;
        depth_high = high.2;
        row_high = high.3;
        maxval_low = maxval.0;
        maxval_high = maxval.1;
      },
      low.1,
    )

-- where no size is zero, the test for one fails
not_zero_size : (width height depth : ℕ) → 0 < width → 0 < height → 0 < depth → ((width == 0) || (height == 0) || (depth == 0)) ≡ false
not_zero_size width height depth w h d = grind (arith, nat_tests)

-- where the maxval is in its range, its test fails
not_bad_maxval : (maxval : ℕ) → 0 < maxval → maxval ≤ MAX_MAXVAL → ((maxval == 0) || nat_lt MAX_MAXVAL maxval) ≡ false
not_bad_maxval maxval low high = grind (arith, nat_tests)

-- a shape within the limits has no fault
pub no_shape_fault : {s : Shape} → IsWithinLimits s → 0 < s.height → shape_fault s ≡ None
no_shape_fault {s} h rows =
    rw (
      not_zero_size s.width s.height s.depth h.width_low rows h.depth_low,
      not_large_size s.width s.height s.depth (row_length s) h.width_high h.height_high h.depth_high h.row_high,
      not_bad_maxval s.maxval h.maxval_low h.maxval_high,
    ) refl
