-- The scanner of a number of a plain raster, byte by byte.
use Rattle.pnm_read.proofs.Words.{◌≡◌, inl, ℕ, ◌+◌, ◌-◌, ◌*◌, Bool, true, false, not, ◌&&◌, if◌then◌else◌, List, [], ◌∷◌, ◌++◌, refl, sym, ap, ◌∙◌, arith}
use Rattle.pnm_read.proofs.Words.{subst, and_parts, and_right, not-true, nat_tests, length-append, ScanStatus, GoesOn, EndsWith, EndsBefore, Fails}
use Rattle.pnm_read.proofs.Words.{DecimalScanner, is_line_end, commented, ends_in_comment, number_in, is_digit, decimal_item, JudgesByte, saturate_u32}
use Rattle.pnm_read.proofs.Words.{with_digit, IsDecimalAfter, IsDecimalWhole, JudgesDecimal, PushesDecimal, is_numeral_byte}
use Rattle.pnm_read.specs.HeaderTexts.{ends_by, uncommented_from}
use Rattle.pnm_read.proofs.CommentLaws.{commented_after-push}
use Rattle.pnm_read.proofs.PieceLaws.{number_in-digit, number_in-other, ends_in_digit-push, DecimalTold, decimal_told}
use Rattle.pnm_read.proofs.WordLaws.{digit_is_not_sharp}

pub decimal_fresh : {s : DecimalScanner} → s.length ≡ 0 → s.in_comment ≡ false → s.in_number ≡ false → s.value ≡ 0 → IsDecimalAfter s []
unfolding ends_by uncommented_from
decimal_fresh l c d v = record { length_is = l; comment = c; digit = d; value = v }

digit_ends_no_line : (b : ℕ) → is_digit b ≡ true → is_line_end b ≡ false
digit_ends_no_line b e = grind (arith, nat_tests)

-- a digit begins and ends no comment
numeral_is : (inside : Bool) (b : ℕ) (d : Bool) → is_digit b ≡ d → (not (commented inside b) && d) ≡ (not inside && d)
numeral_is inside b false e = and_right _ false refl ∙ sym (and_right _ false refl)
numeral_is true b true e = rw (digit_ends_no_line b e) refl
numeral_is false b true e = rw (digit_is_not_sharp b e) refl

-- a number as a u32 with a digit more
pub with_digit-saturate_u32 : (n d : ℕ) → with_digit (saturate_u32 n) d ≡ saturate_u32 (n * 10 + d)
with_digit-saturate_u32 n d = omega arith

value_after : (t : Bool) (before : List ℕ) (b : ℕ) → is_numeral_byte (ends_in_comment before) b ≡ t
    → (if t then with_digit (saturate_u32 (number_in before)) (b - 48) else saturate_u32 (number_in before)) ≡ saturate_u32 (number_in (before ++ b ∷ []))
value_after true before b e =
    let parts = and_parts _ _ e in
    with_digit-saturate_u32 (number_in before) (b - 48) ∙ ap saturate_u32 (sym (number_in-digit before b (not-true _ parts.0) parts.1))
value_after false before b e = ap saturate_u32 (sym (number_in-other before b e))

decimal_after : (old new : DecimalScanner) (b : ℕ) (before : List ℕ) → IsDecimalAfter old before → PushesDecimal old b new
    → IsDecimalAfter new (before ++ b ∷ [])
decimal_after old new b before a p = record {
  length_is = p.length_is ∙ ap (λ n. n + 1) a.length_is ∙ sym (length-append before (b ∷ []));
  comment = p.comment ∙ ap (λ t. commented t b) a.comment ∙ sym (commented_after-push before b);
  digit = p.digit ∙ ap (λ t. is_numeral_byte t b) a.comment ∙ sym (numeral_is (ends_in_comment before) b (is_digit b) refl) ∙ sym (ends_in_digit-push before b);
  value = p.value ∙ rw (a.comment, a.value) (value_after (is_numeral_byte (ends_in_comment before) b) before b refl);
}

decimal_never_with : (before : List ℕ) (b : ℕ) → decimal_item before b ≡ EndsWith → ⊥
decimal_never_with before b e = subst (DecimalTold before b) e (decimal_told before b)

pub decimal_goes_on : {old new : DecimalScanner} {b : ℕ} (j : ScanStatus) → j ≡ GoesOn → JudgesDecimal old b j → PushesDecimal old b new
    → JudgesByte decimal_item (IsDecimalAfter old) (IsDecimalAfter new) (IsDecimalWhole new) b j
decimal_goes_on {old} {new} {b} j is h p before a = inl (h before a, rw is (decimal_after old new b before a p))

pub decimal_stops : (s : DecimalScanner) (b : ℕ) (j : ScanStatus) → (j ≡ GoesOn → ⊥) → JudgesDecimal s b j
    → JudgesByte decimal_item (IsDecimalAfter s) (IsDecimalAfter s) (IsDecimalWhole s) b j
decimal_stops s b GoesOn n h before a = absurd (n refl)
decimal_stops s b EndsWith n h before a = absurd (decimal_never_with before b (sym (h before a)))
decimal_stops s b EndsBefore n h before a = inl (h before a, a.value)
decimal_stops s b (Fails k) n h before a = inl (h before a, tt)
