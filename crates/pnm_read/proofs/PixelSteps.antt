-- The scanner of a pixel, byte by byte.
use Rattle.pnm_read.proofs.Words.{◌≡◌, inl, ℕ, ◌+◌, Bool, true, false, ◌||◌, ◌==◌, if◌then◌else◌, List, [], ◌∷◌, ◌++◌, refl, sym, ap, ◌∙◌, arith, subst}
use Rattle.pnm_read.proofs.Words.{and_parts, nat_tests, length-append, ScanStatus, GoesOn, EndsWith, EndsBefore, PixelScanner, commented, pixel_item, is_pixel}
use Rattle.pnm_read.proofs.Words.{JudgesByte, IsPixelAfter, IsPixelWhole, JudgesPixel}
use Rattle.pnm_read.proofs.CommentLaws.{commented_after-push, ends_by-push}
use Rattle.pnm_read.proofs.PieceLaws.{PixelTold, pixel_told}

pub pixel_fresh : {s : PixelScanner} → s.length ≡ 0 → s.in_comment ≡ false → IsPixelAfter s []
pixel_fresh l c = record { length_is = l; comment = c }

-- a pixel ends with its character
pixel_ends : (before : List ℕ) (b : ℕ) → pixel_item before b ≡ EndsWith → is_pixel b ≡ true
pixel_ends before b e = (and_parts _ _ (subst (PixelTold before b) e (pixel_told before b)).2).1

pixel_never_before : (before : List ℕ) (b : ℕ) → pixel_item before b ≡ EndsBefore → ⊥
pixel_never_before before b e = subst (PixelTold before b) e (pixel_told before b)

-- the character of a white pixel is 0
white_or_black : (zero_is one_is : Bool) → (zero_is || one_is) ≡ true → (zero_is ≡ true → one_is ≡ false)
    → ◌≡◌ {A = ℕ} (if zero_is then 1 else 0) (if one_is then 0 else 1)
white_or_black true one_is e n = rw (n refl) refl
white_or_black false true e n = refl
white_or_black false false e n = absurd cc

not_both : (b : ℕ) → (b == 48) ≡ true → (b == 49) ≡ false
not_both b e = grind (arith, nat_tests)

pub pixel_goes_on : (old new : PixelScanner) (b : ℕ) {j : ScanStatus} → j ≡ GoesOn → JudgesPixel old b j → new.length ≡ old.length + 1
    → new.in_comment ≡ commented old.in_comment b → JudgesByte pixel_item (IsPixelAfter old) (IsPixelAfter new) (IsPixelWhole new) b j
pixel_goes_on old new b is h l c before a =
    let after : IsPixelAfter new (before ++ b ∷ []) = record {
      length_is = l ∙ ap (λ n. n + 1) a.length_is ∙ sym (length-append before (b ∷ []));
      comment = c ∙ ap (λ t. commented t b) a.comment ∙ sym (commented_after-push before b);
    } in
    inl (h before a, rw is after)

pub pixel_ends_with : (old new : PixelScanner) (b : ℕ) {j : ScanStatus} → j ≡ EndsWith → JudgesPixel old b j → new.pixel ≡ (if b == 48 then 1 else 0)
    → JudgesByte pixel_item (IsPixelAfter old) (IsPixelAfter new) (IsPixelWhole new) b j
pixel_ends_with old new b is h p before a =
    let character = pixel_ends before b (sym (h before a) ∙ is) in
    let whole : IsPixelWhole new (before ++ b ∷ []) = p ∙ white_or_black (b == 48) (b == 49) character (not_both b)
    ∙ ap (λ (t : Bool). if t then 0 else 1) (sym (ends_by-push (λ b. b == 49) before b)) in
    inl (h before a, rw is whole)

pub pixel_not_before : (old new : PixelScanner) (b : ℕ) {j : ScanStatus} → j ≡ EndsBefore → JudgesPixel old b j → JudgesByte pixel_item (IsPixelAfter old)
    (IsPixelAfter new) (IsPixelWhole new) b j
pixel_not_before old new b is h before a = absurd (pixel_never_before before b (sym (h before a) ∙ is))
