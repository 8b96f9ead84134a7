-- Quarter turns add up, and each turn is two flips.
use Rattle.pnm_tools.proofs.Words.{◌≡◌, ℕ, ◌-◌, ◌<◌, Bool, true, false, List, map, Result, Ok, Err, refl, sym, ap, subst, ◌∙◌, arith, if◌then◌else◌}
use Rattle.pnm_tools.proofs.Words.{range_with_len, ne_eqb, Shape, HeadValue, is_too_large, row_length, Image, IsImage, sample_at, rows_of, concat-cut_rows}
use Rattle.pnm_tools.proofs.Words.{image_of, ToolFault, OutOfOrder, FlipWay, LeftRight, TopBottom, Transpose, Rotate90, Rotate180, Rotate270, Transform, Flip}
use Rattle.pnm_tools.proofs.Words.{transform, transform_of, transformed_head, transposed_head_value, transformed_sample, transformed_head_value, row_by}
use Rattle.pnm_tools.proofs.Words.{image_by, then_flipped, HasQuarterTurns, within_limits, applied}
use Rattle.std.proofs.Common.{◌==◌}
use Rattle.pnm_tools.specs.Tools.{result_head, result_sample}
use Rattle.pnm_tools.proofs.FormulaLaws.{rows_are, range_alike, length-image_by}
use Rattle.pnm_tools.proofs.HeadLaws.{small_head, not_too_large}
use Rattle.pnm_tools.proofs.ImageLaws.{made_by}
use Rattle.pnm_tools.proofs.PixelLaws.{rows_by_rows}
use Rattle.pnm_tools.proofs.RangeLaws.{pieces_alike}
use Rattle.pnm_tools.proofs.SampleLaws.{sample_at-image_by}
use Rattle.pnm_tools.proofs.TransformLaws.{flipped_is_transformed}
use Rattle.pnm_tools.proofs.WholeHeadLaws.{transformed_is}

-- ---- images by formulas

-- formulas that are alike at each sample of a head
abbrev AreAlike : HeadValue → (ℕ → ℕ → ℕ → ℕ) → (ℕ → ℕ → ℕ → ℕ) → Type 0
AreAlike head f g = (x y p : ℕ) → x < head.shape.width → y < head.shape.height → p < head.shape.depth → f x y p ≡ g x y p

-- give one image
image_alike : (head : HeadValue) (f g : ℕ → ℕ → ℕ → ℕ) → AreAlike head f g → image_by head f ≡ image_by head g
image_alike head f g same =
    let s : Shape = head.shape in
    ap (λ (samples : List ℕ). record { head = head; samples = samples })
    (pieces_alike (λ y. row_by s (λ x p. f x y p)) (λ y. row_by s (λ x p. g x y p)) 0 s.height (λ y row.
    pieces_alike (λ x. map (λ p. f x y p) (range_with_len 0 s.depth)) (λ x. map (λ p. g x y p) (range_with_len 0 s.depth)) 0 s.width (λ x column.
    range_alike (λ p. f x y p) (λ p. g x y p) 0 s.depth (λ p plane. same x y p (omega arith) (omega arith) (omega arith)))))

-- an image of a head and of rows
of_rows : (i : Image) → IsImage i → image_of i.head (rows_of i) ≡ i
of_rows i is = ap (λ (samples : List ℕ). record { head = i.head; samples = samples })
    (concat-cut_rows i.head.shape.height (row_length i.head.shape) i.samples is.count)

by_formula : (head : HeadValue) (f : ℕ → ℕ → ℕ → ℕ) → image_of head (rows_of (image_by head f)) ≡ image_by head f
by_formula head f =
    ap (λ (samples : List ℕ). record { head = head; samples = samples })
    (concat-cut_rows head.shape.height (row_length head.shape) (image_by head f).samples (length-image_by head f))

-- an image is that of its samples
image_is : (i : Image) → IsImage i → image_by i.head (sample_at i) ≡ i
image_is i is =
    sym (by_formula i.head (sample_at i))
    ∙ ap (image_of i.head) (rows_by_rows i i.head.shape.height (λ y. y) is (λ y lt. lt) ∙ sym (rows_are i))
    ∙ of_rows i is

-- ---- images by rules

-- what a way makes of an image is what its rule does
transformed_image : (way : FlipWay) (i : Image) → applied (Flip way) i ≡ made_by (transformed_sample (transform_of way) i) (transformed_head (transform_of way)
    i.head)
unfolding result_head result_sample
transformed_image way i = ap (λ (f : ℕ → ℕ → ℕ → ℕ). made_by f (transformed_head (transform_of way) i.head)) (flipped_is_transformed way i)

made_alike : (t : Transform) (i : Image) (f g : ℕ → ℕ → ℕ → ℕ) (r : Result HeadValue ToolFault) → transformed_head t i.head ≡ r
    → AreAlike (transformed_head_value t i.head) f g → made_by f r ≡ made_by g r
made_alike t i f g (Err fault) e same = refl
made_alike t i f g (Ok head) e same =
    ap (λ (j : Image). Ok j) (image_alike head f g (subst (λ (h : HeadValue). AreAlike h f g) (transformed_is t i.head head e).result_is same))

-- heads of images with rows
moved_head : (columns : Bool) (head : HeadValue) → (head.shape.height ≡ 0 → ⊥) → transformed_head (transform columns true false) head ≡ Ok head
moved_head columns head some = ap (λ (b : Bool). if b then Err OutOfOrder else Ok head) (ne_eqb head.shape.height 0 some)

exchanged_head : (columns rows : Bool) (head : HeadValue) → (head.shape.height ≡ 0 → ⊥) → is_too_large (transposed_head_value head).shape ≡ false
    → transformed_head (transform columns rows true) head ≡ Ok (transposed_head_value head)
exchanged_head columns rows head some fits =
    ap (λ (b : Bool). if b then Err OutOfOrder else within_limits (transposed_head_value head)) (ne_eqb head.shape.height 0 some)
    ∙ small_head (transposed_head_value head) fits

-- the image of a head and of the rule
record IsOnce (t : Transform) (i j : Image) : Type 0 where
  image : image_by (transformed_head_value t i.head) (transformed_sample t i) ≡ j
  head : transformed_head t i.head ≡ Ok j.head

once_by : (t : Transform) (i j : Image) (r : Result HeadValue ToolFault) → transformed_head t i.head ≡ r → made_by (transformed_sample t i) r ≡ Ok j
    → IsOnce t i j
once_by t i j (Err fault) e made = absurd cc
once_by t i j (Ok head) e made =
    let same : image_by head (transformed_sample t i) ≡ j = cc in
    record {
      image = ap (λ (h : HeadValue). image_by h (transformed_sample t i)) (transformed_is t i.head head e).result_is ∙ same;
      head = e ∙ ap (λ (k : Image). Ok k.head) same;
    }

once : (way : FlipWay) (i j : Image) → applied (Flip way) i ≡ Ok j → IsOnce (transform_of way) i j
once way i j e = once_by (transform_of way) i j (transformed_head (transform_of way) i.head) refl (sym (transformed_image way i) ∙ e)

-- ---- two quarter turns

-- the image after one
abbrev transformed_once : Image → Image
transformed_once i = image_by (transposed_head_value i.head) (transformed_sample (transform true false true) i)

-- has rows, and its head with its sizes exchanged is that of the image
some_columns : (i : Image) → IsImage i → i.head.shape.width ≡ 0 → ⊥
some_columns i is none = absurd (omega (arith, is.head.limits.width_low))

transformed_back : (columns rows : Bool) (i : Image) → IsImage i → transformed_head (transform columns rows true) (transformed_once i).head ≡ Ok i.head
transformed_back columns rows i is = exchanged_head columns rows (transformed_once i).head (some_columns i is) (not_too_large i.head.shape is.head.limits)

-- two are a half turn
transformed_twice : (i : Image) → IsImage i → (i.head.shape.height ≡ 0 → ⊥) → applied (Flip Rotate90) (transformed_once i) ≡ applied (Flip Rotate180) i
transformed_twice i is some =
    let s : Shape = i.head.shape in
    let j : Image = transformed_once i in
    transformed_image Rotate90 j
    ∙ ap (made_by (transformed_sample (transform true false true) j)) (transformed_back true false i is)
    ∙ ap (λ (k : Image). Ok k) (image_alike i.head (transformed_sample (transform true false true) j) (transformed_sample (transform true true false) i) (λ x y
    p column row plane.
    let line : s.height - 1 - y < s.height = omega arith in
    sample_at-image_by j.head (transformed_sample (transform true false true) i) (s.height - 1 - y) x p line column plane))
    ∙ sym (transformed_image Rotate180 i ∙ ap (made_by (transformed_sample (transform true true false) i)) (moved_head true i.head some))

-- one and the one after it clockwise give the image back
transformed_there_and_back : (i : Image) → IsImage i → applied (Flip Rotate270) (transformed_once i) ≡ Ok i
transformed_there_and_back i is =
    let s : Shape = i.head.shape in
    let j : Image = transformed_once i in
    transformed_image Rotate270 j
    ∙ ap (made_by (transformed_sample (transform false true true) j)) (transformed_back false true i is)
    ∙ ap (λ (k : Image). Ok k) (image_alike i.head (transformed_sample (transform false true true) j) (sample_at i) (λ x y p column row plane.
    let from : s.width - 1 - x < s.width = omega arith in
    let again : s.width - 1 - (s.width - 1 - x) ≡ x = omega arith in
    sample_at-image_by j.head (transformed_sample (transform true false true) i) y (s.width - 1 - x) p row from plane ∙ ap (λ (k : ℕ). sample_at i k y p) again)
    ∙ image_is i is)

-- ---- a turn is two flips

quarter_by : (i : Image) (r : Result HeadValue ToolFault) → IsImage i → transformed_head (transform false false true) i.head ≡ r
    → made_by (transformed_sample (transform true false true) i) r ≡ then_flipped TopBottom (made_by (transformed_sample (transform false false true) i) r)
quarter_by i (Err fault) is e = refl
quarter_by i (Ok head) is e =
    let s : Shape = i.head.shape in
    let transposed : ℕ → ℕ → ℕ → ℕ = transformed_sample (transform false false true) i in
    let k : Image = image_by (transposed_head_value i.head) transposed in
    let flipped : applied (Flip TopBottom) k ≡ Ok (image_by k.head (transformed_sample (transform true false true) i)) =
    transformed_image TopBottom k
    ∙ ap (made_by (transformed_sample (transform false true false) k)) (moved_head false k.head (some_columns i is))
    ∙ ap (λ (j : Image). Ok j) (image_alike k.head (transformed_sample (transform false true false) k) (transformed_sample (transform true false true) i) (λ x y
    p column row plane.
    let line : s.width - 1 - y < s.width = omega arith in
    sample_at-image_by k.head transposed x (s.width - 1 - y) p column line plane)) in
    subst (λ (h : HeadValue). Ok (image_by h (transformed_sample (transform true false true) i)) ≡ applied (Flip TopBottom) (image_by h transposed))
    (transformed_is (transform false false true) i.head head e).result_is (sym flipped)

quarter_is : (i : Image) → IsImage i → applied (Flip Rotate90) i ≡ then_flipped TopBottom (applied (Flip Transpose) i)
quarter_is i is =
    transformed_image Rotate90 i
    ∙ quarter_by i (transformed_head (transform false false true) i.head) is refl
    ∙ ap (then_flipped TopBottom) (sym (transformed_image Transpose i))

half_is : (i : Image) → applied (Flip Rotate180) i ≡ then_flipped TopBottom (applied (Flip LeftRight) i)
half_is i =
    let s : Shape = i.head.shape in
    let mirrored : ℕ → ℕ → ℕ → ℕ = transformed_sample (transform true false false) i in
    let k : Image = image_by i.head mirrored in
    transformed_image Rotate180 i
    ∙ made_alike (transform true true false) i (transformed_sample (transform true true false) i) (transformed_sample (transform false true false) k)
    (transformed_head (transform true true false) i.head) refl (λ x y p column row plane.
    let line : s.height - 1 - y < s.height = omega arith in
    sym (sample_at-image_by i.head mirrored x (s.height - 1 - y) p column line plane))
    ∙ sym (transformed_image TopBottom k)
    ∙ ap (then_flipped TopBottom) (sym (transformed_image LeftRight i))

three_quarters_by : (i : Image) (b : Bool) → (i.head.shape.height == 0) ≡ b
    → applied (Flip Rotate270) i ≡ then_flipped Transpose (made_by (transformed_sample (transform false true false) i) (if b then Err OutOfOrder else Ok
    i.head))
three_quarters_by i true e =
    transformed_image Rotate270 i
    ∙ ap (λ (b : Bool). made_by (transformed_sample (transform false true true) i) (if b then Err OutOfOrder else within_limits (transposed_head_value i.head)))
    e
three_quarters_by i false e =
    let transformed : ℕ → ℕ → ℕ → ℕ = transformed_sample (transform false true false) i in
    let k : Image = image_by i.head transformed in
    transformed_image Rotate270 i
    ∙ made_alike (transform false true true) i (transformed_sample (transform false true true) i) (transformed_sample (transform false false true) k)
    (transformed_head (transform false true true) i.head) refl (λ x y p column row plane.
    sym (sample_at-image_by i.head transformed y x p row column plane))
    ∙ sym (transformed_image Transpose k)

three_quarters_is : (i : Image) → applied (Flip Rotate270) i ≡ then_flipped Transpose (applied (Flip TopBottom) i)
three_quarters_is i = three_quarters_by i (i.head.shape.height == 0) refl ∙ ap (then_flipped Transpose) (sym (transformed_image TopBottom i))

-- ---- all of them

rows_transformed : (i j : Image) → IsOnce (transform true false true) i j → i.head.shape.height ≡ 0 → ⊥
rows_transformed i j is none = absurd (omega (arith, (transformed_is (transform true false true) i.head j.head is.head).some_rows refl))

pub quarter_turns : (i : Image) → IsImage i → HasQuarterTurns i
quarter_turns i is = record {
  twice = λ j e.
      let transformed = once Rotate90 i j e in
      ap (λ (k : Image). applied (Flip Rotate90) k) (sym transformed.image) ∙ transformed_twice i is (rows_transformed i j transformed);
  back = λ j e. ap (λ (k : Image). applied (Flip Rotate270) k) (sym (once Rotate90 i j e).image) ∙ transformed_there_and_back i is;
  quarter = quarter_is i is;
  half = half_is i;
  three_quarters = three_quarters_is i;
}
