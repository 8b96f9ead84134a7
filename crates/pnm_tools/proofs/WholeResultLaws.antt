-- The enlarged, the flipped and the tiled image are images.
use Rattle.pnm_tools.proofs.Words.{◌≡◌, ℕ, ◌*◌, ◌<◌, ◌≤◌, Bool, true, false, Ok, refl, sym, ap, subst, arith, mul-pos, Shape, HeadValue, IsHead, is_too_large}
use Rattle.pnm_tools.proofs.Words.{Image, IsImage, sizes_within, FlipWay, Transform, Enlarge, Flip, Tile, transform, transform_of, applied, result_head}
use Rattle.pnm_tools.specs.Tools.{result_sample}
use Rattle.pnm_tools.proofs.ImageLaws.{result_by_head}
use Rattle.pnm_tools.proofs.MadeLaws.{made_is_image, sample_in_range}
use Rattle.pnm_tools.proofs.PixelLaws.{resized}
use Rattle.pnm_tools.proofs.WholeHeadLaws.{IsTransformed, is_enlarged, is_tiled, is_transformed}
use Rattle.pnm_tools.proofs.TransformLaws.{flipped_is_transformed}

-- a head with other sizes is a head, where they are within the limits
resized_is : (width height : ℕ) (head : HeadValue) → 0 < width → IsHead head → is_too_large (resized width height head).shape ≡ false
    → IsHead (resized width height head)
resized_is width height head some sound fits =
    let s : Shape = head.shape in
    let limits = sound.limits in
    let within = sizes_within width height s.depth (width * s.depth) fits in
    record {
      limits = record {
        width_low = some;
        width_high = within.0;
        height_high = within.1;
        depth_low = limits.depth_low;
        depth_high = limits.depth_high;
        row_high = within.3;
        maxval_low = limits.maxval_low;
        maxval_high = limits.maxval_high;
      };
      suits = sound.suits;
    }

-- ---- enlarged images

-- the samples of an enlarged image are those of the image
enlarged_in_range : (across down : ℕ) (i : Image) (x y p : ℕ) → IsImage i → result_sample (Enlarge across down) i x y p ≤ i.head.shape.maxval
unfolding result_sample
enlarged_in_range across down i x y p is = sample_in_range i _ _ p is

-- an enlarged image is an image
pub enlarged_is_image : (across down : ℕ) (i j : Image) → 1 ≤ across → IsImage i → applied (Enlarge across down) i ≡ Ok j → IsImage j
enlarged_is_image across down i j wide is e =
    let made = result_by_head (Enlarge across down) i j e in
    let s : Shape = i.head.shape in
    let within = is_enlarged across down i.head j.head made.head in
    let sound = resized_is (s.width * across) (s.height * down) i.head (mul-pos {m = s.width} {n = across} is.head.limits.width_low wide) is.head
    within.limits in
    made_is_image (Enlarge across down) i j made (subst IsHead within.result_is sound)
    (λ x y p. subst (λ (h : HeadValue). result_sample (Enlarge across down) i x y p ≤ h.shape.maxval) within.result_is
    (enlarged_in_range across down i x y p is))

-- an enlarged image of rows has rows
pub enlarged_has_rows : (across down : ℕ) (i j : Image) → 1 ≤ down → 0 < i.head.shape.height → applied (Enlarge across down) i ≡ Ok j → 0 < j.head.shape.height
enlarged_has_rows across down i j high rows e =
    let within = is_enlarged across down i.head j.head (result_by_head (Enlarge across down) i j e).head in
    subst (λ (h : HeadValue). 0 < h.shape.height) within.result_is (mul-pos {m = i.head.shape.height} {n = down} rows high)

-- ---- flipped images

-- the samples of a flipped image are those of the image
flipped_in_range : (way : FlipWay) (i : Image) (x y p : ℕ) → IsImage i → result_sample (Flip way) i x y p ≤ i.head.shape.maxval
unfolding result_sample
flipped_in_range way i x y p is = subst (λ (sample : ℕ → ℕ → ℕ → ℕ). sample x y p ≤ i.head.shape.maxval) (sym (flipped_is_transformed way i))
    (sample_in_range i _ _ p is)

-- the flipped head: it is a head, the samples' range is kept, and there are rows
record IsFlipped (head result : HeadValue) : Type 0 where
  header : IsHead result
  range : head.shape.maxval ≡ result.shape.maxval
  rows : 0 < head.shape.height → 0 < result.shape.height

-- a head that is kept
same_head : (head result : HeadValue) → IsHead head → head ≡ result → IsFlipped head result
same_head head result sound same =
    record {
      header = subst IsHead same sound;
      range = ap (λ (h : HeadValue). h.shape.maxval) same;
      rows = λ some. subst (λ (h : HeadValue). 0 < h.shape.height) same some;
    }

-- the head of each rule
flipped_by : (columns rows exchanged : Bool) (head result : HeadValue) → IsHead head → IsTransformed (transform columns rows exchanged) head result
    → IsFlipped head result
flipped_by columns rows true head result sound is =
    let s : Shape = head.shape in
    record {
      header = subst IsHead is.result_is (resized_is s.height s.width head (is.some_rows refl) sound (is.limits refl));
      range = ap (λ (h : HeadValue). h.shape.maxval) is.result_is;
      rows = λ some. subst (λ (h : HeadValue). 0 < h.shape.height) is.result_is sound.limits.width_low;
    }
flipped_by columns rows false head result sound is = same_head head result sound is.result_is

is_flipped : (way : FlipWay) (head result : HeadValue) → IsHead head → result_head (Flip way) head ≡ Ok result → IsFlipped head result
is_flipped way head result sound e =
    let t : Transform = transform_of way in
    flipped_by t.columns_reversed t.rows_reversed t.exchanged head result sound (is_transformed way head result e)

-- a flipped image is an image
pub flipped_is_image : (way : FlipWay) (i j : Image) → IsImage i → applied (Flip way) i ≡ Ok j → IsImage j
flipped_is_image way i j is e =
    let made = result_by_head (Flip way) i j e in
    let flipped = is_flipped way i.head j.head is.head made.head in
    made_is_image (Flip way) i j made flipped.header
    (λ x y p. subst (λ (maxval : ℕ). result_sample (Flip way) i x y p ≤ maxval) flipped.range (flipped_in_range way i x y p is))

-- a flipped image of rows has rows
pub flipped_has_rows : (way : FlipWay) (i j : Image) → IsImage i → 0 < i.head.shape.height → applied (Flip way) i ≡ Ok j → 0 < j.head.shape.height
flipped_has_rows way i j is rows e = (is_flipped way i.head j.head is.head (result_by_head (Flip way) i j e).head).rows rows

-- ---- tiled images

-- the samples of a tiled image are those of the image
tiled_in_range : (across down : ℕ) (i : Image) (x y p : ℕ) → IsImage i → result_sample (Tile across down) i x y p ≤ i.head.shape.maxval
unfolding result_sample
tiled_in_range across down i x y p is = sample_in_range i _ _ p is

-- a tiled image is an image
pub tiled_is_image : (across down : ℕ) (i j : Image) → 1 ≤ across → IsImage i → applied (Tile across down) i ≡ Ok j → IsImage j
tiled_is_image across down i j wide is e =
    let made = result_by_head (Tile across down) i j e in
    let within = (is_tiled across down i.head j.head made.head).within in
    made_is_image (Tile across down) i j made (subst IsHead within.result_is (resized_is across down i.head (omega arith) is.head within.limits))
    (λ x y p. subst (λ (h : HeadValue). result_sample (Tile across down) i x y p ≤ h.shape.maxval) within.result_is (tiled_in_range across down i x y p is))

-- a tiled image has rows
pub tiled_has_rows : (across down : ℕ) (i j : Image) → 1 ≤ down → applied (Tile across down) i ≡ Ok j → 0 < j.head.shape.height
tiled_has_rows across down i j high e =
    let some : 0 < down = omega arith in
    subst (λ (h : HeadValue). 0 < h.shape.height) (is_tiled across down i.head j.head (result_by_head (Tile across down) i j e).head).within.result_is some
