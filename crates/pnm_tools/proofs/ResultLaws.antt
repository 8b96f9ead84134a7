-- The result of an image is an image.
use Rattle.pnm_tools.proofs.Words.{◌≡◌, ℕ, ◌*◌, ◌<◌, ◌≤◌, false, length, slice_index, Ok, sym, subst, arith, mul-le-mul, Shape, HeadValue, IsHead, is_too_large}
use Rattle.pnm_tools.proofs.Words.{Image, IsImage, sample_at, sizes_within, CutBox, Span, Tool, Invert, Cut, Depth, Channel, Enlarge, Flip, Tile, span_count}
use Rattle.pnm_tools.proofs.Words.{SampleRule, Picks, IsLawfulPick, picked_head_value, IsLawfulTool, applied}
use Rattle.pnm_tools.specs.Tools.{result_sample}
use Rattle.pnm_tools.proofs.ImageLaws.{result_by_head}
use Rattle.pnm_tools.proofs.MadeLaws.{made_is_image, sample_in_range}
use Rattle.pnm_tools.proofs.WholeResultLaws.{enlarged_is_image, enlarged_has_rows, flipped_is_image, flipped_has_rows, tiled_is_image, tiled_has_rows}
use Rattle.pnm_tools.proofs.CutLaws.{LiesWithin, is_cut, cut_by}
use Rattle.pnm_tools.proofs.DepthLaws.{depth_is_samplewise}
use Rattle.pnm_tools.proofs.ChannelLaws.{is_picked}
use Rattle.pnm_tools.proofs.InvertLaws.{invert_is_samplewise}
use Rattle.pnm_tools.proofs.SamplewiseLaws.{IsSamplewise, changed_head_is, sample_of_rule}

-- ---- images each sample of which is changed by itself

samplewise_is_image : {tool : Tool} {rule : SampleRule} → IsSamplewise tool rule → (i j : Image) → IsLawfulTool tool → IsImage i → applied tool i ≡ Ok j
    → IsImage j
samplewise_is_image {tool = tool} {rule = rule} by i j lawful is e =
    let made = result_by_head tool i j e in
    let same = sym (changed_head_is by i.head j.head made.head) in
    let in_range : (x y p : ℕ) → result_sample tool i x y p ≤ rule.maxval i.head.shape.maxval = λ x y p.
    subst (λ (f : ℕ → ℕ → ℕ → ℕ). f x y p ≤ rule.maxval i.head.shape.maxval) (sym (sample_of_rule by i))
    (by.within i.head.shape.maxval (sample_at i x y p) lawful is.head.limits.maxval_low (sample_in_range i x y p is)) in
    made_is_image tool i j made (subst IsHead same (by.head i.head lawful is.head))
    (λ x y p. subst (λ (h : HeadValue). result_sample tool i x y p ≤ h.shape.maxval) same (in_range x y p))

samplewise_has_rows : {tool : Tool} {rule : SampleRule} → IsSamplewise tool rule → (i j : Image) → 0 < i.head.shape.height → applied tool i ≡ Ok j
    → 0 < j.head.shape.height
samplewise_has_rows {tool = tool} by i j rows e =
    subst (λ (h : HeadValue). 0 < h.shape.height) (sym (changed_head_is by i.head j.head (result_by_head tool i j e).head)) rows

-- ---- cut images

cut_within : (c r : Span) (head : HeadValue) → IsHead head → LiesWithin c head.shape.width → LiesWithin r head.shape.height → IsHead (cut_by c r head)
cut_within c r head sound in_row in_image =
    let s : Shape = head.shape in
    let limits = sound.limits in
    let narrow : span_count c * s.depth ≤ s.width * s.depth = mul-le-mul {n₁ = span_count c} {m₁ = s.depth} {n₂ = s.width} {m₂ = s.depth} (omega arith)
    (omega arith) in
    record {
      limits = record {
        width_low = omega arith;
        width_high = omega arith;
        height_high = omega arith;
        depth_low = limits.depth_low;
        depth_high = limits.depth_high;
        row_high = omega arith;
        maxval_low = limits.maxval_low;
        maxval_high = limits.maxval_high;
      };
      suits = sound.suits;
    }

cut_in_range : (box : CutBox) (i : Image) (x y p : ℕ) → IsImage i → result_sample (Cut box) i x y p ≤ i.head.shape.maxval
unfolding result_sample
cut_in_range box i x y p is = sample_in_range i _ _ p is

cut_is_image : (box : CutBox) (i j : Image) → IsImage i → applied (Cut box) i ≡ Ok j → IsImage j
cut_is_image box i j is e =
    let made = result_by_head (Cut box) i j e in
    let cut = is_cut box i.head j.head made.head in
    let same : cut_by cut.spans.columns cut.spans.rows i.head ≡ j.head = sym cut.spans.result_is in
    made_is_image (Cut box) i j made
    (subst IsHead same (cut_within cut.spans.columns cut.spans.rows i.head is.head cut.in_row cut.in_image))
    (λ x y p. subst (λ (h : HeadValue). result_sample (Cut box) i x y p ≤ h.shape.maxval) same (cut_in_range box i x y p is))

cut_has_rows : (box : CutBox) (i j : Image) → applied (Cut box) i ≡ Ok j → 0 < j.head.shape.height
cut_has_rows box i j e =
    let cut = is_cut box i.head j.head (result_by_head (Cut box) i j e).head in
    let some : 0 < span_count cut.spans.rows = omega (arith, cut.in_image.in_order) in
    subst (λ (h : HeadValue). 0 < h.shape.height) (sym cut.spans.result_is) some

-- ---- picked images

picked_header_is : (planes : Picks) (head : HeadValue) → IsLawfulPick planes → IsHead head → is_too_large (picked_head_value planes head).shape ≡ false
    → IsHead (picked_head_value planes head)
picked_header_is planes head lawful sound fits =
    let s : Shape = head.shape in
    let limits = sound.limits in
    let within = sizes_within s.width s.height (length planes.numbers) (s.width * length planes.numbers) fits in
    record {
      limits = record {
        width_low = limits.width_low;
        width_high = limits.width_high;
        height_high = limits.height_high;
        depth_low = lawful.some;
        depth_high = within.2;
        row_high = within.3;
        maxval_low = limits.maxval_low;
        maxval_high = limits.maxval_high;
      };
      suits = lawful.tuple_type;
    }

picked_in_range : (planes : Picks) (i : Image) (x y p : ℕ) → IsImage i → result_sample (Channel planes) i x y p ≤ i.head.shape.maxval
unfolding result_sample
picked_in_range planes i x y p is = sample_in_range i x y (slice_index planes.numbers p) is

picked_is_image : (planes : Picks) (i j : Image) → IsLawfulPick planes → IsImage i → applied (Channel planes) i ≡ Ok j → IsImage j
picked_is_image planes i j lawful is e =
    let made = result_by_head (Channel planes) i j e in
    let picked = is_picked planes i.head j.head made.head in
    let same : picked_head_value planes i.head ≡ j.head = sym picked.result_is in
    let fits : is_too_large (picked_head_value planes i.head).shape ≡ false =
    subst (λ (h : HeadValue). is_too_large h.shape ≡ false) picked.result_is picked.limits in
    made_is_image (Channel planes) i j made (subst IsHead same (picked_header_is planes i.head lawful is.head fits))
    (λ x y p. subst (λ (h : HeadValue). result_sample (Channel planes) i x y p ≤ h.shape.maxval) same (picked_in_range planes i x y p is))

-- ---- each tool

pub result_is_image : (tool : Tool) (i j : Image) → IsLawfulTool tool → IsImage i → applied tool i ≡ Ok j → IsImage j
result_is_image Invert i j lawful image made = samplewise_is_image invert_is_samplewise i j lawful image made
result_is_image (Cut box) i j lawful image made = cut_is_image box i j image made
result_is_image (Depth maxval) i j lawful image made = samplewise_is_image (depth_is_samplewise maxval) i j lawful image made
result_is_image (Channel planes) i j lawful image made = picked_is_image planes i j lawful image made
result_is_image (Enlarge across down) i j lawful image made = enlarged_is_image across down i j lawful.0.0 image made
result_is_image (Flip way) i j lawful image made = flipped_is_image way i j image made
result_is_image (Tile across down) i j lawful image made = tiled_is_image across down i j lawful.0.0 image made

-- the result of an image that has rows has rows
pub result_has_rows : (tool : Tool) (i j : Image) → IsLawfulTool tool → IsImage i → 0 < i.head.shape.height → applied tool i ≡ Ok j → 0 < j.head.shape.height
result_has_rows Invert i j lawful image rows made = samplewise_has_rows invert_is_samplewise i j rows made
result_has_rows (Cut box) i j lawful image rows made = cut_has_rows box i j made
result_has_rows (Depth maxval) i j lawful image rows made =
    samplewise_has_rows (depth_is_samplewise maxval) i j rows made
result_has_rows (Channel planes) i j lawful image rows made =
    subst (λ (h : HeadValue). 0 < h.shape.height) (sym (is_picked planes i.head j.head (result_by_head (Channel planes) i j made).head).result_is) rows
result_has_rows (Enlarge across down) i j lawful image rows made = enlarged_has_rows across down i j lawful.1.0 rows made
result_has_rows (Flip way) i j lawful image rows made = flipped_has_rows way i j image rows made
result_has_rows (Tile across down) i j lawful image rows made = tiled_has_rows across down i j lawful.1.0 made
