-- Why a tool refuses a head.
use Rattle.pnm_tools.proofs.Words.{◌≡◌, Bool, true, false, not, ◌&&◌, Option, Some, None, Result, Ok, Err, nat_lt, refl, ap, subst, ◌==◌, if◌then◌else◌}
use Rattle.pnm_tools.proofs.Words.{list_all, eqb-true, eq-eqb, not-true, not-false, not_from_false, and_parts, and_from, HeadValue, is_too_large, CutBox, Span}
use Rattle.pnm_tools.proofs.Words.{ToolFault, TooLarge, ChannelOutside, OutOfOrder, FlipWay, Transform, Tool, Invert, Cut, Depth, Channel, Enlarge, Flip, Tile}
use Rattle.pnm_tools.proofs.Words.{picked_head_value, head_of_spans, columns_kept, rows_kept, enlarged_head_value, transform_of, moves_rows, transformed_head}
use Rattle.pnm_tools.proofs.Words.{transposed_head_value, IsFaultOfHead, within_limits, tiled_head_value, is_row_wise}
use Rattle.pnm_tools.specs.Tools.{result_head}

-- ---- by which faults

-- a refusal, if this is one, is by one of the faults of a head
abbrev RefusesByName : Tool → HeadValue → Result HeadValue ToolFault → Type 0
RefusesByName tool head (Ok made) = Unit {0}
RefusesByName tool head (Err fault) = IsFaultOfHead tool head fault

either_by_name : (tool : Tool) (head : HeadValue) (b : Bool) (r s : Result HeadValue ToolFault) → (b ≡ true → RefusesByName tool head r)
    → RefusesByName tool head s → RefusesByName tool head (if b then r else s)
either_by_name tool head true r s first second = first refl
either_by_name tool head false r s first second = second

limits_by_name : (tool : Tool) (head made : HeadValue) → RefusesByName tool head (within_limits made)
limits_by_name tool head made = either_by_name tool head (is_too_large made.shape) (Err TooLarge) (Ok made) (λ large. tt) tt

-- where a head of no rows is refused first
order_by_name : (tool : Tool) (head : HeadValue) (r : Result HeadValue ToolFault) → is_row_wise tool ≡ false → RefusesByName tool head r
    → RefusesByName tool head (if head.shape.height == 0 then Err OutOfOrder else r)
order_by_name tool head r whole others =
    either_by_name tool head (head.shape.height == 0) (Err OutOfOrder) r (λ none. (whole, eqb-true head.shape.height 0 none)) others

spans_by_name : (box : CutBox) (head : HeadValue) (columns rows : Option Span) → RefusesByName (Cut box) head (head_of_spans head columns rows)
spans_by_name box head (Some columns) (Some rows) = tt
spans_by_name box head (Some columns) None = (box, refl)
spans_by_name box head None rows = (box, refl)

flip_by_name : (way : FlipWay) (head : HeadValue) → RefusesByName (Flip way) head (transformed_head (transform_of way) head)
flip_by_name way head =
    let t : Transform = transform_of way in
    let x : HeadValue = transposed_head_value head in
    either_by_name (Flip way) head (moves_rows t && (head.shape.height == 0)) (Err OutOfOrder) (if t.exchanged then within_limits x else Ok head) (λ none.
    let parts = and_parts (moves_rows t) (head.shape.height == 0) none in
    (ap not parts.0, eqb-true head.shape.height 0 parts.1))
    (either_by_name (Flip way) head t.exchanged (within_limits x) (Ok head) (λ exchanged. limits_by_name (Flip way) head x) tt)

by_name : (tool : Tool) (head : HeadValue) → RefusesByName tool head (result_head tool head)
unfolding result_head
by_name Invert head = tt
by_name (Cut box) head =
    order_by_name (Cut box) head (head_of_spans head (columns_kept box head.shape) (rows_kept box head.shape)) refl
    (spans_by_name box head (columns_kept box head.shape) (rows_kept box head.shape))
by_name (Depth maxval) head = tt
by_name (Channel planes) head =
    either_by_name (Channel planes) head (list_all (λ number. nat_lt number head.shape.depth) planes.numbers) (within_limits (picked_head_value planes head))
    (Err ChannelOutside) (λ there. limits_by_name (Channel planes) head (picked_head_value planes head)) (planes, refl)
by_name (Enlarge across down) head =
    either_by_name (Enlarge across down) head (not (down == 1) && (head.shape.height == 0)) (Err OutOfOrder)
    (within_limits (enlarged_head_value across down head)) (λ none.
    let parts = and_parts (not (down == 1)) (head.shape.height == 0) none in
    (not-true (down == 1) parts.0, eqb-true head.shape.height 0 parts.1)) (limits_by_name (Enlarge across down) head (enlarged_head_value across down head))
by_name (Flip way) head = flip_by_name way head
by_name (Tile across down) head =
    order_by_name (Tile across down) head (within_limits (tiled_head_value across down head)) refl
    (limits_by_name (Tile across down) head (tiled_head_value across down head))

-- a head is refused by one of these faults alone
pub head_is_refused_by_name : (tool : Tool) (head : HeadValue) (fault : ToolFault) → result_head tool head ≡ Err fault → IsFaultOfHead tool head fault
head_is_refused_by_name tool head fault e = subst (RefusesByName tool head) e (by_name tool head)

-- ---- a head of no rows

refused_first : (b : Bool) (r : Result HeadValue ToolFault) → b ≡ true → (if b then Err OutOfOrder else r) ≡ Err OutOfOrder
refused_first true r out = refl
refused_first false r out = absurd cc

-- a tool that isn't row-wise refuses a head of no rows
pub no_rows_refused : (tool : Tool) (head : HeadValue) → is_row_wise tool ≡ false → head.shape.height ≡ 0 → result_head tool head ≡ Err OutOfOrder
unfolding result_head
no_rows_refused Invert head whole none = absurd cc
no_rows_refused (Cut box) head whole none = refused_first (head.shape.height == 0) (head_of_spans head (columns_kept box head.shape) (rows_kept box head.shape))
    (eq-eqb head.shape.height 0 none)
no_rows_refused (Depth maxval) head whole none = absurd cc
no_rows_refused (Channel planes) head whole none = absurd cc
no_rows_refused (Enlarge across down) head whole none =
    refused_first (not (down == 1) && (head.shape.height == 0)) (within_limits (enlarged_head_value across down head))
    (and_from (not (down == 1)) (head.shape.height == 0) (not_from_false (down == 1) whole) (eq-eqb head.shape.height 0 none))
no_rows_refused (Flip way) head whole none =
    let t : Transform = transform_of way in
    refused_first (moves_rows t && (head.shape.height == 0)) (if t.exchanged then within_limits (transposed_head_value head) else Ok head)
    (and_from (moves_rows t) (head.shape.height == 0) (not-false (moves_rows t) whole) (eq-eqb head.shape.height 0 none))
no_rows_refused (Tile across down) head whole none = refused_first (head.shape.height == 0) (within_limits (tiled_head_value across down head))
    (eq-eqb head.shape.height 0 none)
