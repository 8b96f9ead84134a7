-- The columns and rows that are kept.
use Rattle.pnm_tools.proofs.Words.{◌≡◌, ◌⊎◌, inl, inr, ℕ, ◌+◌, ◌-◌, ◌*◌, ◌≤◌, ◌<◌, ℤ, pos, negsuc, Bool, true, false, nat_lt, ◌&&◌, Option, Some, None, Result}
use Rattle.pnm_tools.proofs.Words.{Ok, Err, List, [], ◌∷◌, mul-le-mul, add-mul, length, take, drop, refl, sym, ap, ◌∙◌, subst, arith, copy_within, paste}
use Rattle.pnm_tools.proofs.Words.{leb-true, ltb-true, le-leb, lt-leb, ne_eqb, and_parts, and_right, take_all, take-paste, Shape, HeadValue, IsWithinLimits}
use Rattle.pnm_tools.proofs.Words.{head_value, is_too_large, CutBox, Span, ToolFault, OutOfOrder, Cut, columns_of_row, first_kept, last_kept, span_within}
use Rattle.pnm_tools.proofs.Words.{columns_kept, rows_kept, rows_of_spans, head_of_spans, KeepsWithin, span_count, within_limits, result_head, row_answer}
use Rattle.pnm_tools.proofs.Words.{MAX_ROW_LENGTH}
use Rattle.std.proofs.Common.{nat_le, if◌then◌else◌}
use Rattle.std.proofs.Common.{◌==◌}
use Rattle.std.proofs.Common.{length-drop}
use Rattle.pnm_tools.proofs.HeadLaws.{head_of_cut, small_sizes, small_head}
use Rattle.pnm_tools.proofs.RowLaws.{row_of_cut}

-- the rest of a list, moved to its front
moved : {X : Type 0} (xs : List X) (f m : ℕ) → length xs ≡ m → f ≤ m → take (m - f) (copy_within xs f m 0) ≡ drop f xs
moved xs f m long le =
    let n : ℕ = m - f in
    let size : length (drop f xs) ≡ n = omega (arith, length-drop f xs) in
    let on : n ≡ 0 + n = omega arith in
    ap (λ (k : ℕ). take k (paste xs 0 (drop f xs) n)) on ∙ take-paste xs 0 (drop f xs) n (omega arith) (omega arith) ∙ take_all n (drop f xs) (omega arith)

-- a row of which all columns are kept
pub all_kept : {X : Type 0} (columns : Span) (depth count : ℕ) (row : List X) → KeepsWithin columns depth row
    → count ≡ (columns.last - columns.first + 1) * depth → count ≡ length row → row ≡ columns_of_row columns depth row
all_kept {X = X} columns depth count row h size all =
    let n : ℕ = columns.last - columns.first + 1 in
    let parts : columns.last + 1 ≡ columns.first + n = omega (arith, h.0) in
    let sum : (columns.last + 1) * depth ≡ columns.first * depth + n * depth = ap (λ (k : ℕ). k * depth) parts ∙ add-mul columns.first n depth in
    let none : columns.first * depth ≡ 0 = omega (arith, h.1, sum) in
    let same : span_count columns ≡ n = omega (arith, h.0) in
    let whole : span_count columns * depth ≡ length row = ap (λ (k : ℕ). k * depth) same ∙ sym size ∙ all in
    sym (ap (λ (k : ℕ). take (span_count columns * depth) (drop k row)) none ∙ take_all (span_count columns * depth) row (omega arith))

-- ---- spans

span_if : (first last count : ℕ) (b : Bool) (span : Span) → (nat_le first last && nat_lt last count) ≡ b
    → Some span ≡ (if b then Some (record { first = first; last = last }) else None) → (span.first ≤ span.last) × (span.last < count)
span_if first last count true span t e =
    let same : span ≡ record { first = first; last = last } = cc in
    let both = and_parts (nat_le first last) (nat_lt last count) t in
    let low : first ≤ last = leb-true first last both.0 in
    let high : last < count = ltb-true last count both.1 in
    let a : span.first ≡ first = ap (λ (z : Span). z.first) same in
    let b : span.last ≡ last = ap (λ (z : Span). z.last) same in
    (omega arith, omega arith)
span_if first last count false span t e = absurd cc

-- a span lies among the columns or rows
pub span_lies : (count : ℕ) (first last : ℤ) (span : Span) → Some span ≡ span_within count first last → (span.first ≤ span.last) × (span.last < count)
span_lies count (pos first) (pos last) span e = span_if first last count (nat_le first last && nat_lt last count) span refl e
span_lies count (pos first) (negsuc last) span e = absurd cc
span_lies count (negsuc first) last span e = absurd cc

pub columns_lie : (box : CutBox) (s : Shape) (span : Span) → Some span ≡ columns_kept box s → (span.first ≤ span.last) × (span.last < s.width)
columns_lie box s span e = span_lies s.width (first_kept s.width box.left box.right box.width) (last_kept s.width box.left box.right box.width) span e

pub rows_lie : (box : CutBox) (s : Shape) (span : Span) → Some span ≡ rows_kept box s → (span.first ≤ span.last) × (span.last < s.height)
rows_lie box s span e = span_lies s.height (first_kept s.height box.top box.bottom box.height) (last_kept s.height box.top box.bottom box.height) span e

-- ---- rows

pub cut_row_by : (box : CutBox) (s : Shape) (y : ℕ) (row : List ℕ) (a b : Option Span) → a ≡ columns_kept box s → b ≡ rows_kept box s
    → row_answer (Cut box) s y row ≡ rows_of_spans a b s.depth y row
cut_row_by box s y row a b columns rows =
    row_of_cut box s y row ∙ ap (λ (x : Option Span). rows_of_spans x (rows_kept box s) s.depth y row) (sym columns)
    ∙ ap (λ (x : Option Span). rows_of_spans a x s.depth y row) (sym rows)

-- a row before the first that is kept, or after the last
pub row_outside : (columns rows : Span) (depth y : ℕ) (row : List ℕ) → (y < rows.first) ⊎ ((rows.first ≤ y) × (rows.last < y))
    → rows_of_spans (Some columns) (Some rows) depth y row ≡ []
row_outside columns rows depth y row (inl h) =
    ap (λ (b : Bool). if b && nat_le y rows.last then columns_of_row columns depth row ∷ [] else []) (lt-leb rows.first y h)
row_outside columns rows depth y row (inr h) =
    ap (λ (b : Bool). if nat_le rows.first y && b then columns_of_row columns depth row ∷ [] else []) (lt-leb y rows.last h.1)
    ∙ ap (λ (b : Bool). if b then columns_of_row columns depth row ∷ [] else []) (and_right (nat_le rows.first y) false refl)

-- a row that is kept
pub row_inside : (columns rows : Span) (depth y : ℕ) (row : List ℕ) → rows.first ≤ y → y ≤ rows.last → rows_of_spans (Some columns) (Some rows) depth y row
    ≡ columns_of_row columns depth row ∷ []
row_inside columns rows depth y row low high =
    ap (λ (b : Bool). if b && nat_le y rows.last then columns_of_row columns depth row ∷ [] else []) (le-leb rows.first y low)
    ∙ ap (λ (b : Bool). if b then columns_of_row columns depth row ∷ [] else []) (le-leb y rows.last high)

-- ---- heads

-- an image without rows
pub cut_without_rows : (box : CutBox) (head : HeadValue) → head.shape.height ≡ 0 → result_head (Cut box) head ≡ Err OutOfOrder
cut_without_rows box head e = head_of_cut box head
    ∙ ap (λ (n : ℕ). if n == 0 then Err OutOfOrder else head_of_spans head (columns_kept box head.shape) (rows_kept box head.shape)) e

-- an image that has rows, by the spans that were found
abbrev cut_by : HeadValue → Option Span → Option Span → Bool → Result HeadValue ToolFault
cut_by head columns rows b = if b then Err OutOfOrder else head_of_spans head columns rows

pub cut_head_by : (box : CutBox) (head : HeadValue) (s : Shape) (columns rows : Option Span) → s ≡ head.shape → (s.height ≡ 0 → ⊥)
    → columns ≡ columns_kept box s → rows ≡ rows_kept box s → result_head (Cut box) head ≡ head_of_spans head columns rows
cut_head_by box head s columns rows same some a b =
    let height : (head.shape.height == 0) ≡ false = ne_eqb head.shape.height 0 (λ e. some (ap (λ (z : Shape). z.height) same ∙ e)) in
    head_of_cut box head
    ∙ ap (cut_by head (columns_kept box head.shape) (rows_kept box head.shape)) height
    ∙ ap (λ (z : Shape). head_of_spans head (columns_kept box z) (rows_kept box z)) (sym same)
    ∙ ap (λ (x : Option Span). head_of_spans head x (rows_kept box s)) (sym a) ∙ ap (head_of_spans head columns) (sym b)

-- what is kept is within the limits
pub cut_is_small : (s : Shape) (width height : ℕ) → IsWithinLimits s → width ≤ s.width → height ≤ s.height
    → is_too_large (record s { width = width; height = height }) ≡ false
cut_is_small s width height h w y =
    let below : width * s.depth ≤ s.width * s.depth = mul-le-mul {n₁ = width} {m₁ = s.depth} {n₂ = s.width} {m₂ = s.depth} w (omega arith) in
    let row : width * s.depth ≤ MAX_ROW_LENGTH = omega (arith, below, h.row_high) in
    small_sizes (record s { width = width; height = height }) (omega (arith, h.width_high)) (omega (arith, h.height_high)) h.depth_high row

pub cut_head_made : (box : CutBox) (head : HeadValue) (s : Shape) (columns rows : Span) (width height : ℕ) (t : List ℕ) → s ≡ head.shape
    → IsWithinLimits head.shape → (s.height ≡ 0 → ⊥) → Some columns ≡ columns_kept box s → Some rows ≡ rows_kept box s
    → width ≡ span_count columns → height ≡ span_count rows → t ≡ head.tuple_type
    → result_head (Cut box) head ≡ within_limits (head_value (record s { width = width; height = height }) t)
cut_head_made box head s columns rows width height t same sound some a b wide high type =
    let x : HeadValue = head_value (record s { width = width; height = height }) t in
    let whole : record head { shape = record head.shape { width = span_count columns; height = span_count rows } } ≡ x =
    ap (λ (z : Shape). head_value (record z { width = span_count columns; height = span_count rows }) head.tuple_type) (sym same)
    ∙ ap (λ (n : ℕ). head_value (record s { width = n; height = span_count rows }) head.tuple_type) (sym wide)
    ∙ ap (λ (n : ℕ). head_value (record s { width = width; height = n }) head.tuple_type) (sym high)
    ∙ ap (head_value (record s { width = width; height = height })) (sym type) in
    let left = columns_lie box s columns a in
    let top = rows_lie box s rows b in
    let small = cut_is_small s width height (subst IsWithinLimits (sym same) sound) (omega (arith, wide, left.0, left.1)) (omega (arith, high, top.0, top.1)) in
    cut_head_by box head s (Some columns) (Some rows) same some a b ∙ ap (λ (h : HeadValue). Ok h) whole ∙ sym (small_head x small)

-- the span of an axis that is within the limits lies within them
pub counts_within : (columns : Span) (count most : ℕ) → (columns.first ≤ columns.last) × (columns.last < count) → count ≤ most → (columns.first ≤ columns.last)
    × (columns.last < most)
counts_within columns count most lies le = (lies.0, omega (arith, lies.1))
