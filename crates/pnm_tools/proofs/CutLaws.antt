-- The cut image is what the rows of an image, each cut, are the messages of.
use Rattle.pnm_tools.proofs.Words.{◌≡◌, ℕ, zero, suc, ◌+◌, ◌-◌, ◌*◌, ◌<◌, ◌≤◌, Bool, true, false, ◌&&◌, ℤ, Option, Some, None, List, [], ◌∷◌, ◌++◌, map, length}
use Rattle.pnm_tools.proofs.Words.{slice_index, take, drop, Ok, Err, refl, sym, ap, ◌∙◌, arith, append-nil, mul_assoc, add-mul, mul-le-mul, suc-mul}
use Rattle.pnm_tools.proofs.Words.{if◌then◌else◌, nat_le, ◌==◌, flat_map, range_with_len, le-leb, lt-leb, and_from, and_left, and_right, flat_map-append}
use Rattle.pnm_tools.proofs.Words.{drop-take, take-take, drop-drop, map-id, Shape, HeadValue, Image, IsImage, sample_at, rows_of, CutBox, Span, OutOfOrder, Cut}
use Rattle.pnm_tools.proofs.Words.{image_by, span_within, span_count, first_kept, last_kept, columns_kept, rows_kept, first_of, head_of_spans, columns_of_row}
use Rattle.pnm_tools.proofs.Words.{rows_of_spans, cut_rows_of}
use Rattle.pnm_tools.specs.Tools.{result_head, result_sample, row_answer}
use Rattle.pnm_tools.proofs.FormulaLaws.{columns, columns_at, row_at, rows_are, rows_of-image_by, range_alike}
use Rattle.pnm_tools.proofs.ImageLaws.{answers_to_rows, numbered_rows_answered, result_by_head, answered_by_rows}
use Rattle.pnm_tools.proofs.AnsweringLaws.{AnswersImages}
use Rattle.pnm_tools.proofs.RangeLaws.{range-append}
use Rattle.pnm_tools.proofs.CutRowLaws.{span_lies as within_count}

-- ---- ranges of numbers

map_shift : {A : Type 0} (f : ℕ → A) (k a n : ℕ) → map (λ y. f (y + k)) (range_with_len a n) ≡ map f (range_with_len (a + k) n)
map_shift f k a zero = refl
map_shift {A = A} f k a (suc n) =
    let from : a + 1 + k ≡ a + k + 1 = omega arith in
    ap (λ (l : List A). f (a + k) ∷ l) (map_shift f k (a + 1) n ∙ ap (λ (b : ℕ). map f (range_with_len b n)) from)

flat_map_shift : {A : Type 0} (f : ℕ → List A) (k a n : ℕ) → flat_map (λ y. f (y + k)) (range_with_len a n) ≡ flat_map f (range_with_len (a + k) n)
flat_map_shift f k a zero = refl
flat_map_shift {A = A} f k a (suc n) =
    let from : a + 1 + k ≡ a + k + 1 = omega arith in
    ap (λ (l : List A). f (a + k) ++ l) (flat_map_shift f k (a + 1) n ∙ ap (λ (b : ℕ). flat_map f (range_with_len b n)) from)

-- a row where its number lies from one to another
abbrev kept : ℕ → ℕ → (ℕ → List ℕ) → ℕ → List (List ℕ)
kept first last f y = if nat_le first y && nat_le y last then f y ∷ [] else []

none_kept : (first last : ℕ) (f : ℕ → List ℕ) (from n : ℕ) → ((y : ℕ) → from ≤ y → y < from + n → (nat_le first y && nat_le y last) ≡ false)
    → flat_map (kept first last f) (range_with_len from n) ≡ []
none_kept first last f from zero out = refl
none_kept first last f from (suc n) out =
    ap (λ (b : Bool). (if b then f from ∷ [] else []) ++ flat_map (kept first last f) (range_with_len (from + 1) n)) (out from (omega arith) (omega arith))
    ∙ none_kept first last f (from + 1) n (λ y low high. out y (omega arith) (omega arith))

all_kept : (first last : ℕ) (f : ℕ → List ℕ) (from n : ℕ) → ((y : ℕ) → from ≤ y → y < from + n → (nat_le first y && nat_le y last) ≡ true)
    → flat_map (kept first last f) (range_with_len from n) ≡ map f (range_with_len from n)
all_kept first last f from zero within = refl
all_kept first last f from (suc n) within =
    ap (λ (b : Bool). (if b then f from ∷ [] else []) ++ flat_map (kept first last f) (range_with_len (from + 1) n)) (within from (omega arith) (omega arith))
    ∙ ap (λ (l : List (List ℕ)). f from ∷ l) (all_kept first last f (from + 1) n (λ y low high. within y (omega arith) (omega arith)))

-- a span lies among so many
pub record LiesWithin (span : Span) (count : ℕ) : Type 0 where
  pub in_order : span.first ≤ span.last
  pub below : span.last < count

-- of all rows those of the span are kept
rows_kept_are : (r : Span) (h : ℕ) (f : ℕ → List ℕ) → LiesWithin r h → flat_map (kept r.first r.last f) (range_with_len 0 h)
    ≡ map f (range_with_len r.first (span_count r))
rows_kept_are r h f lies =
    let after : ℕ = h - (r.last + 1) in
    let parts : h ≡ r.first + (span_count r + after) = omega arith in
    let at : 0 + r.first ≡ r.first = omega arith in
    let prefix : List ℕ = range_with_len 0 r.first in
    let middle : List ℕ = range_with_len r.first (span_count r) in
    let back : List ℕ = range_with_len (r.first + span_count r) after in
    let split : range_with_len 0 h ≡ prefix ++ (middle ++ back) =
    ap (range_with_len 0) parts ∙ range-append 0 r.first (span_count r + after)
    ∙ ap (λ (l : List ℕ). prefix ++ l) (ap (λ (b : ℕ). range_with_len b (span_count r + after)) at ∙ range-append r.first (span_count r) after) in
    let g : ℕ → List (List ℕ) = kept r.first r.last f in
    let before : flat_map g prefix ≡ [] =
    none_kept r.first r.last f 0 r.first (λ y low high. and_left (nat_le r.first y) (nat_le y r.last) (lt-leb r.first y (omega arith))) in
    let within : flat_map g middle ≡ map f middle =
    all_kept r.first r.last f r.first (span_count r)
    (λ y low high. and_from (nat_le r.first y) (nat_le y r.last) (le-leb r.first y (omega arith)) (le-leb y r.last (omega arith))) in
    let beyond : flat_map g back ≡ [] =
    none_kept r.first r.last f (r.first + span_count r) after
    (λ y low high. and_right (nat_le r.first y) (nat_le y r.last) (lt-leb y r.last (omega arith))) in
    ap (flat_map g) split ∙ flat_map-append g prefix (middle ++ back) ∙ ap (λ (l : List (List ℕ)). l ++ flat_map g (middle ++ back)) before
    ∙ flat_map-append g middle back ∙ ap (λ (l : List (List ℕ)). flat_map g middle ++ l) beyond ∙ append-nil (flat_map g middle) ∙ within

-- ---- the columns of one row

columns_cut : (xs : List ℕ) (w d h y first count : ℕ) → first + count ≤ w → y < h → length xs ≡ h * (w * d)
    → columns 0 count d (λ x p. slice_index xs ((y * w + (x + first)) * d + p)) ≡ take (count * d) (drop (first * d) (take (w * d) (drop (y * (w * d)) xs)))
columns_cut xs w d h y first count fits lt size =
    let each : ℕ = w * d in
    let skipped : ℕ = first * d in
    let taken : ℕ = count * d in
    let rest : ℕ = each - skipped in
    let most : (first + count) * d ≤ w * d = mul-le-mul {n₁ = first + count} {m₁ = d} {n₂ = w} {m₂ = d} fits (omega arith) in
    let both : (first + count) * d ≡ skipped + taken = add-mul first count d in
    let whole : each ≡ skipped + rest = omega arith in
    let start : (y * w + first) * d ≡ y * each + skipped = add-mul (y * w) first d ∙ ap (λ (n : ℕ). n + first * d) (mul_assoc y w d) in
    let below : suc y * each ≤ h * each = mul-le-mul {n₁ = suc y} {m₁ = each} {n₂ = h} {m₂ = each} (omega arith) (omega arith) in
    let buffer : (y * w + first) * d + count * d ≤ length xs = omega (arith, start, size, below, suc-mul y each, most, both) in
    let from : 0 + first ≡ first = omega arith in
    flat_map_shift (λ x. map (λ p. slice_index xs ((y * w + x) * d + p)) (range_with_len 0 d)) first 0 count
    ∙ ap (λ (a : ℕ). columns a count d (λ x p. slice_index xs ((y * w + x) * d + p))) from
    ∙ columns_at (λ v. v) xs (y * w) first count d buffer
    ∙ map-id (take taken (drop ((y * w + first) * d) xs))
    ∙ ap (λ (n : ℕ). take taken (drop n xs)) start
    ∙ ap (take taken) (sym (drop-drop skipped (y * each) xs))
    ∙ sym (take-take taken rest (drop skipped (drop (y * each) xs)) (omega arith))
    ∙ ap (take taken) (sym (drop-take skipped rest (drop (y * each) xs)) ∙ ap (λ (n : ℕ). drop skipped (take n (drop (y * each) xs))) (sym whole))

-- ---- the rows

-- the head of the columns and rows of spans
abbrev pub cut_by : Span → Span → HeadValue → HeadValue
cut_by columns rows head = record head { shape = record head.shape { width = span_count columns; height = span_count rows } }

-- the rows of the cut image
cut_rows_are : (c r : Span) (i : Image) → IsImage i → LiesWithin c i.head.shape.width → LiesWithin r i.head.shape.height
    → rows_of (image_by (cut_by c r i.head) (λ x y p. sample_at i (x + c.first) (y + r.first) p)) ≡ map (λ y. columns_of_row c i.head.shape.depth (row_at i y))
    (range_with_len r.first (span_count r))
cut_rows_are c r i is in_row in_image =
    let s : Shape = i.head.shape in
    let row : ℕ → List ℕ = λ y. columns 0 (span_count c) s.depth (λ x p. sample_at i (x + c.first) y p) in
    let at : 0 + r.first ≡ r.first = omega arith in
    rows_of-image_by (cut_by c r i.head) (λ x y p. sample_at i (x + c.first) (y + r.first) p)
    ∙ map_shift row r.first 0 (span_count r)
    ∙ ap (λ (a : ℕ). map row (range_with_len a (span_count r))) at
    ∙ range_alike row (λ y. columns_of_row c s.depth (row_at i y)) r.first (span_count r)
    (λ y lt. columns_cut i.samples s.width s.depth s.height y c.first (span_count c) (omega arith) (omega arith) is.count)

-- the answers to the rows
rows_cut : (box : CutBox) (i : Image) → answers_to_rows (Cut box) i.head.shape 0 (rows_of i) ≡ flat_map (λ y. cut_rows_of box i.head.shape y (row_at i y))
    (range_with_len 0 i.head.shape.height)
unfolding row_answer
rows_cut box i =
    ap (answers_to_rows (Cut box) i.head.shape 0) (rows_are i)
    ∙ numbered_rows_answered (Cut box) i.head.shape (row_at i) 0 i.head.shape.height

-- ---- the spans of an image that isn't refused

span_lies : (count : ℕ) (first last : ℤ) (span : Span) → span_within count first last ≡ Some span → LiesWithin span count
span_lies count first last span e = let lies = within_count count first last span (sym e) in record { in_order = lies.0; below = lies.1 }

-- the head of the cut image
pub record IsCutHead (cs rs : Option Span) (head result : HeadValue) : Type 0 where
  pub columns : Span
  pub rows : Span
  pub columns_are : cs ≡ Some columns
  pub rows_are : rs ≡ Some rows
  pub result_is : result ≡ cut_by columns rows head

head_cut : (none : Bool) (cs rs : Option Span) (head result : HeadValue) → (if none then Err OutOfOrder else head_of_spans head cs rs) ≡ Ok result
    → IsCutHead cs rs head result
head_cut true cs rs head result e = absurd cc
head_cut false (Some c) (Some r) head result e = record { columns = c; rows = r; columns_are = refl; rows_are = refl; result_is = cc }
head_cut false (Some c) None head result e = absurd cc
head_cut false None rs head result e = absurd cc

-- an image that isn't refused is cut to spans that lie in it
pub record IsCut (box : CutBox) (head result : HeadValue) : Type 0 where
  pub spans : IsCutHead (columns_kept box head.shape) (rows_kept box head.shape) head result
  pub in_row : LiesWithin spans.columns head.shape.width
  pub in_image : LiesWithin spans.rows head.shape.height

pub is_cut : (box : CutBox) (head result : HeadValue) → result_head (Cut box) head ≡ Ok result → IsCut box head result
unfolding result_head
is_cut box head result e =
    let s : Shape = head.shape in
    let cut = head_cut (s.height == 0) (columns_kept box s) (rows_kept box s) head result e in
    record {
      spans = cut;
      in_row = span_lies s.width (first_kept s.width box.left box.right box.width) (last_kept s.width box.left box.right box.width) cut.columns cut.columns_are;
      in_image = span_lies s.height (first_kept s.height box.top box.bottom box.height) (last_kept s.height box.top box.bottom box.height) cut.rows
          cut.rows_are;
    }

-- ---- the whole image

answer_is : (box : CutBox) (i : Image) (result : HeadValue) → IsImage i → IsCut box i.head result
    → flat_map (λ y. cut_rows_of box i.head.shape y (row_at i y)) (range_with_len 0 i.head.shape.height) ≡ rows_of (image_by result (result_sample (Cut box) i))
unfolding result_sample
answer_is box i result is cut =
    let s : Shape = i.head.shape in
    let c : Span = cut.spans.columns in
    let r : Span = cut.spans.rows in
    ap (λ (cs : Option Span). flat_map (λ y. rows_of_spans cs (rows_kept box s) s.depth y (row_at i y)) (range_with_len 0 s.height)) cut.spans.columns_are
    ∙ ap (λ (rs : Option Span). flat_map (λ y. rows_of_spans (Some c) rs s.depth y (row_at i y)) (range_with_len 0 s.height)) cut.spans.rows_are
    ∙ rows_kept_are r s.height (λ y. columns_of_row c s.depth (row_at i y)) cut.in_image
    ∙ sym (cut_rows_are c r i is cut.in_row cut.in_image)
    ∙ ap (λ (cs : Option Span). rows_of (image_by (cut_by c r i.head) (λ x y p. sample_at i (x + first_of cs) (y + r.first) p))) (sym cut.spans.columns_are)
    ∙ ap (λ (rs : Option Span). rows_of (image_by (cut_by c r i.head) (λ x y p. sample_at i (x + first_of (columns_kept box s)) (y + first_of rs) p)))
    (sym cut.spans.rows_are)
    ∙ ap (λ (h : HeadValue). rows_of (image_by h (λ x y p. sample_at i (x + first_of (columns_kept box s)) (y + first_of (rows_kept box s)) p)))
    (sym cut.spans.result_is)

pub cut_answers_images : (box : CutBox) → AnswersImages (Cut box)
cut_answers_images box i j is e =
    let s : Shape = i.head.shape in
    let cut = is_cut box i.head j.head (result_by_head (Cut box) i j e).head in
    answered_by_rows (Cut box) i j e (
    append-nil (answers_to_rows (Cut box) s 0 (rows_of i)) ∙ rows_cut box i ∙ answer_is box i j.head is cut
    )
