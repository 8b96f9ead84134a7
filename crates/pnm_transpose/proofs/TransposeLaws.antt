-- The rows that a transposer keeps, and what is still to be given of them.
use Rattle.pnm_transpose.proofs.Words.{◌≡◌, ℕ, ◌+◌, ◌-◌, ◌*◌, ◌<◌, ◌≤◌, List, [], ◌∷◌, ◌++◌, length, reverse, refl, sym, ap, ◌∙◌, arith, map, subst, Bool, true}
use Rattle.pnm_transpose.proofs.Words.{false, if◌then◌else◌, Ok, nat_lt, range_with_len, ltb-true, length-append, length-reverse, reverse-append}
use Rattle.pnm_transpose.proofs.Words.{reverse-reverse, length-map-range_with_len, All-nil, MAX_ROW_LENGTH, SampleWidth, Bytes, Words, Kind, Bit, Gray, Color}
use Rattle.pnm_transpose.proofs.Words.{Pam, Shape, HeadValue, IsHead, Suits, row_length, sample_width_of, FlipWay, Transform, STRIP_ROWS, Flip, transform_of}
use Rattle.pnm_transpose.proofs.Words.{in_order, column_of, moved_rows, moves_rows, transformed_at_end, transformed_row, transposed_head_value, Transposed}
use Rattle.pnm_transpose.proofs.Words.{IsTransposing, transposed, transposed_due, SuitsShape, coming_column, kept_column, KeepColumns, rows_answer, result_head}
use Rattle.pnm_transpose.proofs.Words.{end_answer, small_row, alike_from, map_in_parts, in_order_nil, exchanged_moves, row_moved, is_transformed}
use Rattle.pnm_transpose.proofs.StripLaws.{come_more, coming_more, with_more}

-- ---- the rows that come

-- rows that were added, of which some may have gone into strips
pub rows_kept : {w : Transposed} (way : FlipWay) (depth : ℕ) {width width' : SampleWidth} (next columns : ℕ) {strips strips' : List (List ℕ)}
    (rows : List (List ℕ)) {rows' : List (List ℕ)} (batch : List (List ℕ)) {come : List (List ℕ)} (more : List (List ℕ)) {s : Shape} {b : Bool}
    → transposed way depth width strips rows batch next columns ≡ w → b ≡ (transform_of way).rows_reversed → width' ≡ width
    → KeepColumns b s.width s.depth strips (rows ++ more) strips' rows' → IsTransposing w s come
    → IsTransposing (transposed way depth width' strips' rows' batch next columns) s (come ++ more)
rows_kept way depth {width} next columns {strips} {strips'} rows {rows'} batch {come} more {s} is order same_width kept ready =
    let r : Bool = (transform_of way).rows_reversed in
    let h : IsTransposing (transposed way depth width strips rows batch next columns) s come =
    subst (λ (v : Transposed). IsTransposing v s come) (sym is) ready in
    let keeps : KeepColumns r s.width s.depth strips (rows ++ more) strips' rows' =
    subst (λ (c : Bool). KeepColumns c s.width s.depth strips (rows ++ more) strips' rows') order kept in
    subst (λ (v : SampleWidth). IsTransposing (transposed way depth v strips' rows' batch next columns) s (come ++ more)) (sym same_width)
    record {
      limits = h.limits;
      column = h.column;
      sample_width = h.sample_width;
      count = omega (arith, keeps.count, h.count, length-append rows more, length-append come more);
      same = λ x below. keeps.same x below ∙ coming_more r s.depth x strips rows more
          ∙ ap (λ (l : List ℕ). with_more r l (column_of s.depth (in_order r more) x)) (h.same x below) ∙ sym (come_more r s.depth x come more);
      sizes = keeps.sizes;
      none_made = h.none_made;
    }

-- ---- the rows that a transposer has still to give

-- what answers the end of an image whose columns and rows are exchanged
end_of_flip : (way : FlipWay) (s : Shape) (rows : List (List ℕ)) → end_answer (Flip way) s rows ≡ transformed_at_end (transform_of way) s rows
end_of_flip way s rows = refl

columns_answer : (way : FlipWay) (s : Shape) (rows : List (List ℕ)) → (transform_of way).exchanged ≡ true
    → end_answer (Flip way) s rows ≡ in_order (transform_of way).columns_reversed
    (map (column_of s.depth (in_order (transform_of way).rows_reversed rows)) (range_with_len 0 s.width))
columns_answer way s rows exchanged =
    let t : Transform = transform_of way in
    let columns : List (List ℕ) = in_order t.columns_reversed (map (column_of s.depth (in_order t.rows_reversed rows)) (range_with_len 0 s.width)) in
    end_of_flip way s rows
    ∙ ap (λ (b : Bool). if b then moved_rows t s rows else []) (exchanged_moves t exchanged)
    ∙ ap (λ (b : Bool). if b then columns else map (transformed_row t s) (reverse rows)) exchanged

-- nothing is due before the image has ended
none_due : (w : Transposed) → w.batch ≡ [] → w.columns ≡ 0 → transposed_due w ≡ []
none_due w no_batch no_column =
    let t : Transform = transform_of w.way in
    let f : ℕ → List ℕ = kept_column t.rows_reversed w.depth w.strips w.rows in
    let none : w.columns - w.next ≡ 0 = omega arith in
    ap (λ (l : List (List ℕ)). reverse l ++ in_order t.columns_reversed (map f (range_with_len w.next (w.columns - w.next)))) no_batch
    ∙ ap (λ (n : ℕ). in_order t.columns_reversed (map f (range_with_len w.next n))) none
    ∙ in_order_nil t.columns_reversed

module _ (way : FlipWay) (sample_width depth_width : SampleWidth) (depth next columns : ℕ) (strips rows batch : List (List ℕ)) {come : List (List ℕ)}
    {s : Shape} where
  -- the columns of all rows, once the image has ended
  pub columns_due : (transform_of way).exchanged ≡ true → IsTransposing (transposed way depth sample_width strips rows batch next columns) s come
      → transposed_due (transposed way s.depth depth_width (in_order (transform_of way).rows_reversed strips) (in_order (transform_of way).rows_reversed
      rows) batch next s.width) ≡ end_answer (Flip way) s come
  columns_due exchanged h =
      let t : Transform = transform_of way in
      let f : ℕ → List ℕ = kept_column t.rows_reversed s.depth (in_order t.rows_reversed strips) (in_order t.rows_reversed rows) in
      let g : ℕ → List ℕ = column_of s.depth (in_order t.rows_reversed come) in
      let all : s.width - next ≡ s.width = omega (arith, h.none_made.1) in
      let same : map f (range_with_len 0 s.width) ≡ map g (range_with_len 0 s.width) =
      alike_from f g 0 0 s.width (λ i lt. let place : 0 + i ≡ i = omega arith in ap f place ∙ h.same i lt ∙ ap g (sym place)) in
      ap (λ (l : List (List ℕ)). reverse l ++ in_order t.columns_reversed (map f (range_with_len next (s.width - next)))) h.none_made.0
      ∙ ap (λ (n : ℕ). in_order t.columns_reversed (map f (range_with_len next n))) all
      ∙ ap (λ (n : ℕ). in_order t.columns_reversed (map f (range_with_len n s.width))) h.none_made.1
      ∙ ap (λ (l : List (List ℕ)). in_order t.columns_reversed l) same
      ∙ sym (columns_answer way s come exchanged)

  -- what the code holds at an image's end is the answer to it, and nothing was due before
  pub end_due : {w : Transposed} {b : Bool} {strips' rows' : List (List ℕ)} → (transform_of way).exchanged ≡ true
      → transposed way depth sample_width strips rows batch next columns ≡ w → b ≡ (transform_of way).rows_reversed → strips' ≡ in_order b strips
      → rows' ≡ in_order b rows → IsTransposing w s come
      → transposed_due (transposed way s.depth depth_width strips' rows' batch next s.width) ≡ transposed_due w ++ end_answer (Flip w.way) s come
  end_due {w} {rows'} exchanged is order strips_so rows_so h =
      let before : IsTransposing (transposed way depth sample_width strips rows batch next columns) s come =
      subst (λ (v : Transposed). IsTransposing v s come) (sym is) h in
      let r : Bool = (transform_of way).rows_reversed in
      ap (λ (l : List (List ℕ)). transposed_due (transposed way s.depth depth_width l rows' batch next s.width))
      (strips_so ∙ ap (λ (c : Bool). in_order c strips) order)
      ∙ ap (λ (l : List (List ℕ)). transposed_due (transposed way s.depth depth_width (in_order r strips) l batch next s.width))
      (rows_so ∙ ap (λ (c : Bool). in_order c rows) order)
      ∙ columns_due exchanged before
      ∙ ap (λ (v : Transposed). end_answer (Flip v.way) s come) is
      ∙ ap (λ (l : List (List ℕ)). l ++ end_answer (Flip w.way) s come) (sym (none_due w h.none_made.0 h.none_made.2))

-- nor do rows that come answer anything
pub none_answer : (way : FlipWay) (s : Shape) (y : ℕ) (rows : List (List ℕ)) → moves_rows (transform_of way) ≡ true → rows_answer (Flip way) s y rows ≡ []
none_answer way s y [] moves = refl
none_answer way s y (row ∷ rows) moves =
    ap (λ (l : List (List ℕ)). l ++ rows_answer (Flip way) s (y + 1) rows) (row_moved way s y row moves) ∙ none_answer way s (y + 1) rows moves

pub due_while_rows_come : {w : Transposed} (way : FlipWay) (depth : ℕ) (width width' : SampleWidth) (next columns : ℕ)
    (strips strips' rows rows' batch : List (List ℕ)) {come : List (List ℕ)} {s : Shape} (y : ℕ) (more : List (List ℕ)) → (transform_of way).exchanged ≡ true
    → transposed way depth width strips rows batch next columns ≡ w → IsTransposing w s come
    → transposed_due (transposed way depth width' strips' rows' batch next columns) ≡ rows_answer (Flip w.way) s y more
due_while_rows_come way depth width width' next columns strips strips' rows rows' batch {s} y more exchanged is h =
    none_due (transposed way depth width' strips' rows' batch next columns) (ap (λ (v : Transposed). v.batch) is ∙ h.none_made.0)
    (ap (λ (v : Transposed). v.columns) is ∙ h.none_made.2)
    ∙ sym (none_answer way s y more (exchanged_moves (transform_of way) exchanged))
    ∙ ap (λ (v : Transposed). rows_answer (Flip v.way) s y more) is

-- the batch that is made holds the columns that were the next to be made
pub first_made : (way : FlipWay) (depth : ℕ) (sample_width : SampleWidth) (next columns count : ℕ) {b : Bool} (strips rows : List (List ℕ))
    {batch : List (List ℕ)} → (transform_of way).columns_reversed ≡ false → b ≡ (transform_of way).rows_reversed → next + count ≤ columns
    → batch ≡ reverse (map (kept_column b depth strips rows) (range_with_len next count))
    → transposed_due (transposed way depth sample_width strips rows batch (next + count) columns) ≡ transposed_due (transposed way depth sample_width strips
    rows [] next columns)
first_made way depth sample_width next columns count {b} strips rows {batch} first_first order within is =
    let f : ℕ → List ℕ = kept_column (transform_of way).rows_reversed depth strips rows in
    let made : batch ≡ reverse (map f (range_with_len next count)) = is
    ∙ ap (λ (c : Bool). reverse (map (kept_column c depth strips rows) (range_with_len next count))) order in
    let parts : columns - next ≡ count + (columns - (next + count)) = omega arith in
    let rest : List (List ℕ) = map f (range_with_len (next + count) (columns - (next + count))) in
    ap (λ (b : Bool). reverse batch ++ in_order b rest) first_first
    ∙ ap (λ (l : List (List ℕ)). l ++ rest) (ap reverse made ∙ reverse-reverse (map f (range_with_len next count)))
    ∙ sym (ap (λ (n : ℕ). map f (range_with_len next n)) parts ∙ map_in_parts f next count (columns - (next + count)))
    ∙ ap (λ (b : Bool). in_order b (map f (range_with_len next (columns - next)))) (sym first_first)

-- a batch of some columns has some
pub batch_some : (f : ℕ → List ℕ) (first count : ℕ) {batch : List (List ℕ)} → batch ≡ reverse (map f (range_with_len first count)) → 0 < count
    → 0 < length batch
batch_some f first count is some =
    omega (arith, ap length is, length-reverse (map f (range_with_len first count)), length-map-range_with_len f first count, some)

-- where the last columns come first, they were the last ones
pub last_made : (way : FlipWay) (depth : ℕ) (sample_width : SampleWidth) (next columns first count : ℕ) {b : Bool} (strips rows : List (List ℕ))
    {made batch : List (List ℕ)} → (transform_of way).columns_reversed ≡ true → b ≡ (transform_of way).rows_reversed → next ≤ first → first + count ≡ columns
    → made ≡ reverse (map (kept_column b depth strips rows) (range_with_len first count)) → batch ≡ reverse made
    → transposed_due (transposed way depth sample_width strips rows batch next first) ≡ transposed_due (transposed way depth sample_width strips rows [] next
    columns)
last_made way depth sample_width next columns first count {b} strips rows {made} {batch} last_first order within ends given turned =
    let f : ℕ → List ℕ = kept_column (transform_of way).rows_reversed depth strips rows in
    let is : made ≡ reverse (map f (range_with_len first count)) = given
    ∙ ap (λ (c : Bool). reverse (map (kept_column c depth strips rows) (range_with_len first count))) order in
    let parts : (first - next) + count ≡ columns - next = omega arith in
    let place : next + (first - next) ≡ first = omega arith in
    let before : List (List ℕ) = map f (range_with_len next (first - next)) in
    let last : List (List ℕ) = map f (range_with_len first count) in
    let all : map f (range_with_len next (columns - next)) ≡ before ++ last =
    ap (λ (n : ℕ). map f (range_with_len next n)) (sym parts) ∙ map_in_parts f next (first - next) count
    ∙ ap (λ (n : ℕ). before ++ map f (range_with_len n count)) place in
    ap (λ (b : Bool). reverse batch ++ in_order b before) last_first
    ∙ ap (λ (l : List (List ℕ)). reverse l ++ reverse before) (turned ∙ ap reverse is ∙ reverse-reverse last)
    ∙ sym (ap reverse all ∙ reverse-append before last)
    ∙ ap (λ (b : Bool). in_order b (map f (range_with_len next (columns - next)))) (sym last_first)

-- ---- the head

-- a column of an image is within the limits where the head with its sizes exchanged is made
column_small : (way : FlipWay) (head : HeadValue) {made : HeadValue} → (transform_of way).exchanged ≡ true → result_head (Flip way) head ≡ Ok made
    → head.shape.height * head.shape.depth ≤ MAX_ROW_LENGTH
column_small way head {made} exchanged e = small_row (transposed_head_value head).shape ((is_transformed way head made e).limits exchanged)

-- bytes hold samples up to 255
narrow_suits : (s : Shape) (b : Bool) → nat_lt s.maxval 256 ≡ b → SuitsShape (if b then Bytes else Words) s
narrow_suits s true e = let below : s.maxval < 256 = ltb-true s.maxval 256 e in omega arith
narrow_suits s false e = tt

kind_suits : (kind : Kind) (s : Shape) (text : List ℕ) → Suits kind s.depth s.maxval text → SuitsShape (sample_width_of kind s.maxval) s
kind_suits Bit s text suits = (omega (arith, suits.1), suits.0)
kind_suits Gray s text suits = narrow_suits s (nat_lt s.maxval 256) refl
kind_suits Color s text suits = narrow_suits s (nat_lt s.maxval 256) refl
kind_suits Pam s text suits = narrow_suits s (nat_lt s.maxval 256) refl

-- the rows of an image can be held as its kind and maxval ask
width_suits : (s : Shape) (text : List ℕ) → Suits s.kind s.depth s.maxval text → SuitsShape (sample_width_of s.kind s.maxval) s
width_suits s text suits = kind_suits s.kind s text suits

-- nothing is kept
none_come : {X : Type 0} (b : Bool) (depth x : ℕ) → coming_column {X = X} b depth [] [] x ≡ column_of depth (in_order b []) x
none_come true depth x = refl
none_come false depth x = refl

-- a transposer that has begun is ready for the first row
pub ready_to_transpose : (way : FlipWay) (depth : ℕ) {sample_width : SampleWidth} {strips rows batch : List (List ℕ)} {next columns : ℕ}
    {head made : HeadValue} → (transform_of way).exchanged ≡ true → IsHead head → result_head (Flip way) head ≡ Ok made
    → sample_width ≡ sample_width_of head.shape.kind head.shape.maxval → strips ≡ [] → rows ≡ [] → batch ≡ [] → next ≡ 0 → columns ≡ 0
    → IsTransposing (transposed way depth sample_width strips rows batch next columns) head.shape []
ready_to_transpose way depth {sample_width} {rows} {batch} {next} {columns} {head} exchanged sound e is no_strips no_rows no_batch none no_column =
    subst (λ (l : List (List ℕ)). IsTransposing (transposed way depth sample_width l rows batch next columns) head.shape []) (sym no_strips)
    (subst (λ (l : List (List ℕ)). IsTransposing (transposed way depth sample_width [] l batch next columns) head.shape []) (sym no_rows)
    record {
      limits = sound.limits;
      column = column_small way head exchanged e;
      sample_width = subst (λ (p : SampleWidth). SuitsShape p head.shape) (sym is) (width_suits head.shape head.tuple_type sound.suits);
      count = omega arith;
      same = λ x below. none_come (transform_of way).rows_reversed head.shape.depth x;
      sizes = record {
        each_strip = All-nil (λ strip. length strip ≡ head.shape.width * (STRIP_ROWS * head.shape.depth));
        each_row = All-nil (λ row. length row ≡ row_length head.shape);
      };
      none_made = (no_batch, none, no_column);
    })
